pub mod Diagram
pub mod Collected
pub mod NodeHash
pub mod WordHash
