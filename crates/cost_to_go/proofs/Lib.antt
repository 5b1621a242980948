pub mod Beside
pub mod Opening
pub mod Moving
pub mod Knowing
