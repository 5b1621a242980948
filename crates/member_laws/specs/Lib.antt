pub mod Nodes
pub mod Told
pub mod Opening
pub mod Laws
