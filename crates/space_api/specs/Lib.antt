pub mod View
pub mod Frames
pub mod Owned
pub mod Listing
pub mod Costs
pub mod Tidied
pub mod Operators
pub mod States
