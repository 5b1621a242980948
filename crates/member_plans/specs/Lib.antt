pub mod Keys
pub mod Joining
pub mod Kept
pub mod Moves
pub mod Opened
pub mod Children
pub mod Front
pub mod Engine
