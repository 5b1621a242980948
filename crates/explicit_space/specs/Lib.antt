pub mod Members
pub mod Explicit
pub mod Seen
pub mod Steps
pub mod Begun
pub mod Spent
