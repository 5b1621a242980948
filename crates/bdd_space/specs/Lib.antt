pub mod Slots
pub mod Members
pub mod Symbolic
pub mod Seen
