pub mod Free
pub mod Scripted
pub mod Untold
