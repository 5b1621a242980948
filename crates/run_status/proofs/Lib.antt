pub mod Causes
pub mod Took
pub mod Puts
