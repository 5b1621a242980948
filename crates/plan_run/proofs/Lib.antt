pub mod Given
pub mod Going
pub mod Serving
pub mod Owing
mod Listed
mod Members
pub mod Ended
pub mod Reached
pub mod Costed
pub mod Keeping
