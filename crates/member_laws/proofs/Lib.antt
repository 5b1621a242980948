pub mod Joining
pub mod Going
pub mod Covering
pub mod Pending
pub mod Telling
pub mod Reaching
pub mod Calls
