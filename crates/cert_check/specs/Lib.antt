pub mod Reading
pub mod Refused
pub mod Judging
pub mod Carried
