pub mod Texts
pub mod Plans
pub mod Refused
pub mod Reading
pub mod Fails
pub mod Lists
pub mod Checks
