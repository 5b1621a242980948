pub mod Lists
pub mod System
pub mod Computed
