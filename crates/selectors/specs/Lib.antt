pub mod Limits
pub mod Noted
pub mod Members
pub mod Left
