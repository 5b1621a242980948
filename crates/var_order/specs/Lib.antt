pub mod Layout
pub mod Codes
pub mod Growth
pub mod Exchange
