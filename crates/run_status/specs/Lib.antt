pub mod Codes
pub mod Sent
pub mod Ends
