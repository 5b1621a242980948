mod Growing
mod Bits
pub mod Spelling
pub mod Coding
pub mod Laying
pub mod Values
mod Exchanging
