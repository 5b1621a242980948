pub mod Roots
pub mod Raising
