pub mod Amidst
pub mod Sides
pub mod Moving
pub mod Meaning
pub mod Rounding
