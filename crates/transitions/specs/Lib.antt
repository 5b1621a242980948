pub mod Levels
pub mod Relations
pub mod Ready
pub mod Touched
pub mod NextValues
