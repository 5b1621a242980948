pub mod Noting
pub mod Present
pub mod Sifting
pub mod Keeping
