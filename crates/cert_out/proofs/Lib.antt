pub mod Rounds
pub mod Inducing
pub mod Proving
pub mod TextLines
