pub mod Calls
pub mod Pairs
pub mod Answers
pub mod Rounds
