pub mod Groups
pub mod Counts
pub mod Writers
pub mod Balance
pub mod Rounds
pub mod Sets
