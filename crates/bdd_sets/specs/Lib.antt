pub mod Sets
pub mod Splits
pub mod Marks
pub mod Ends
pub mod Occurs
pub mod Placed
pub mod Steps
pub mod Leading
