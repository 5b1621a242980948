pub mod Order
pub mod Entries
pub mod StateGraph
pub mod Tree
pub mod EmptyPrefix
