pub mod Drafts
pub mod Tasks
