pub mod Spelling
pub mod TaskLines
