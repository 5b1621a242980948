pub mod Goal
