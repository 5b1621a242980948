pub mod Gathering
pub mod Stepping
pub mod Choices
pub mod Meaning
pub mod Asking
pub mod HavingFact
