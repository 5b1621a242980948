pub mod Splitting
pub mod OfStates
mod Room
mod Members
pub mod Conjunctions
pub mod Spelled
pub mod Passing
pub mod Descending
pub mod StepLaws
pub mod FactLists
pub mod Missing
pub mod Children
