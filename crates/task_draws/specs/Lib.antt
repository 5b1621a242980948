pub mod Random
pub mod Small
