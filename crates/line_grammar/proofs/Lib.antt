pub mod Exact
pub mod Joining
pub mod Loop
pub mod Fronts
pub mod Decimals
pub mod Alone
