pub mod Graph
pub mod Layering
pub mod Settling
pub mod Reached
pub mod Laws
pub mod Inside
pub mod Ranks
pub mod RankLaws
