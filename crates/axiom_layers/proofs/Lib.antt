pub mod RootValues
mod FactSets
mod RuleTurns
mod PassTurns
mod LayerRules
pub mod Raised
