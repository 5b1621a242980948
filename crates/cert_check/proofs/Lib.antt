pub mod NodeLines
pub mod CertRows
pub mod WholeCert
pub mod NodeSets
pub mod Judged
pub mod Answering
pub mod Carrying
pub mod CertSets
