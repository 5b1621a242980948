pub mod Causes
pub mod Failing
pub mod View
pub mod Told
pub mod Memory
pub mod MemView
pub mod NoFault
