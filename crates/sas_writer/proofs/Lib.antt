pub mod FileRows
pub mod Growth
pub mod Numbers
pub mod Pieces
pub mod Rows
pub mod SectionRows
pub mod Small
