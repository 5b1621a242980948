pub mod Numbers
pub mod Known
pub mod Rows
pub mod Format
pub mod Reading
pub mod Refused
pub mod Printed
