mod Growth
mod Finding
mod Kept
