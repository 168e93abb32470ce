pub mod Parsing
pub mod Places
pub mod Pure
pub mod Searching
pub mod Undecided
pub mod ValueKinds
pub mod Wrapping
mod Rows
