pub mod Members
pub mod Entries
pub mod Steps
pub mod Modules
pub mod Walks
pub mod Scans
pub mod Firsts
pub mod Elements
pub mod Asking
pub mod UntilFault
pub mod Laws
mod Rows
