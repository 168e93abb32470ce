pub mod Contents
pub mod Entries
mod Rows
pub mod Whole
pub mod BuilderLaws
pub mod PoolLaws
pub mod Longer
