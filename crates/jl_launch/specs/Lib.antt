pub mod Base
pub mod Launched
pub mod Statuses
pub mod Text
pub mod Unique
pub mod Words
pub mod Writing
