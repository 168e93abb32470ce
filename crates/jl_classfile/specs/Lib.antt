pub mod Attributes
pub mod Front
pub mod Places
pub mod Spelling
