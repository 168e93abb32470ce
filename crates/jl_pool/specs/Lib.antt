pub mod Builder
pub mod Content
pub mod Pool
pub mod Reading
pub mod Spelling
pub mod Laws
