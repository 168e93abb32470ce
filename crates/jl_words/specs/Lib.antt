pub mod Settings
pub mod Values
pub mod Line
pub mod Reading
pub mod Laws
