-- Definitions.
pub mod Base
pub mod Laws
pub mod Made
pub mod Ready
pub mod Images
pub mod Rows
pub mod Table
