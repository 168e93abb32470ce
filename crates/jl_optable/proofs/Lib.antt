pub mod AttributeRows
pub mod Found
pub mod Order
pub mod Rows
