pub mod Values
pub mod Rows
pub mod Table
pub mod Boxes
pub mod Ascii
pub mod Script
pub mod Outside
