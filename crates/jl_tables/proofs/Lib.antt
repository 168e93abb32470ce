mod Rows
pub mod NameLaws
pub mod TableLaws
pub mod EntryLaws
pub mod Later
