-- Lemmas.
pub mod Begun
pub mod Counting
pub mod Beside
pub mod Checking
pub mod Defined
pub mod Entries
pub mod Filling
pub mod FileLaws
pub mod Followed
pub mod Found
pub mod GoingOn
pub mod Granted
pub mod Staying
pub mod Starting
pub mod Layered
pub mod Interfaces
pub mod KeptFiles
pub mod Leading
pub mod Leaving
pub mod Waiting
pub mod Yielding
pub mod Modules
pub mod Once
pub mod Packages
pub mod Numbering
pub mod Placed
pub mod Places
pub mod Ranked
pub mod Remembered
pub mod Soundness
pub mod Superclasses
mod BegunRows
mod Rows
