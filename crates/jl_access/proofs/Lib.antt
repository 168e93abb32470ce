-- Lemmas.
pub mod Conditions
pub mod Granting
pub mod Keys
pub mod Lists
pub mod Modules
pub mod Naming
pub mod Noting
pub mod Numbers
mod Rows
pub mod Same
pub mod Saying
pub mod Stating
pub mod Staying
