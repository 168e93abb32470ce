mod Alike
mod Changing
mod Counting
pub mod Elements
mod Fitting
mod Giving
mod Keeping
mod Placing
mod Rows
mod Setting
mod Staying
