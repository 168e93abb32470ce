pub mod Grammar
pub mod Reading
pub mod Tags
pub mod Fitting
