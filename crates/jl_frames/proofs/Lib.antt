pub mod AgainLaws
pub mod ChangeLaws
pub mod FrameLoop
pub mod ItemLaws
mod Rows
pub mod TagLaws
pub mod WholeLaws
pub mod FittingLaws
