pub mod Facts
pub mod Kept
pub mod Whole
pub mod Verdicts
pub mod Reports
pub mod Texts
pub mod Counting
pub mod Laws
