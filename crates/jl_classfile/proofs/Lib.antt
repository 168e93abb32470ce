pub mod AttributeLaws
pub mod Faults
pub mod FrontLaws
pub mod Loops
pub mod Moved
pub mod Single
pub mod Slots
