pub mod Building
pub mod Contents
pub mod Built
pub mod Faults
pub mod Hints
pub mod Keys
pub mod Writing
