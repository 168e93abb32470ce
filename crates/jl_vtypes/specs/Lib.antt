pub mod Asking
pub mod Assignability
pub mod Listed
pub mod Unanswered
