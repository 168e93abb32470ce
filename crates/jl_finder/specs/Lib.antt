pub mod Paths
pub mod Asking
pub mod Folders
pub mod Laws
pub mod Observed
pub mod Scanning
