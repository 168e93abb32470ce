-- Lemmas.
pub mod Choosing
pub mod ConstraintRows
pub mod Cuts
pub mod Deciding
pub mod FoundAgain
pub mod GroupLeads
pub mod Hosts
pub mod HostsKept
pub mod Imposed
pub mod Joined
pub mod Judging
pub mod Lasting
pub mod Listed
pub mod Looked
pub mod Looking
pub mod MemberRows
pub mod Moved
pub mod Naming
pub mod Onwards
pub mod Outcomes
pub mod Owned
pub mod Reaching
pub mod Resolved
pub mod Searched
pub mod Settling
pub mod WorldStands
pub mod Going
pub mod Through
pub mod Targets
mod DecidedRows
mod NestRows
mod ReferenceRows
