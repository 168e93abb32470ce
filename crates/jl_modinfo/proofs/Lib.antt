mod Rows
mod TextRows
pub mod WritingLaws
pub mod MoreLaws
pub mod AllLaws
pub mod LimitLaws
pub mod MemberLaws
pub mod NeedLaws
pub mod PackageLaws
pub mod FrontLaws
pub mod BodyLaws
pub mod AttributeLaws
pub mod FileLaws
pub mod IndexLaws
pub mod BodyWritten
pub mod FileWritten
pub mod SizeLaws
pub mod KeptLaws
mod FilledRows
pub mod PartLaws
pub mod Longer
