pub mod Replied
pub mod Listed
pub mod Found
pub mod RepliedLaws
pub mod QueryLaws
pub mod RowLaws
pub mod DecidedLaws
