pub mod Listed
pub mod Marks
pub mod MarkLaws
pub mod Due
pub mod DueLaws
pub mod Rows
pub mod RowLaws
pub mod ListedLaws
