pub mod Rows
pub mod RowLaws
pub mod Asked
pub mod ShownLaws
pub mod AskedLaws
pub mod ListedLaws
