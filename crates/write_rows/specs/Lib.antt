pub mod RestLaws
pub mod RowLaws
pub mod WrittenLaws
