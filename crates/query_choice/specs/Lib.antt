pub mod ListedLaws
pub mod ChoiceLaws
