pub mod SpecLaws
pub mod SystemLaws
