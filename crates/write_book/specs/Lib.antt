pub mod SystemLaws
pub mod TextLaws
