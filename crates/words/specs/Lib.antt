pub mod Reading
pub mod SkipLaws
pub mod RunLaws
pub mod TokenLaws
pub mod WordLaws
pub mod NameLaws
pub mod Keywords
pub mod KeywordLaws
