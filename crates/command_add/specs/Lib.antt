pub mod AddLaws
pub mod AddSystemLaws
