pub mod Lines
pub mod ComponentLaws
pub mod LineLaws
