pub mod Stepped
pub mod StepLaws
