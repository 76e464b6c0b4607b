pub mod Forms
pub mod FormLaws
pub mod Words
pub mod WordLaws
pub mod Choices
pub mod ChoiceLaws
pub mod StandsLaws
