pub mod Adding
pub mod AddingLaws
pub mod AskedLaws
