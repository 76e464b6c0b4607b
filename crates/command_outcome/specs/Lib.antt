pub mod AskedLaws
pub mod Asked
pub mod Outcome
pub mod OutcomeLaws
pub mod Calls
