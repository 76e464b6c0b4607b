pub mod Ready
pub mod State
pub mod Carried
pub mod CarriedLaws
