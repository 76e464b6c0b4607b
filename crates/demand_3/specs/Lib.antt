pub mod Demand
pub mod NumberedLaws
pub mod PartsLaws
pub mod EverySequence
pub mod DemandLaws
