pub mod Answered
pub mod Named
pub mod NamedLaws
pub mod Demand
