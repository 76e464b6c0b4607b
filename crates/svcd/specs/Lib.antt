pub mod Reached
pub mod LeavesLaws
