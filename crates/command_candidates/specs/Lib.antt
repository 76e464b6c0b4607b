pub mod CandidateLaws
pub mod Completed
pub mod CompletedLaws
