pub mod Removed
pub mod KeepLaws
pub mod RemovedLaws
