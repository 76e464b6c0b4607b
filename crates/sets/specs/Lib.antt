pub mod Tests
pub mod TestLaws
pub mod Sets
pub mod SetLaws
pub mod LoopLaws
pub mod RangeLaws
pub mod Answered
