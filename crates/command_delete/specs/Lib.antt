pub mod Asked
pub mod AskedLaws
pub mod DeleteLaws
