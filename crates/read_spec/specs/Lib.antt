pub mod Asked
pub mod ReaderLaws
pub mod SetLaws
pub mod SpecLaws
pub mod StandardLaws
pub mod BodyLaws
pub mod SpecRequestLaws
