pub mod ModSteps
pub mod ModLaws
pub mod PairLaws
