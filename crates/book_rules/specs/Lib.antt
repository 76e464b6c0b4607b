pub mod Table
pub mod WalkLaws
pub mod RuleLaws
pub mod CompositionLaws
pub mod Test
pub mod TestLaws
