pub mod Filled
pub mod SameLaws
pub mod RestLaws
pub mod FilledLaws
