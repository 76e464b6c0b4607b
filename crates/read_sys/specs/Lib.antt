pub mod MemberSteps
pub mod MemberLaws
pub mod SysSteps
pub mod SysvarLaws
pub mod SysLaws
