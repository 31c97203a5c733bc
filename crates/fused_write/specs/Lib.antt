pub mod Ready
pub mod ArrayLaws
pub mod DoneLaws
pub mod StageLaws
pub mod TopLaws
pub mod PreparedLaws
pub mod WriteLaws
