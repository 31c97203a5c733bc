pub mod GuardLaws
pub mod KindLaws
pub mod PassedLaws
