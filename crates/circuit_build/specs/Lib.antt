pub mod Making
pub mod WantingLaws
pub mod MakingLaws
pub mod BuiltLaws
pub mod BuiltParts
