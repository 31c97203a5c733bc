pub mod ResultLaws
pub mod WritingLaws
