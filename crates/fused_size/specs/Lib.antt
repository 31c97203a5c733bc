pub mod Sizes
pub mod SumLaws
pub mod SizeLaws
pub mod JoinedSizes
