pub mod Starred
pub mod MeaningLaws
pub mod StarredProved
pub mod ArgumentOrder
pub mod Working
pub mod GroupOrder
pub mod Batches
pub mod EqualWires
