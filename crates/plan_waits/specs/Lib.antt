pub mod Reads
pub mod Gathering
pub mod ReadLaws
pub mod ArgumentLaws
pub mod LeftLaws
pub mod GatherLaws
