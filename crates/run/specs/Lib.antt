pub mod Inputs
pub mod Direct
pub mod InputLaws
pub mod DirectLaws
pub mod Examples
pub mod FusedRun
pub mod ResultLaws
