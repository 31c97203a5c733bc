pub mod TakenLaws
pub mod DrainLaws
pub mod FrontLaws
