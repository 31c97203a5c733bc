pub mod Walking
pub mod ExprLaws
pub mod BlockLaws
