pub mod RuleMade
pub mod Holding
pub mod QuadLaws
pub mod ExprLaws
pub mod ChoiceLaws
pub mod StatementLaws
pub mod BlockLaws
pub mod Examples
