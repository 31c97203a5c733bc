pub mod HeldKinds
pub mod FirstByteLaws
pub mod HeldLaws
pub mod OperationLaws
pub mod TableLaws
