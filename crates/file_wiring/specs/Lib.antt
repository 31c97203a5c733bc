pub mod Wires
pub mod FormLaws
pub mod StepLaws
pub mod RecordLaws
pub mod SameLaws
pub mod LoopLaws
pub mod TableLaws
