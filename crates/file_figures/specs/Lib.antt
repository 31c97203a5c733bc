pub mod Working
pub mod RecordLaws
pub mod OperationLaws
pub mod StepLaws
pub mod AcceptedLaws
pub mod WorkingLaws
pub mod GivingLaws
