pub mod Staged
pub mod Turns
pub mod TurnLaws
pub mod LoopLaws
pub mod OutputLaws
pub mod Fusions
