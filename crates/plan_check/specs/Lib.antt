pub mod Checked
pub mod InHand
pub mod Handed
pub mod CheckedLaws
pub mod AnswerLaws
pub mod HandedLaws
pub mod TakenLaws
