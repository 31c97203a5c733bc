pub mod Emitted
pub mod ByteLaws
pub mod AloneLaws
pub mod PutLaws
pub mod HeldLaws
