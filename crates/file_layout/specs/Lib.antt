pub mod Said
pub mod LayoutLaws
