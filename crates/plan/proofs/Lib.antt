pub mod WaitLaws
pub mod AcceptedLaws
pub mod AnyOrderLaws
pub mod SameGroupsLaws
pub mod CountLaws
pub mod FirstLaws
pub mod SameLaws
