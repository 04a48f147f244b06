pub mod RunLaws
pub mod UntilLaws
pub mod QuickLaws
