mod TextLaws
pub mod FrontLaws
