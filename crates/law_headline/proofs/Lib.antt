pub mod PutLaws
pub mod Played
