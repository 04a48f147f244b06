pub mod ReadingLaws
pub mod WritingLaws
