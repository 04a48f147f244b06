pub mod ChainLaws
pub mod FrameLaws
pub mod AheadLaws
pub mod GoLaws
pub mod WatchLaws
pub mod OnLaws
pub mod ConditionLaws
