pub mod Computed
pub mod FormatLaws
mod LooseValues
pub mod ProcedureLaws
pub mod SentenceLaws
pub mod SessionLaws
pub mod StatusLaws
mod Values
mod BlockLaws
