-- Definitions of pm_bytes for words and bytes in a list of bytes.
unfoldable pub use Rattle.pm_bytes.specs.Words.{word_in, written, zeros}
pub use Rattle.pm_bytes.specs.Words.{with_word_in}
