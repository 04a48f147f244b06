-- What `dis` prints for a code file.
use Rattle.std.specs.Prelude.{◌≡◌, ℕ, false, List, [], Result, Ok, Err}
use Rattle.std.specs.Io.KnownBytes.{Appends}
use Rattle.pm_disasm.specs.Listing.{file_listing}
use Rattle.pm_disasm.specs.Shown.{file_text}
use Rattle.pm_jobs.specs.declared.fault.Fault.{Fault}
use Rattle.pm_jobs.specs.declared.output.DisOutput.{DisOutput}
use Rattle.pm_jobs.specs.declared.output.DisOutput.TheVariants as outputs
use Rattle.pm_jobs.specs.Streams.{AppendsFront, IsCause, Outgoing}
use Rattle.pm_notes.specs.Lines.{with_names}
use Rattle.pm_statements.specs.Files.{block_statements, file_statements, indented_statements}

-- States how a call that writes `text` ends. If it succeeds, it has written `text`, and no write has failed. If it
-- fails, it has written a prefix of `text`, and the fault is that of a write or of memory.
abbrev pub Writes : {A : Type 0} → Outgoing → Outgoing → List ℕ → Result A Fault → Type 0
Writes old new text (Ok a) = Appends old.contents new.contents text × (new.failed ≡ false)
Writes old new text (Err fault) = AppendsFront old.contents new.contents text × IsCause fault false new.failed []

-- The output of `dis` for a code file.
abbrev pub code_text : DisOutput → List ℕ → List ℕ
code_text outputs.Text file = file_text file
code_text outputs.Names file = with_names file (file_text file)
code_text outputs.Listing file = file_listing file
code_text outputs.Statements file = file_statements file
code_text outputs.Indented file = indented_statements file
code_text outputs.Blocks file = block_statements file
