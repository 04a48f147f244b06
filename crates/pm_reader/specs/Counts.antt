-- The counts that are checked at the end of a procedure.
use Rattle.std.specs.Prelude.{◌≡◌, ℕ, ◌+◌, Option, Some, None, length}
use Rattle.pm_reader.specs.declared.counts.Counts.{Counts}
use Rattle.pm_source.specs.Faults.{Reading, procedure_count}
use Rattle.pm_source.specs.Source.{Source, code_end, entries_used}

-- States that `counts` are the counts of the procedure `p`, which has the number `number` if it ends.
pub record AreCountsOf (number : ℕ) (p : Source) (counts : Counts) : Type 0 where
  pub procedure : counts.procedure ≡ number
  pub bytes : counts.bytes ≡ code_end 0 p.code
  pub entries : counts.entries ≡ length p.entries
  pub taken : counts.taken ≡ entries_used p.code

-- States that `counts` are the counts of the procedure that has begun and has not ended. It is false if there is no
-- such procedure.
abbrev pub AreCountsIn : ℕ → Option Source → Counts → Type 0
AreCountsIn number None counts = ⊥
AreCountsIn number (Some p) counts = AreCountsOf number p counts

-- States that `counts` are the counts of the procedure that has not ended in the state `r`.
abbrev pub AreCounts : Reading → Counts → Type 0
AreCounts r counts = AreCountsIn (procedure_count r.segments + 1) r.current counts
