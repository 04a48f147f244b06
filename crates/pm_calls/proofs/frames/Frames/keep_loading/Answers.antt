use Rattle.pm_calls.proofs.TableLaws.{Agrees-keeps}
use Rattle.pm_calls.proofs.frames.Frames.keep_loading.Goals as goal

pub returns-clause-agrees : goal.returns-clause-agrees
returns-clause-agrees c = λ h.
    let kept = Agrees-keeps _ _ _ _ c.put_code.ensures.watch h in
    record {
      matches = λ quiet.
          let m = rw (← c.self.view_is) at (kept.matches quiet) in
          record { bases = rw (c.of.ensures.registers, c.registers-old.ensures.registers) m.bases; kept = m.kept; watched = m.watched };
    }
