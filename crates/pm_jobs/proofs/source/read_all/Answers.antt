use Rattle.std.proofs.Common.{rules, ◌++◌, take, inr, arith, refl}
use Rattle.std.proofs.lemmas.List.{length-append, length-take}
use Rattle.std.proofs.lemmas.Result.{err_from_is_err_and}
use Rattle.std.proofs.KnownBytes.{Consumes-trans}
use Rattle.pm_jobs.proofs.source.read_all.Goals as goal

pub returns-then-count-len-clause-cause : goal.returns-then-count-len-clause-cause
returns-then-count-len-clause-cause g c =
    let read = take c.in-Ok.count c.read.new.buf in (
      c.reading.input.items ++ read,
      Consumes-trans _ _ _ _ read c.reading.invariant.so_far c.in-Ok.ensures.bytes.0,
      (refl, inr (simp (length-append, length-take) (omega (arith, c.in-Ok.ensures.bound, c.reading.input.ok.0)))),
    )

pub returns-in_err-extend_from_slice-clause-cause : goal.returns-in_err-extend_from_slice-clause-cause
returns-in_err-extend_from_slice-clause-cause g c =
    let p = err_from_is_err_and c.from_residual.result c.from_residual.ensures.1 in
    let read = take c.in-Ok.count c.read.new.buf in
    rw (p.1, p.2) (
      c.reading.input.items ++ read,
      Consumes-trans _ _ _ _ read c.reading.invariant.so_far c.in-Ok.ensures.bytes.0,
      (refl, search rules, simp (length-append, length-take) (omega (arith, c.in-Ok.ensures.bound, c.reading.input.ok.0))),
    )
