use Rattle.std.proofs.Common.{◌++◌, ◌∙◌, ◌+◌, ◌-◌, List, ap, sym, arith, append-nil, append_assoc}
use Rattle.pm_undelete.specs.Found as found
use Rattle.pm_undelete.specs.declared.finding.Candidate.{Candidate}
use Rattle.pm_undelete.proofs.Steps.{found-end, found-more}
use Rattle.pm_undelete.proofs.finding.push_area.Goals as goal

pub places-preserved : goal.places-preserved
places-preserved c =
    let image = c.args.volume.now in
    let n = c.places.n in
    let before = c.places.list.items in
    let more = found.found_from image (n + 1) (c.args.end - (n + 1)) in
    let here = found.listed (found.look_at image n (c.args.end - n)) in
    record {
      whole = rw (c.in_ok-push_listed.ensures.listed, c.in_ok-candidate.ensures.candidate)
          (append_assoc before here more
          ∙ ap (λ (t : List Candidate). before ++ t) (sym (found-more image n c.args.end (omega arith)))
          ∙ c.places.invariant.whole);
    }

pub returns : goal.returns
returns c =
    let before = c.places.list.items in
    record {
      found = sym (append-nil before)
          ∙ ap (λ (t : List Candidate). before ++ t) (sym (found-end c.args.volume.now c.places.n c.args.end (omega arith)))
          ∙ c.places.invariant.whole;
    }
