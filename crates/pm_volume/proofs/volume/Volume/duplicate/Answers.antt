use Rattle.std.proofs.Common.{◌≡◌, ◌∙◌, sym, subst, true, false, slice_range}
use Rattle.pm_volume.specs.Copies.{has_second}
use Rattle.pm_volume.specs.Directory.{IsVolume, directory_of, second_of}
use Rattle.pm_volume.proofs.BegunLaws.{second_said, second_unsaid}
use Rattle.pm_volume.proofs.volume.Volume.duplicate.Goals as goal

pub returns-then-not-has_second : goal.returns-then-not-has_second
returns-then-not-has_second c =
    let same = c.deref.ensures.value ∙ c.self.view_is in
    let none : has_second c.args.self.now ≡ false = rw same at (sym c.has_second.ensures.second ∙ c.if-not-has_second.true) in
    record { copies = second_unsaid c.args.self.now (subst IsVolume c.self.view_is c.self.invariant) none }

pub returns-then-are_same : goal.returns-then-are_same
returns-then-are_same c =
    let same = c.deref.ensures.value ∙ c.self.view_is in
    let said : has_second c.args.self.now ≡ true = rw same at (sym c.has_second.ensures.second ∙ c.if-not-has_second.false) in
    let first = c.deref-2.ensures.value ∙ c.self.view_is in
    let second = c.deref-3.ensures.value ∙ c.self.view_is in
    let equal : second_of c.args.self.now ≡ directory_of c.args.self.now =
    sym (rw (first, second) at (c.are_same.ensures.same.0 c.if-are_same.true)) in
    record { copies = (second_said c.args.self.now (subst IsVolume c.self.view_is c.self.invariant) said, equal) }

pub returns-else-are_same : goal.returns-else-are_same
returns-else-are_same c =
    let same = c.deref.ensures.value ∙ c.self.view_is in
    let said : has_second c.args.self.now ≡ true = rw same at (sym c.has_second.ensures.second ∙ c.if-not-has_second.false) in
    let first = c.deref-2.ensures.value ∙ c.self.view_is in
    let second = c.deref-3.ensures.value ∙ c.self.view_is in
    let unlike : second_of c.args.self.now ≡ directory_of c.args.self.now → ⊥ =
    λ equal.
    let there : slice_range c.deref-2.result.now 1024 3072 ≡ slice_range c.deref-3.result.now 3072 5120 = rw (first, second) (sym equal) in
    let yes = c.are_same.ensures.same.1 there in cc in
    record { copies = (second_said c.args.self.now (subst IsVolume c.self.view_is c.self.invariant) said, unlike) }
