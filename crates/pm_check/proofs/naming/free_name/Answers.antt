use Rattle.std.proofs.Common.{◌≡◌, ◌<◌, ◌∙◌, sym, refl, arith, true, false}
use Rattle.std.specs.Option.{is_none}
use Rattle.pm_volume.specs.Files.{file_named}
use Rattle.pm_check.specs.Naming.{numbered}
use Rattle.pm_check.proofs.Names.{free_from-found, free_from-more, free_none}
use Rattle.pm_check.proofs.naming.free_name.Goals as goal

pub returns-then-is_none : goal.returns-then-is_none
returns-then-is_none c =
    let below : c.loop-n.n < 77 = omega arith in
    let free : is_none (file_named c.args.volume.now (numbered c.args.name.now c.loop-n.n)) ≡ true =
    rw (← c.in_ok-text.ensures.name, ← c.as_str.ensures.value, ← c.find.ensures.first, c.is_none.ensures, c.if-is_none.true) refl in
    record { name = c.in_ok-text.ensures.name ∙ sym (free_from-found c.args.volume.now c.args.name.now c.loop-n.n 77 below free) ∙ c.loop-n.invariant }

pub loop-n-preserved : goal.loop-n-preserved
loop-n-preserved c =
    let below : c.loop-n.n < 77 = omega arith in
    let stay : is_none (file_named c.args.volume.now (numbered c.args.name.now c.loop-n.n)) ≡ false =
    rw (← c.in_ok-text.ensures.name, ← c.as_str.ensures.value, ← c.find.ensures.first, c.is_none.ensures, c.if-is_none.false) refl in
    sym (free_from-more c.args.volume.now c.args.name.now c.loop-n.n 77 below stay) ∙ c.loop-n.invariant

pub returns : goal.returns
returns c =
    let e = free_none c.args.volume.now c.args.name.now c.loop-n.n (omega arith) (omega arith) c.loop-n.invariant in
    record { name = rw (← e) c.numbered-2.ensures.name }
