use Rattle.std.proofs.Common.{◌≡◌, true, false, subst}
use Rattle.std.specs.Str.{IsAscii}
use Rattle.std.proofs.lemmas.Str.{IsUtf8-from_ascii}
use Rattle.pm_batch.proofs.assembly.text_in_place.Goals as goal

pub unreachable-requires : goal.unreachable-requires
unreachable-requires c =
    let taken : false ≡ true = c.in-Err.ensures.succeeds (IsUtf8-from_ascii c.args.input.items
    (subst IsAscii c.deref.ensures.value c.if-not-is_ascii.ensures.cases)) in
    cc
