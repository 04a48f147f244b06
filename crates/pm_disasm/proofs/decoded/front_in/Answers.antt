use Rattle.std.proofs.Common.{◌≡◌, ◌∙◌, ◌-◌, ◌≤◌, true, arith, ap, drop, length, option_map, refl, sym, Some}
use Rattle.std.specs.Prelude.{nat_le}
use Rattle.std.proofs.lemmas.Bool.{le-leb}
use Rattle.pm_opcode.proofs.ReadTakes.{IsBytes-from_index}
use Rattle.pm_disasm.specs.Offsets.{up_to}
use Rattle.pm_disasm.specs.Split.{front}
use Rattle.pm_disasm.specs.Views.{front_seen}
use Rattle.pm_disasm.proofs.Fronts.{from_bytes}
use Rattle.pm_disasm.proofs.Offsets.{some_size}
use Rattle.pm_disasm.proofs.decoded.front_in.Goals as goal

pub returns-clause-within : goal.returns-clause-within
returns-clause-within c =
    let bytes = c.args.bytes.now in
    let f = c.in-Some.front in
    let small : f.size ≤ length bytes - c.args.at = omega (arith, c.if-front-bytes.false) in
    let t : nat_le f.size (length bytes - c.args.at) ≡ true = le-leb _ _ small in
    let kept : Some (front_seen f) ≡ up_to (length bytes - c.args.at) (Some (front_seen f)) = rw t refl in
    let there : Some (front_seen f) ≡ front c.args.at (drop c.args.at bytes) =
    kept ∙ ap (λ o. up_to (length bytes - c.args.at) (option_map front_seen o)) (sym c.in-Some.is) ∙ c.requires.fronts.each c.args.at c.requires.inside in (
      some_size bytes c.args.at f (from_bytes bytes (IsBytes-from_index bytes (λ i. omega (arith, c.type_inv.bytes i)))) there,
      omega (arith, small, c.requires.inside),
    )
