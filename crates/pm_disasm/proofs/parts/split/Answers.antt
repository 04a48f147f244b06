use Rattle.std.proofs.Common.{◌≡◌, ◌+◌, ◌∷◌, ◌++◌, List, [], drop, length, map, sym, ap, ◌∙◌, arith, append_assoc, append-nil, subst, length-drop}
use Rattle.std.specs.List.{AllByRecursion}
use Rattle.pm_opcode.proofs.ReadTakes.{IsBytes-from_index}
use Rattle.pm_code.specs.Item.{IsByte}
use Rattle.pm_disasm.specs.Follow.{Follow}
use Rattle.pm_disasm.proofs.Fronts.{drop-bytes, from_bytes}
use Rattle.std.proofs.lemmas.List.{drop_all, map-append}
use Rattle.std.specs.Prelude.{◌||◌}
use Rattle.pm_disasm.specs.Offsets.{IsNextCut}
use Rattle.pm_code.specs.Program.{is_among}
use Rattle.pm_disasm.specs.Split.{Part, bytes_after_first, ends_of, part_of, parts, taken}
use Rattle.pm_disasm.specs.Views.{has, part_seen}
use Rattle.pm_disasm.proofs.Splitting.{next_part, next_places, parts_follow}
use Rattle.pm_disasm.proofs.parts.split.Goals as goal

pub parts-preserved : goal.parts-preserved
parts-preserved c =
    let before = c.parts.invariant in
    let forced = c.args.forced.now in
    let bytes = c.args.bytes.now in
    let at = c.parts.at in
    let n = length c.part_at-part.result.bytes.now in
    let p : Part = part_seen c.part_at-part.result in
    let here : p ≡ part_of at (drop at bytes) (taken forced at (drop at bytes)) =
    c.part_at-part.ensures.part ∙ ap (λ fs. part_of at (drop at bytes) (taken fs at (drop at bytes))) before.forced in
    let next : parts forced 0 at (drop at bytes) ≡ p ∷ parts forced 0 (at + n) (drop (at + n) bytes) =
    next_part forced bytes at n p c.parts-test.true here (ap (λ fs. bytes_after_first (taken fs at (drop at bytes)) + 1) (sym before.forced)
    ∙ c.part_at-part.ensures.size) in
    let rest : List Part = parts forced 0 (at + n) (drop (at + n) bytes) in
    let done : List Part = map part_seen c.parts.parts.items in
    record {
      inside = c.part_at-part.ensures.within;
      from = omega (arith, before.from);
      forced = c.moved-cuts.ensures.forced ∙ before.forced;
      next = subst (λ fs. IsNextCut fs (at + n) c.moved-cuts.result.next) (sym c.moved-cuts.ensures.forced) c.moved-cuts.ensures.next;
      split = ap (λ ps. map part_seen ps ++ rest) c.in_ok-push.ensures.items
          ∙ ap (λ ps. ps ++ rest) (map-append part_seen c.parts.parts.items (c.part_at-part.result ∷ [])) ∙ append_assoc done (p ∷ []) rest
          ∙ ap (λ ps. done ++ ps) (sym next) ∙ before.split;
      begun = c.add.ensures.alike.0 ∙ before.begun;
      sized = c.add.ensures.alike.1 ∙ before.sized;
      places = λ place. ap (λ b. b || is_among (ends_of (length bytes) rest) place) (c.add.ensures.has place)
          ∙ next_places forced bytes at n (length bytes) place p (has c.parts.boundaries place) here next
          ∙ before.places place;
    }

pub returns-clause-follow : goal.returns-clause-follow
returns-clause-follow c =
    let bytes = c.args.bytes.now in
    let begin = c.args.begin in
    let forced = c.args.forced.now in
    let none : drop c.parts.at bytes ≡ [] = drop_all c.parts.at bytes (omega arith) in
    let whole : map part_seen c.parts.parts.items ≡ parts forced 0 begin (drop begin bytes) =
    sym (append-nil (map part_seen c.parts.parts.items)) ∙ ap (λ bs. map part_seen c.parts.parts.items ++ parts forced 0 c.parts.at bs) (sym none)
    ∙ c.parts.invariant.split in
    let bounds : AllByRecursion IsByte (drop begin bytes) = drop-bytes begin bytes
    (from_bytes bytes (IsBytes-from_index bytes (λ i. omega (arith, c.type_inv.bytes i)))) in
    let from : begin + 0 ≡ begin = omega arith in
    let to : begin + length (drop begin bytes) ≡ length bytes = omega (arith, length-drop begin bytes, c.requires.inside) in
    subst (λ n. Follow n (length bytes) (map part_seen c.parts.parts.items)) from
    (subst (λ n. Follow (begin + 0) n (map part_seen c.parts.parts.items)) to
    (subst (Follow (begin + 0) (begin + length (drop begin bytes))) (sym whole) (parts_follow forced 0 begin (drop begin bytes) bounds (omega arith))))
