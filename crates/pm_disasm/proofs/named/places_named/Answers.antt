use Rattle.std.proofs.Common.{◌+◌, ◌∙◌, ℕ, drop, length, map, get_or, sym, ap, arith, option_map}
use Rattle.std.specs.Prelude.{◌||◌}
use Rattle.std.proofs.lemmas.List.{at_drop_all, at_drop_more}
use Rattle.pm_disasm.specs.Follow.{written_by}
use Rattle.pm_code.specs.Program.{is_among}
use Rattle.pm_code.specs.Shown.{named_places}
use Rattle.pm_disasm.specs.Views.{has, found_seen, part_seen}
use Rattle.pm_disasm.proofs.PlaceSets.{part_step, places_by, or_false}
use Rattle.pm_disasm.proofs.named.places_named.Goals as goal
use Rattle.pm_disasm.proofs.named.places_named.Goals.{in-Some, in_default}

pub loop-part-preserved : goal.loop-part-preserved
loop-part-preserved c =
    let parts = c.args.parts.now in
    let k = c.loop-part.part-index in
    let test = has c.args.boundaries.now in
    let allowed = c.args.allowed in
    let o = option_map found_seen c.item_led.result in
    let rest = map part_seen (drop (k + 1) parts) in
    let before = λ (p : ℕ). ap (λ b. has c.loop-part.named p || b)
    (sym (at_drop_more (λ ps. is_among (named_places (written_by test allowed (map part_seen ps))) p) parts k _ c.loop-part-test.true))
    ∙ c.loop-part.invariant.places p in
    elim c.match-item_led.branch [
      | in-Some w ↦ record {
        alike = (ap (λ s. s.begin) w.named-is ∙ w.add_item.ensures.alike.0, ap (λ s. length s.marks.items) w.named-is ∙ w.add_item.ensures.alike.1);
        places = λ p. ap (λ s. has s p || is_among (named_places (written_by test allowed rest)) p) w.named-is
            ∙ part_step test allowed (part_seen (get_or parts k _)) rest p _ (has c.loop-part.named p) _ o c.item_led.ensures.item
            (w.add_item.ensures.has p ∙ ap (λ r. is_among (places_by (option_map found_seen r)) p || has c.loop-part.named p) (sym w.in-Some.is)) (before p);
      }
      | in_default w ↦ record {
        alike = (ap (λ s. s.begin) w.named-is ∙ c.loop-part.invariant.alike.0, ap (λ s. length s.marks.items) w.named-is ∙ c.loop-part.invariant.alike.1);
        places = λ p. ap (λ s. has s p || is_among (named_places (written_by test allowed rest)) p) w.named-is
            ∙ part_step test allowed (part_seen (get_or parts k _)) rest p _ (has c.loop-part.named p) _ o c.item_led.ensures.item
            (ap (λ r. is_among (places_by (option_map found_seen r)) p || has c.loop-part.named p) (sym w.in_default.is)) (before p);
      }
    ]

pub returns-clause-has : goal.returns-clause-has
returns-clause-has c p =
    let parts = c.args.parts.now in
    sym (or_false (has c.loop-part.named p))
    ∙ sym (at_drop_all (λ ps. has c.loop-part.named p || is_among (named_places
    (written_by (has c.args.boundaries.now) c.args.allowed (map part_seen ps))) p) parts c.loop-part.part-index (omega arith))
    ∙ c.loop-part.invariant.places p
