use Rattle.std.proofs.Common.{◌≡◌, ◌+◌, ◌∙◌, drop, map, get_or, sym, ap, arith, true, max, option_map}
use Rattle.std.proofs.lemmas.List.{at_drop_more}
use Rattle.pm_disasm.specs.Follow.{written_by}
use Rattle.pm_code.specs.Program.{entries_needed}
use Rattle.pm_disasm.specs.Views.{has, found_seen, part_seen}
use Rattle.pm_disasm.proofs.Needed.{needed_step, used_by}
use Rattle.pm_disasm.proofs.written.entries_needed.Goals as goal
use Rattle.pm_disasm.proofs.written.entries_needed.Goals.{in-Some, in_default}

pub loop-part-preserved : goal.loop-part-preserved
loop-part-preserved c =
    let parts = c.args.parts.now in
    let k = c.loop-part.part-index in
    let test = has c.args.boundaries.now in
    let o = option_map found_seen c.item_led.result in
    let before = ap (max c.loop-part.needed) (sym (at_drop_more (λ ps. entries_needed
    (written_by test true (map part_seen ps))) parts k _ c.loop-part-test.true)) ∙ c.loop-part.invariant in
    elim c.match-item_led.branch [
      | in-Some w ↦ (let used : w.entries_used.result ≡ used_by o = w.entries_used.ensures.entries
          ∙ ap (λ r. used_by (option_map found_seen r)) (sym w.in-Some.is) in
          ap (λ n. max n (entries_needed (written_by test true (map part_seen (drop (k + 1) parts))))) (w.needed-is ∙ w.max-needed.ensures)
          ∙ needed_step test (part_seen (get_or parts k _)) (map part_seen
          (drop (k + 1) parts)) c.loop-part.needed w.entries_used.result _ o c.item_led.ensures.item used before)
      | in_default w ↦ (let used : 0 ≡ used_by o = ap (λ r. used_by (option_map found_seen r)) (sym w.in_default.is) in
          let zero : c.loop-part.needed ≡ max 0 c.loop-part.needed = omega arith in
          ap (λ n. max n (entries_needed (written_by test true (map part_seen (drop (k + 1) parts))))) (w.needed-is ∙ zero)
          ∙ needed_step test (part_seen (get_or parts k _)) (map part_seen (drop (k + 1) parts)) c.loop-part.needed 0 _ o c.item_led.ensures.item used before)
    ]
