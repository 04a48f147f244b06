use Rattle.std.proofs.Common.{◌≡◌, ◌+◌, ◌-◌, ◌*◌, ◌++◌, ◌∙◌, List, ℕ, ap, arith, get_or, length, refl, reverse, sym, string_bytes, take}
use Rattle.pm_code.specs.Image.{listed_entries, listed_lines}
use Rattle.pm_code.specs.Program.{entry_bytes}
use Rattle.pm_code.proofs.ListedMore.{entry_listed, entry_long, entry_more}
use Rattle.pm_code.proofs.Lists.{last_first}
use Rattle.pm_code.proofs.listing.list_entries.Goals as goal

pub loop-done-preserved : goal.loop-done-preserved
loop-done-preserved c =
    let segment : ℕ = c.args.place.segment in
    let procedure : ℕ = c.args.place.procedure in
    let n : ℕ = length c.args.entries.now in
    let split = last_first c.args.entries.now n c.loop-done.done c.loop-done-test.true refl in
    let rest : List ℕ = reverse (take (n - (c.loop-done.done + 1)) c.args.entries.now) in
    let place : ℕ = get_or c.args.entries.now (n - 1 - c.loop-done.done) 0 in
    let before : List ℕ = c.loop-done.bytes.items in
    let after : List ℕ = c.list_entry.new.bytes.items in
    let first : List ℕ = string_bytes c.loop-done.text in
    let second : List ℕ = string_bytes c.list_entry.new.text in
    let behind = c.in_ok-list_entry.ensures.bytes in
    record {
      whole = entry_more before after place rest behind ∙ ap (λ ps. before ++ entry_bytes (length before) ps) (sym split) ∙ c.loop-done.invariant.whole;
      room = omega (arith, entry_long before after place behind, c.loop-done.invariant.room);
      written = λ more.
          entry_listed segment procedure before after first second place rest more behind c.in_ok-list_entry.ensures.text
          ∙ ap (λ ps. first ++ listed_lines segment (listed_entries procedure (length before) ps ++ more)) (sym split)
          ∙ c.loop-done.invariant.written more;
    }
