use Rattle.std.proofs.Common.{◌≡◌, ◌+◌, ◌*◌, ◌-◌, ◌%◌, ◌∙◌, get_or, sym, ap, arith}
use Rattle.std.specs.List.{list_all}
use Rattle.pm_disasm.specs.Views.{has}
use Rattle.pm_disasm.proofs.Words.{no_place, table_in, table_out}
use Rattle.pm_disasm.proofs.written.table_leads.Goals as goal

pub returns-then-not-contains : goal.returns-then-not-contains
returns-then-not-contains c =
    let bytes = c.args.table.words.now in
    let at = c.args.table.at in
    let k = c.loop-k.k in
    let place : c.table_place.result ≡ (at + 2 * k + 65536 - (get_or bytes (2 * k) 0 + 256 * get_or bytes (2 * k + 1) 0)) % 65536 = cc in
    record {
      leads = table_out (has c.args.boundaries.now) bytes at k c.table_place.result _ (omega arith) place
          (sym c.contains.ensures.has ∙ c.if-not-contains.true) c.loop-k.invariant;
    }

pub loop-k-preserved : goal.loop-k-preserved
loop-k-preserved c =
    let bytes = c.args.table.words.now in
    let at = c.args.table.at in
    let k = c.loop-k.k in
    let place : c.table_place.result ≡ (at + 2 * k + 65536 - (get_or bytes (2 * k) 0 + 256 * get_or bytes (2 * k + 1) 0)) % 65536 = cc in
    table_in (has c.args.boundaries.now) bytes at k c.table_place.result _ (omega arith) place
    (sym c.contains.ensures.has ∙ c.if-not-contains.false) c.loop-k.invariant

pub returns : goal.returns
returns c =
    let bytes = c.args.table.words.now in
    record { leads = ap (list_all (has c.args.boundaries.now)) (sym (no_place bytes c.args.table.at c.loop-k.k c.loop-k-test.false)) ∙ c.loop-k.invariant }
