use Rattle.std.proofs.Common.{◌≡◌, ◌+◌, ◌*◌, ◌-◌, ◌%◌, get_or, arith}
use Rattle.pm_disasm.specs.Views.{has}
use Rattle.pm_disasm.proofs.PlaceSets.{alike_both, inside, inside_alike, table_done, table_step, table_within}
use Rattle.pm_disasm.proofs.named.add_table.Goals as goal

pub add-requires : goal.add-requires
add-requires c =
    let bytes = c.args.table.words.now in
    let at = c.args.table.at in
    let k = c.loop-k.k in
    let place : c.table_place.result ≡ (at + 2 * k + 65536 - (get_or bytes (2 * k) 0 + 256 * get_or bytes (2 * k + 1) 0)) % 65536 = cc in
    let within = table_within (has c.args.boundaries.now) bytes at k c.table_place.result (omega arith) place c.loop-k.invariant.within in
    record {
      inside = inside_alike c.loop-k.named c.args.boundaries.now c.table_place.result c.loop-k.invariant.alike
          (inside c.args.boundaries.now c.table_place.result within.0);
    }

pub loop-k-preserved : goal.loop-k-preserved
loop-k-preserved c =
    let bytes = c.args.table.words.now in
    let at = c.args.table.at in
    let k = c.loop-k.k in
    let place : c.table_place.result ≡ (at + 2 * k + 65536 - (get_or bytes (2 * k) 0 + 256 * get_or bytes (2 * k + 1) 0)) % 65536 = cc in
    record {
      alike = alike_both c.add.new.self c.loop-k.named c.args.boundaries.now c.add.ensures.alike c.loop-k.invariant.alike;
      within = (table_within (has c.args.boundaries.now) bytes at k c.table_place.result (omega arith) place c.loop-k.invariant.within).1;
      places = λ p. table_step bytes at k c.table_place.result p _ _ _ (omega arith) place (c.add.ensures.has p) (c.loop-k.invariant.places p);
    }

pub returns-clause-has : goal.returns-clause-has
returns-clause-has c p = table_done c.args.table.words.now c.args.table.at c.loop-k.k p _ _ c.loop-k-test.false (c.loop-k.invariant.places p)
