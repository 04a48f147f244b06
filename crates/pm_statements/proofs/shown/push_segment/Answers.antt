use Rattle.std.proofs.Common.{◌<◌, ◌+◌, arith, refl, string_bytes}
use Rattle.pm_codefile.specs.Segments.{attributes_in, procedures_in}
use Rattle.pm_statements.specs.Files.{numbered_text}
use Rattle.pm_statements.proofs.Filed.{next_table}
use Rattle.pm_statements.proofs.shown.push_segment.Goals as goal

pub loop-done-preserved : goal.loop-done-preserved
loop-done-preserved c =
    let k = c.args.known.now in
    let segment = c.args.sized.now.segment.now in
    let done = c.loop-done.done in
    let count = procedures_in segment in
    let before = string_bytes c.loop-done.text in
    let shown = c.loop-done.shown.items in
    let more : done < count = omega (arith, c.loop-done-test.true, c.procedures-done-end.ensures.count) in
    record {
      text = next_table k segment shown _ done count _ before _ (numbered_text k segment shown (done + 1) (attributes_in segment (done + 1))) more
          c.in_ok-push_numbered.ensures.shown refl c.in_ok-push_numbered.ensures.text c.loop-done.invariant.text;
      decoded = c.in_ok-push_numbered.ensures.decoded;
    }
