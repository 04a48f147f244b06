use Rattle.std.proofs.Common.{◌∙◌, map, rules, Some, sym, ap}
use Rattle.std.proofs.lemmas.List.{map-append}
use Rattle.pm_import.proofs.Cutting.{cut_shorter, last_line, more_lines}
use Rattle.pm_import.proofs.listed.lines_of.Goals as goal

pub loop-line-smaller : goal.loop-line-smaller
loop-line-smaller c = cut_shorter c.loop-line.rest.now 10 (c.in-Some.line.now, c.in-Some.more.now) (sym c.in-Some.ensures.pieces)

pub loop-line-preserved : goal.loop-line-preserved
loop-line-preserved c = rw (c.in_ok-push.ensures.items, map-append)
    (more_lines (map (λ line. line.now) c.loop-line.lines.items) c.loop-line.rest.now c.in-Some.more.now c.args.text.now
    c.in-Some.line.now (sym c.in-Some.ensures.pieces) c.loop-line.invariant)

pub returns : goal.returns
returns c = record {
  lines = rw (c.in_ok-push-2.ensures.items, map-append)
      (last_line (map (λ line. line.now) c.loop-line.lines.items) c.loop-line.rest.now c.args.text.now
      (sym c.in_default.ensures.pieces) c.loop-line.invariant);
}
