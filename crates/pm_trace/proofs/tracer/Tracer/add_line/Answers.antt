use Rattle.std.proofs.Common.{refl}
use Rattle.pm_trace.proofs.StateLine.{line_added}
use Rattle.pm_trace.proofs.tracer.Tracer.add_line.Goals as goal

pub returns : goal.returns
returns c = record {
  line = line_added c.args.machine.now.state _ _ _ _ _ _ _ _ _ _ _ _ _ _ _ _ _ _
      c.steps-count.ensures.value c.registers-registers.ensures.value c.memory-memory.ensures.value c.front-front.ensures.digits
      c.column.ensures.digits c.column-2.ensures.digits c.of.ensures.digits c.of-2.ensures.digits c.of-3.ensures.digits
      c.top.ensures.word c.column_or_dashes.ensures.text refl
      c.as_flattened.ensures.value c.in_ok-extend_from_slice.ensures.items c.in_ok-extend_from_slice-2.ensures.items
      c.in_ok-add_place.ensures.text c.in_ok-push.ensures.items;
}
