use Rattle.std.proofs.Common.{◌≡◌, ◌∙◌, ◌+◌, arith, rules, sym}
use Rattle.pm_tool.proofs.Talked.{typed_more, typed_over}
use Rattle.pm_tool.proofs.talk.type_into.Goals as goal

pub loop-byte-preserved : goal.loop-byte-preserved
loop-byte-preserved c =
    record {
      typed = c.loop-byte.invariant.typed
          ∙ typed_more c.args.bytes.now c.loop-byte.byte-index c.loop-byte.machine.state _ c.loop-byte-test.true (search rules);
    }

pub returns : goal.returns
returns c = record {
  typed =
      sym (c.loop-byte.invariant.typed ∙ typed_over c.args.bytes.now c.loop-byte.byte-index c.loop-byte.machine.state (omega arith));
}
