use Rattle.std.proofs.Common.{◌≡◌, ◌∙◌, ◌+◌, arith, rules, sym}
use Rattle.pm_debug.specs.Session.{session_of}
use Rattle.pm_session.proofs.SessionLaws.{key_more, keys_over}
use Rattle.pm_session.proofs.typed.keys.Goals as goal

pub loop-byte-preserved : goal.loop-byte-preserved
loop-byte-preserved c =
    record {
      session = c.loop-byte.invariant.session
          ∙ key_more c.args.bytes.now c.loop-byte.byte-index (session_of c.loop-byte.debugger) _ c.loop-byte-test.true (search rules);
    }

pub returns : goal.returns
returns c = record {
  session =
      sym (c.loop-byte.invariant.session ∙ keys_over c.args.bytes.now c.loop-byte.byte-index (session_of c.loop-byte.debugger) (omega arith));
}
