use Rattle.std.proofs.Common.{◌∙◌, sym}
use Rattle.pm_reader.proofs.Closing.{one_more, ended_last}
use Rattle.pm_reader.proofs.reader.Reader.close.Goals as goal

pub returns-in_ok-push-2 : goal.returns-in_ok-push-2
returns-in_ok-push-2 c = record {
  ok = ended_last _ _ _ _ _ _ _ _ (sym c.take.ensures.value ∙ c.in-Some.is) c.take.ensures.after c.in-Some-pop.ensures.items c.in_ok-push-2.ensures.items
      (one_more c.in-Some-pop.segment c.push.new.self.items c.in-Some.current.procedure c.in_ok-push.ensures.items);
}
