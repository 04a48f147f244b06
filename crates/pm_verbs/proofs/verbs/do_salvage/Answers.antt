use Rattle.std.proofs.Common.{rules}
use Rattle.pm_jobs.specs.Streams.{both}
use Rattle.pm_verbs.proofs.VerbLaws.{known_salvage}
use Rattle.pm_verbs.proofs.verbs.do_salvage.Goals as goal

pub returns-clause-said : goal.returns-clause-said
returns-clause-said g c = λ sound. known_salvage
    (both (g.I.Source.seen c.args.source.now) (g.O.Sink.seen c.args.sink.now))
    (both (g.I.Source.seen c.run-outcome.new.source) (g.O.Sink.seen c.run-outcome.new.sink))
    (g.S.Store.files c.args.store.now) (g.S.Store.files c.hold.new.self) (g.S.Store.files c.read.new.self)
    _ c.args.plan c.in_ok-image.image c.run-outcome.result
    c.as_str-2.result.now c.as_str-3.result.now (search rules) (search rules)
    (c.run-outcome.ensures.exact sound) c.hold.ensures.stays c.read.ensures.stays c.in_ok-image.ensures.value
    c.in_ok-save_image.ensures.saved
