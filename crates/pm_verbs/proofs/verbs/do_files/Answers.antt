use Rattle.pm_jobs.specs.Streams.{both}
use Rattle.pm_verbs.proofs.VerbLaws.{err_holds, known_saves_said, known_tells_verb, known_writes_all}
use Rattle.pm_verbs.proofs.VerbLaws.{known_writes_part, sound_with_image}
use Rattle.pm_verbs.proofs.verbs.do_files.Goals as goal

pub returns-clause-said : goal.returns-clause-said
returns-clause-said g c = λ sound. known_saves_said
    (both (g.I.Source.seen c.args.source.now) (g.O.Sink.seen c.args.sink.now))
    (both (g.I.Source.seen c.run-outcome.new.source) (g.O.Sink.seen c.run-outcome.new.sink))
    (g.S.Store.files c.args.store.now) (g.S.Store.files c.files_job.new.store)
    _ c.args.path.now c.args.verb c.in_ok-job.job c.run-outcome.result (c.run-outcome.ensures.exact sound) c.in_ok-job.ensures.job
    c.in_ok-job.ensures.stays c.in_ok-save_image.ensures.saved

pub returns-clause-tells : goal.returns-clause-tells
returns-clause-tells g c = λ sound. known_tells_verb
    (both (g.I.Source.seen c.args.source.now) (g.O.Sink.seen c.args.sink.now))
    (both (g.I.Source.seen c.run-outcome.new.source) (g.O.Sink.seen c.run-outcome.new.sink))
    (g.S.Store.files c.args.store.now) c.args.path.now c.args.verb c.in_ok-job.job c.run-outcome.result
    (c.run-outcome.ensures.exact sound) c.in_ok-job.ensures.job

pub returns-clause-part : goal.returns-clause-part
returns-clause-part g c = λ cut. known_writes_part
    (both (g.I.Source.seen c.args.source.now) (g.O.Sink.seen c.args.sink.now))
    (both (g.I.Source.seen c.run-outcome.new.source) (g.O.Sink.seen c.run-outcome.new.sink))
    (g.S.Store.files c.args.store.now) c.args.path.now c.args.verb c.in_ok-job.job
    (c.run-outcome.ensures.cut cut) c.in_ok-job.ensures.job

pub returns-in_err-save_image-clause-broken : goal.returns-in_err-save_image-clause-broken
returns-in_err-save_image-clause-broken g c = err_holds c.from_residual-in_err-save_image.result _ (known_writes_all
    (both (g.I.Source.seen c.args.source.now) (g.O.Sink.seen c.args.sink.now))
    (both (g.I.Source.seen c.run-outcome.new.source) (g.O.Sink.seen c.run-outcome.new.sink))
    (g.S.Store.files c.args.store.now) c.args.path.now c.args.verb c.in_ok-job.job c.run-outcome.result
    (c.run-outcome.ensures.exact
    (sound_with_image c.run-outcome.result c.in_err-save_image.ensures.some c.run-outcome.ensures.nothing_else))
    c.in_ok-job.ensures.job)
