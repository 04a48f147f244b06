use Rattle.std.proofs.Common.{rules, subst}
use Rattle.std.specs.Prelude.{option_map, string_bytes}
use Rattle.pm_tool.specs.declared.outcome.Job.TheVariants as jobs
use Rattle.pm_runs.specs.Saved.{IsTyped}
use Rattle.pm_jobs.specs.Streams.{both}
use Rattle.pm_runs.proofs.SavedLaws.{known_tells, known_typed}
use Rattle.pm_runs.proofs.saved.do_debug.Goals as goal

pub returns-clause-said : goal.returns-clause-said
returns-clause-said g c = λ sound. known_typed (g.I.Source.seen c.args.source.now).remaining (g.S.Store.files c.args.store.now)
    (both (g.I.Source.seen c.args.source.now) (g.O.Sink.seen c.args.sink.now)) (both (g.I.Source.seen c.run.new.source) (g.O.Sink.seen c.run.new.sink))
    c.run.result c.args.program (option_map string_bytes c.args.typed) c.in_ok-typed.typed
    (subst (λ files. IsTyped files (option_map string_bytes c.args.typed) c.in_ok-typed.typed.items)
    c.in_ok-disks.ensures.stays c.in_ok-typed.ensures.bytes)
    (known_tells
    (λ disks system. jobs.Debug disks c.args.program.name system c.in_ok-typed.typed)
    (both (g.I.Source.seen c.args.source.now) (g.O.Sink.seen c.args.sink.now)) (both (g.I.Source.seen c.run.new.source) (g.O.Sink.seen c.run.new.sink))
    (g.S.Store.files c.args.store.now)
    c.args.program c.in_ok-disks.disks c.in_ok-disks.system c.run.result c.as_str-disk.result.now (search rules)
    (c.run.ensures.exact sound) c.in_ok-disks.ensures.values c.in_ok-disks.ensures.system)
