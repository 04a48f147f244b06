use Rattle.std.proofs.Common.{rules}
use Rattle.std.specs.Prelude.{option_map, string_bytes}
use Rattle.pm_tool.specs.declared.outcome.Job.TheVariants as jobs
use Rattle.pm_jobs.specs.Streams.{both}
use Rattle.pm_runs.proofs.SavedLaws.{kept_traces, known_tells, known_traces}
use Rattle.pm_runs.proofs.saved.do_trace.Goals as goal

pub returns-clause-said : goal.returns-clause-said
returns-clause-said g c = λ sound. known_traces (g.I.Source.seen c.args.source.now).remaining (g.S.Store.files c.args.store.now)
    _ (option_map string_bytes c.args.output)
    (both (g.I.Source.seen c.args.source.now) (g.O.Sink.seen c.args.sink.now)) (both (g.I.Source.seen c.run.new.source) (g.O.Sink.seen c.run.new.sink))
    c.run.result c.args.program c.args.selection (search rules) (search rules)
    (known_tells
    (λ disks system. jobs.Trace disks c.args.program.name c.args.program.limit system c.args.selection)
    (both (g.I.Source.seen c.args.source.now) (g.O.Sink.seen c.args.sink.now)) (both (g.I.Source.seen c.run.new.source) (g.O.Sink.seen c.run.new.sink))
    (g.S.Store.files c.args.store.now)
    c.args.program c.in_ok-disks.disks c.in_ok-disks.system c.run.result c.as_str-disk.result.now (search rules)
    (c.run.ensures.exact sound) c.in_ok-disks.ensures.values c.in_ok-disks.ensures.system)

pub returns-in-Some-clause-said : goal.returns-in-Some-clause-said
returns-in-Some-clause-said g c = kept_traces _ (g.I.Source.seen c.args.source.now).remaining (g.S.Store.files c.args.store.now)
    _ _ (option_map string_bytes c.args.output) _ _ _ c.args.program c.args.selection _ c.in_ok-disks.system
    c.as_str-disk.result.now (search rules) (search rules) (search rules) c.in_ok-disks.ensures.values c.in_ok-disks.ensures.system
    c.into_file.ensures.said
