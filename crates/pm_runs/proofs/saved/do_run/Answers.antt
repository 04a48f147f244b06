use Rattle.pm_plan.specs.Asked.{paths_in}
use Rattle.std.proofs.Common.{◌≡◌, IfSome, string_bytes, rules}
use Rattle.pm_jobs.specs.Streams.{both}
use Rattle.pm_tool.specs.Said.{IsCutShort, IsSoundExit}
use Rattle.pm_runs.specs.Saved.{SavesFrontSaid, SavesRun, SavesRunSaid, SavesSome, TellsRun, saved_paths}
use Rattle.pm_runs.proofs.OutputLaws.{known_tells_part, known_tells_run}
use Rattle.pm_runs.proofs.SavedLaws.{and_err, and_ok, cut_run, front_from, known_front_said}
use Rattle.pm_runs.proofs.SavedLaws.{known_run_said, run_saves, where_err}
use Rattle.pm_runs.proofs.saved.do_run.Goals as goal

pub returns-clause-saved : goal.returns-clause-saved
returns-clause-saved g c = rw c.and.ensures (and_ok
    (SavesRun (g.S.Store.files c.args.store.now) (g.S.Store.files c.save_run.new.store)
    (saved_paths c.args.saved.saving (string_bytes c.args.program.disk) (paths_in c.args.program.others)) c.args.saved.printing)
    c.save_run.result c.run-outcome.result
    (run_saves (g.S.Store.files c.args.store.now) (g.S.Store.files c.run_inputs.new.store) _ c.as_str.result.now
    (string_bytes c.args.program.disk) (paths_in c.args.program.others) c.args.saved c.run-outcome.result
    c.run_inputs.ensures.stays (search rules)) c.save_run.ensures.saved)

pub returns-clause-said : goal.returns-clause-said
returns-clause-said g c = rw c.and.ensures (and_ok
    (λ outcome. IsSoundExit outcome.exit → IfSome (g.I.Source.seen c.args.source.now).remaining (λ input.
    SavesRunSaid (g.S.Store.files c.args.store.now) (g.S.Store.files c.save_run.new.store) c.args.program c.args.saved input))
    c.save_run.result c.run-outcome.result (λ saves. λ sound. known_run_said
    (both (g.I.Source.seen c.args.source.now) (g.O.Sink.seen c.args.sink.now))
    (both (g.I.Source.seen c.run-outcome.new.source) (g.O.Sink.seen c.run-outcome.new.sink))
    (g.S.Store.files c.args.store.now) _ c.args.program c.args.saved
    c.in_ok-disks.disks c.in_ok-disks.system c.run-outcome.result (c.run-outcome.ensures.exact sound)
    c.in_ok-disks.ensures.values c.in_ok-disks.ensures.system
    (run_saves (g.S.Store.files c.args.store.now) (g.S.Store.files c.run_inputs.new.store) _ c.as_str.result.now
    (string_bytes c.args.program.disk) (paths_in c.args.program.others) c.args.saved c.run-outcome.result
    c.run_inputs.ensures.stays (search rules) saves)) c.save_run.ensures.saved)

pub returns-clause-tells : goal.returns-clause-tells
returns-clause-tells g c = rw c.and.ensures (and_ok
    (λ outcome. IsSoundExit outcome.exit → IfSome (g.I.Source.seen c.args.source.now).remaining (λ input.
    TellsRun (g.S.Store.files c.args.store.now) (g.O.Sink.seen c.args.sink.now) (g.O.Sink.seen c.save_run.new.sink) outcome
    c.args.program c.args.saved input))
    c.save_run.result c.run-outcome.result (λ prints. λ sound. known_tells_run
    (both (g.I.Source.seen c.args.source.now) (g.O.Sink.seen c.args.sink.now))
    (both (g.I.Source.seen c.run-outcome.new.source) (g.O.Sink.seen c.run-outcome.new.sink))
    (g.O.Sink.seen c.save_run.new.sink) (g.S.Store.files c.args.store.now) c.args.program c.args.saved
    c.in_ok-disks.disks c.in_ok-disks.system c.run-outcome.result
    c.in_ok-disks.ensures.values c.in_ok-disks.ensures.system (c.run-outcome.ensures.exact sound) prints)
    c.save_run.ensures.shown)

pub returns-clause-part : goal.returns-clause-part
returns-clause-part g c = known_tells_part
    (both (g.I.Source.seen c.args.source.now) (g.O.Sink.seen c.args.sink.now))
    (both (g.I.Source.seen c.run-outcome.new.source) (g.O.Sink.seen c.run-outcome.new.sink))
    (g.O.Sink.seen c.save_run.new.sink) (g.S.Store.files c.args.store.now) c.args.program c.args.saved
    c.in_ok-disks.disks c.in_ok-disks.system c.run-outcome.result
    c.in_ok-disks.ensures.values c.in_ok-disks.ensures.system c.run-outcome.ensures.exact c.run-outcome.ensures.cut
    c.save_run.ensures.part

pub returns-clause-cut : goal.returns-clause-cut
returns-clause-cut g c = rw c.and.ensures (and_ok
    (λ outcome. IsCutShort outcome.exit → g.S.Store.files c.save_run.new.store ≡ g.S.Store.files c.args.store.now)
    c.save_run.result c.run-outcome.result (λ saves. λ cut.
    let nothing = c.run-outcome.ensures.nothing_else cut in
    cut_run (g.S.Store.files c.args.store.now) (g.S.Store.files c.save_run.new.store) _ c.args.saved.printing
    c.run-outcome.result cut nothing.0 nothing.1
    (run_saves (g.S.Store.files c.args.store.now) (g.S.Store.files c.run_inputs.new.store) _ c.as_str.result.now
    (string_bytes c.args.program.disk) (paths_in c.args.program.others) c.args.saved c.run-outcome.result
    c.run_inputs.ensures.stays (search rules) saves)) c.save_run.ensures.saved)

pub returns-clause-front : goal.returns-clause-front
returns-clause-front g c = rw c.and.ensures (and_err
    (SavesSome (g.S.Store.files c.args.store.now) (g.S.Store.files c.save_run.new.store)
    (saved_paths c.args.saved.saving (string_bytes c.args.program.disk) (paths_in c.args.program.others)))
    c.save_run.result c.run-outcome.result (where_err c.save_run.result (λ saves. (
      _,
      front_from (g.S.Store.files c.args.store.now) (g.S.Store.files c.run_inputs.new.store) _ c.as_str.result.now
          (string_bytes c.args.program.disk) (paths_in c.args.program.others) c.args.saved.saving _
          c.run_inputs.ensures.stays (search rules) saves,
    )) c.save_run.ensures.front))

pub returns-clause-front_said : goal.returns-clause-front_said
returns-clause-front_said g c = rw c.and.ensures (and_err
    (IfSome (g.I.Source.seen c.args.source.now).remaining (λ input. SavesFrontSaid (g.S.Store.files c.args.store.now)
    (g.S.Store.files c.save_run.new.store) c.args.program c.args.saved input))
    c.save_run.result c.run-outcome.result (where_err c.save_run.result (λ saves. known_front_said
    (both (g.I.Source.seen c.args.source.now) (g.O.Sink.seen c.args.sink.now))
    (both (g.I.Source.seen c.run-outcome.new.source) (g.O.Sink.seen c.run-outcome.new.sink))
    (g.S.Store.files c.args.store.now) _ c.args.program c.args.saved
    c.in_ok-disks.disks c.in_ok-disks.system c.run-outcome.result c.run-outcome.ensures.exact
    c.run-outcome.ensures.nothing_else c.in_ok-disks.ensures.values c.in_ok-disks.ensures.system
    (front_from (g.S.Store.files c.args.store.now) (g.S.Store.files c.run_inputs.new.store) _ c.as_str.result.now
    (string_bytes c.args.program.disk) (paths_in c.args.program.others) c.args.saved.saving _
    c.run_inputs.ensures.stays (search rules) saves)) c.save_run.ensures.front))
