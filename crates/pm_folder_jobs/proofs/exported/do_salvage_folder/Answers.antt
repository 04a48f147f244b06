use Rattle.std.proofs.Common.{rules, subst}
use Rattle.std.specs.Prelude.{option_map, vec_items}
use Rattle.pm_jobs.specs.Streams.{both}
use Rattle.pm_folder_jobs.specs.Exported.{FillsFrom}
use Rattle.pm_folder_jobs.proofs.FolderLaws.{known_folder}
use Rattle.pm_folder_jobs.proofs.exported.do_salvage_folder.Goals as goal

pub returns-clause-saves : goal.returns-clause-saves
returns-clause-saves g c = λ sound. known_folder
    (both (g.I.Source.seen c.args.source.now) (g.O.Sink.seen c.args.sink.now))
    (both (g.I.Source.seen c.run-outcome.new.source) (g.O.Sink.seen c.run-outcome.new.sink))
    (g.S.Store.files c.args.store.now) (g.F.Folder.files c.args.folder.now) (g.F.Folder.files c.fill_with.new.folder)
    (g.F.Folder.at c.fill_with.new.folder)
    c.args.plan.now c.in_ok-image.image c.run-outcome.result c.in_ok-unwritten.unwritten c.as_str.result.now
    c.as_str-2.result.now (search rules) (search rules) (c.run-outcome.ensures.exact sound) c.in_ok-image.ensures.value
    (subst (λ image. FillsFrom (g.F.Folder.files c.args.folder.now) (g.F.Folder.files c.fill_with.new.folder)
    (g.F.Folder.at c.fill_with.new.folder) c.as_str-2.result.now (option_map vec_items image) c.in_ok-unwritten.unwritten) c.take-volume.ensures.value
    c.in_ok-unwritten.ensures.filled)
