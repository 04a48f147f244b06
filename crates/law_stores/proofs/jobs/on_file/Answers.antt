use Rattle.std.proofs.Common.{rules, Some, codes, string_bytes}
use Rattle.law_stores.specs.Told.{told}
use Rattle.law_stores.proofs.HeldFiles.{file_cut, file_saved, file_said, file_stays}
use Rattle.law_stores.proofs.jobs.on_file.Goals as goal

pub returns-clause-unchanged : goal.returns-clause-unchanged
returns-clause-unchanged c = file_stays c.do_files-done.result
    (told (string_bytes c.in_ok-from_str.field-0) (Some c.args.image.items)) _ (codes "file") c.args.image.items
    c.in_ok-file.file.items c.in_ok-file.ensures.value c.do_files-done.ensures.unchanged (search rules)

pub returns-clause-saved : goal.returns-clause-saved
returns-clause-saved c = file_saved c.do_files-done.result
    (told (string_bytes c.in_ok-from_str.field-0) (Some c.args.image.items)) _ (codes "file") c.args.image.items
    c.in_ok-file.file.items c.in_ok-file.ensures.value c.do_files-done.ensures.saved (search rules)

pub returns-clause-cut : goal.returns-clause-cut
returns-clause-cut c = file_cut c.do_files-done.result
    (told (string_bytes c.in_ok-from_str.field-0) (Some c.args.image.items)) _ (codes "file") c.args.image.items
    c.in_ok-file.file.items c.in_ok-file.ensures.value c.do_files-done.ensures.cut (search rules)

pub returns-clause-said : goal.returns-clause-said
returns-clause-said c = file_said c.do_files-done.result
    (told (string_bytes c.in_ok-from_str.field-0) (Some c.args.image.items)) _ (codes "file") c.args.image.items
    c.in_ok-file.file.items c.args.verb (Some c.new-source.result.inner.now) c.args.typed.now
    c.in_ok-file.ensures.value c.do_files-done.ensures.said (search rules) (search rules)
