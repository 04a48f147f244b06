use Rattle.std.proofs.Common.{◌∙◌, sym, string_bytes, arith}
use Rattle.std.proofs.lemmas.Result.{err_from_is_err_and}
use Rattle.pm_check.proofs.ContentLaws.{contents_next}
use Rattle.pm_check.proofs.Saves.{counted_most, no_file, saved-done, saved-fault, saved-more}
use Rattle.pm_check.proofs.saving.save_all.Goals as goal

pub loop-file-preserved : goal.loop-file-preserved
loop-file-preserved c =
    let more = saved-more c.args.image.now c.args.taken.now c.args.count c.args.taken.now c.loop-file.file-index
    (record { volume = c.loop-file.volume; text = string_bytes c.loop-file.text; doubted = c.loop-file.doubted }) no_file c.save.new.volume
    (omega arith) c.in_ok-save.ensures.saved in
    record {
      rest = rw (c.in_ok-save.ensures.text, c.counted-doubted.ensures.count, c.doubt_of-doubt.ensures.doubt, c.sharing.ensures.first)
          (sym more ∙ c.loop-file.invariant.rest);
      contents = contents_next c.args.image.now c.loop-file.volume c.save.new.volume c.args.volume.now c.args.taken.now no_file c.loop-file.file-index
          (omega arith) c.loop-file.invariant.contents c.in_ok-save.ensures.content;
      few = rw c.counted-doubted.ensures.count (omega (arith, counted_most c.loop-file.doubted c.doubt_of-doubt.result, c.loop-file.invariant.few));
    }

pub returns-clause-saved : goal.returns-clause-saved
returns-clause-saved c =
    sym c.loop-file.invariant.rest ∙ saved-done c.args.image.now c.args.taken.now c.args.count c.args.taken.now c.loop-file.file-index _ (omega arith)

pub returns-in_err-save-clause-refusal : goal.returns-in_err-save-clause-refusal
returns-in_err-save-clause-refusal c =
    let p = err_from_is_err_and c.from_residual.result c.from_residual.ensures.1 in
    rw (p.1, p.2)
    (λ other. sym c.loop-file.invariant.rest
    ∙ saved-fault c.args.image.now c.args.taken.now c.args.count c.args.taken.now c.loop-file.file-index _ no_file _ (omega arith)
    (c.in_err-save.ensures.refusal other))
