use Rattle.std.proofs.lemmas.Result.{err_from_is_err_and}
use Rattle.pm_check.specs.Saving.{saved_one}
use Rattle.pm_check.proofs.ContentLaws.{content_added}
use Rattle.pm_check.proofs.Saves.{made-added, made-unadded}
use Rattle.pm_check.proofs.saving.save.Goals as goal

pub returns-in_err-add-clause-refusal : goal.returns-in_err-add-clause-refusal
unfolding saved_one
returns-in_err-add-clause-refusal c =
    let p = err_from_is_err_and c.from_residual.result c.from_residual.ensures.1 in
    let e = made-unadded _ _ c.args.file.now.entry.kind _ c.args.file.now.entry.date _ c.in_err-add.ensures.refusal in
    rw (p.1, p.2) (λ other. rw (c.as_str.ensures.value, c.in-Ok.ensures.name, c.characters.ensures.characters, c.bytes_of.ensures.bytes) at e)

pub returns-in-Ok-push_taken-clause-saved : goal.returns-in-Ok-push_taken-clause-saved
unfolding saved_one
returns-in-Ok-push_taken-clause-saved c =
    let e = made-added _ _ _ _ _ _ _ c.in_ok-add.ensures.added in
    rw (c.as_str.ensures.value, c.in-Ok.ensures.name, c.characters.ensures.characters, c.bytes_of.ensures.bytes) at e

pub returns-in-Ok-push_taken-clause-content : goal.returns-in-Ok-push_taken-clause-content
returns-in-Ok-push_taken-clause-content c =
    content_added _ _ _ _ _ _ _ c.in_ok-add.ensures.added c.in_ok-add.ensures.files c.in_ok-add.ensures.contents c.in_ok-add.ensures.stay
    c.bytes_of.ensures.bytes
