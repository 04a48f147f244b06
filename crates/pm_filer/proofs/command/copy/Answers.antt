use Rattle.std.proofs.Common.{◌≡◌, Some, rules}
use Rattle.std.proofs.lemmas.Result.{err_from_is_err_and}
use Rattle.pm_volume.specs.Files.{file_bytes}
use Rattle.pm_filer.proofs.Made.{made-unadded}
use Rattle.pm_filer.proofs.command.copy.Goals as goal

pub returns-in_err-add-clause-refusal : goal.returns-in_err-add-clause-refusal
returns-in_err-add-clause-refusal c =
    let p = err_from_is_err_and c.from_residual-in_err-add.result c.from_residual-in_err-add.ensures.1 in
    let found : c.args.entry ≡ Some c.in_ok-entry.entry = search rules in
    let bytes : file_bytes c.args.from.now c.in_ok-entry.entry ≡ Some c.in_ok-bytes.bytes.now = search rules in
    rw (p.1, p.2, found, bytes) (made-unadded _ _ _ _ _ _ c.in_err-add.ensures.refusal)
