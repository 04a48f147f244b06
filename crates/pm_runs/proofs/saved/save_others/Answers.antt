use Rattle.std.proofs.Common.{inl, inr, refl}
use Rattle.std.proofs.lemmas.Result.{err_from_is_err_and}
use Rattle.pm_runs.proofs.SavedLaws.{five_are, where_err, where_ok}
use Rattle.pm_runs.proofs.saved.save_others.Goals as goal

pub returns-in_err-save_at-2-clause-front : goal.returns-in_err-save_at-2-clause-front
returns-in_err-save_at-2-clause-front g c =
    let paths = five_are c.args.paths.now c.index-paths-0.result c.index-paths-1.result c.index-paths-2.result c.index-paths-3.result
    c.index-paths-4.result c.type_inv.paths in
    let images = five_are c.args.images.now c.index-images-0.result c.index-images-1.result c.index-images-2.result c.index-images-3.result
    c.index-images-4.result c.type_inv.images in
    let r = c.from_residual-in_err-save_at-2 in
    let p = err_from_is_err_and r.result r.ensures.1 in
    rw (p.1, paths, images) (inr (_, c.in_ok-save_at.ensures.saved, inl c.in_err-save_at-2.ensures.unchanged))

pub returns-in_err-save_at-3-clause-front : goal.returns-in_err-save_at-3-clause-front
returns-in_err-save_at-3-clause-front g c =
    let paths = five_are c.args.paths.now c.index-paths-0.result c.index-paths-1.result c.index-paths-2.result c.index-paths-3.result
    c.index-paths-4.result c.type_inv.paths in
    let images = five_are c.args.images.now c.index-images-0.result c.index-images-1.result c.index-images-2.result c.index-images-3.result
    c.index-images-4.result c.type_inv.images in
    let r = c.from_residual-in_err-save_at-3 in
    let p = err_from_is_err_and r.result r.ensures.1 in
    rw (p.1, paths, images) (inr (_, c.in_ok-save_at.ensures.saved, inr (_, c.in_ok-save_at-2.ensures.saved, inl c.in_err-save_at-3.ensures.unchanged)))

pub returns-in_err-save_at-4-clause-front : goal.returns-in_err-save_at-4-clause-front
returns-in_err-save_at-4-clause-front g c =
    let paths = five_are c.args.paths.now c.index-paths-0.result c.index-paths-1.result c.index-paths-2.result c.index-paths-3.result
    c.index-paths-4.result c.type_inv.paths in
    let images = five_are c.args.images.now c.index-images-0.result c.index-images-1.result c.index-images-2.result c.index-images-3.result
    c.index-images-4.result c.type_inv.images in
    let r = c.from_residual-in_err-save_at-4 in
    let p = err_from_is_err_and r.result r.ensures.1 in
    rw (p.1, paths, images) (inr (
      _,
      c.in_ok-save_at.ensures.saved,
      inr (
        _,
        c.in_ok-save_at-2.ensures.saved,
        inr (_, c.in_ok-save_at-3.ensures.saved, inl c.in_err-save_at-4.ensures.unchanged),
      ),
    ))

pub returns-clause-saved : goal.returns-clause-saved
returns-clause-saved g c =
    let paths = five_are c.args.paths.now c.index-paths-0.result c.index-paths-1.result c.index-paths-2.result c.index-paths-3.result
    c.index-paths-4.result c.type_inv.paths in
    let images = five_are c.args.images.now c.index-images-0.result c.index-images-1.result c.index-images-2.result c.index-images-3.result
    c.index-images-4.result c.type_inv.images in
    where_ok c.save_at-5.result
    (λ saved. rw (paths, images) (
      _,
      c.in_ok-save_at.ensures.saved,
      (
        _,
        c.in_ok-save_at-2.ensures.saved,
        (
          _,
          c.in_ok-save_at-3.ensures.saved,
          (_, c.in_ok-save_at-4.ensures.saved, (_, saved, refl)),
        ),
      ),
    )) c.save_at-5.ensures.saved

pub returns-clause-front : goal.returns-clause-front
returns-clause-front g c =
    let paths = five_are c.args.paths.now c.index-paths-0.result c.index-paths-1.result c.index-paths-2.result c.index-paths-3.result
    c.index-paths-4.result c.type_inv.paths in
    let images = five_are c.args.images.now c.index-images-0.result c.index-images-1.result c.index-images-2.result c.index-images-3.result
    c.index-images-4.result c.type_inv.images in
    where_err c.save_at-5.result
    (λ stays. rw (paths, images) (inr (
      _,
      c.in_ok-save_at.ensures.saved,
      inr (
        _,
        c.in_ok-save_at-2.ensures.saved,
        inr (_, c.in_ok-save_at-3.ensures.saved, inr (_, c.in_ok-save_at-4.ensures.saved, inl stays)),
      ),
    )))
    c.save_at-5.ensures.unchanged
