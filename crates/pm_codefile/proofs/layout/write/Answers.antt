use Rattle.std.proofs.Common.{rules, ◌≡◌, ◌<◌, ◌∙◌, get_or, refl, ℕ}
use Rattle.pm_codefile.specs.Layout.{layout}
use Rattle.pm_codefile.proofs.ReadBack.{layout-reads_back}
use Rattle.pm_codefile.proofs.layout.write.Goals as goal

pub returns-clause-reads_back : goal.returns-clause-reads_back
unfolding layout
returns-clause-reads_back c =
    let small : (k : ℕ) → get_or c.args.lengths.now k 0 < 65536 = λ k. search (rules, c.fits-lengths k) in
    let same : c.put_segments.new.file.items ≡ layout c.args.names.now c.args.lengths.now c.args.segments.now =
    (c.in_ok-put_segments.ensures.added ∙ rw
    (c.in_ok-put_zeros.ensures.added, c.in_ok-put_names.ensures.added, c.in_ok-put_pairs.ensures.added, c.new-file.ensures.items) refl) in
    rw same (layout-reads_back c.args.names.now c.args.lengths.now c.args.segments.now c.told-names c.told-lengths c.in_ok-put_names.ensures.eight small
    c.requires.joined)
