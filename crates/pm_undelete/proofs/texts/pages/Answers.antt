use Rattle.std.proofs.Common.{◌≡◌, ◌∙◌, ◌+◌, ◌-◌, ℕ, true, false, ap, sym, arith}
use Rattle.pm_undelete.specs.Texts as texts
use Rattle.pm_undelete.proofs.Steps.{pages-last, pages-more, pages-none, pages-short}
use Rattle.pm_undelete.proofs.texts.pages.Goals as goal

pub returns-then-not-branch : goal.returns-then-not-branch
returns-then-not-branch c =
    let image = c.args.volume.now in
    let left = c.args.end - c.pages.at in
    let page : texts.is_page image c.pages.at ≡ false = sym c.in_ok-is_page.ensures.value ∙ c.if-not-branch.true in
    let none = pages-none image c.pages.at left (omega arith) page in
    let same : c.pages.count + texts.pages image c.pages.at left ≡ c.pages.count = rw none (omega arith) in
    record { count = sym same ∙ c.pages.invariant.whole }

pub returns-then-is_zero_block : goal.returns-then-is_zero_block
returns-then-is_zero_block c =
    let image = c.args.volume.now in
    let left = c.args.end - c.pages.at in
    let page : texts.is_page image c.pages.at ≡ true = sym c.in_ok-is_page.ensures.value ∙ c.if-not-branch.false in
    let zeros : texts.is_zero_block image (c.pages.at + 3) ≡ true = sym c.if-is_zero_block.ensures.value in
    let last = pages-last image c.pages.at left (omega arith) page zeros in
    let same : c.pages.count + texts.pages image c.pages.at left ≡ c.pages.count + 1 = rw last (omega arith) in
    record { count = sym same ∙ c.pages.invariant.whole }

pub pages-preserved : goal.pages-preserved
pages-preserved c =
    let image = c.args.volume.now in
    let at = c.pages.at in
    let left = c.args.end - at in
    let page : texts.is_page image at ≡ true = sym c.in_ok-is_page.ensures.value ∙ c.if-not-branch.false in
    let zeros : texts.is_zero_block image (at + 3) ≡ false = sym c.if-is_zero_block.ensures.value in
    let room : left - 2 ≡ c.args.end - (at + 2) = omega arith in
    let more : texts.pages image at left ≡ 1 + texts.pages image (at + 2) (c.args.end - (at + 2)) =
    pages-more image at left (omega arith) page zeros ∙ ap (λ (k : ℕ). 1 + texts.pages image (at + 2) k) room in
    let same : c.pages.count + texts.pages image at left
    ≡ c.pages.count + 1 + texts.pages image (at + 2) (c.args.end - (at + 2)) = rw more (omega arith) in
    record {
      whole = sym same ∙ c.pages.invariant.whole;
      place = omega (arith, c.pages.invariant.place);
      within = omega arith;
    }

pub returns : goal.returns
returns c =
    let image = c.args.volume.now in
    let left = c.args.end - c.pages.at in
    let none = pages-short image c.pages.at left (omega arith) in
    let same : c.pages.count + texts.pages image c.pages.at left ≡ c.pages.count = rw none (omega arith) in
    record { count = sym same ∙ c.pages.invariant.whole }
