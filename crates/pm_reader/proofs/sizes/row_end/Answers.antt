use Rattle.std.proofs.Common.{◌≡◌, ◌<◌, ◌∙◌, ℕ, subst, sym, ap}
use Rattle.std.specs.Prelude.{IfSome}
use Rattle.pm_code.proofs.Sizes.{end-seen}
use Rattle.pm_code.specs.Program.{end_of}
use Rattle.pm_line.specs.Views.{text_seen}
use Rattle.pm_reader.proofs.sizes.row_end.Goals as goal

pub returns : goal.returns
returns c =
    let same = sym (end-seen text_seen c.args.at c.items.result.now) ∙ ap (end_of c.args.at) c.items.ensures.items in
    record {
      end = subst (λ (end : ℕ). IfSome c.items_end.result (λ n. n ≡ end)) same c.items_end.ensures.end;
      too_long = λ none. subst (λ (end : ℕ). 18446744073709551615 < end) same (c.items_end.ensures.too_long none);
    }
