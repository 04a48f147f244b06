use Rattle.std.proofs.Common.{◌++◌, ◌∷◌, ◌∙◌, ℕ, List, length, map, ap}
use Rattle.std.proofs.lemmas.List.{append-nil, drop-replicate}
use Rattle.std.specs.Char.{to_ascii_uppercase}
use Rattle.pm_volume.specs.Names.{name_field}
use Rattle.pm_volume.proofs.entry.name_field.Goals as goal

pub returns : goal.returns
unfolding name_field
returns c =
    record {
      field =
          let name = c.args.name.now in
          let raised = map to_ascii_uppercase name in
          ap (λ (t : List ℕ). length name ∷ t)
          (append-nil _ ∙ c.raise_into.ensures.raised ∙ ap (λ (t : List ℕ). raised ++ t) (drop-replicate {X = ℕ} (length name) 15 0));
    }
