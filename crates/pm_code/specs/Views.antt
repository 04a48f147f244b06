-- The models of the values of the code: how contracts describe targets, items, procedures and segments of src/.
use Rattle.std.specs.Prelude.{ℕ, List, map}
use Rattle.pm_code.specs.declared.item.Target.{Target}
use Rattle.pm_code.specs.declared.item.Target.TheVariants as targets
use Rattle.pm_code.specs.declared.item.Item.{Item}
use Rattle.pm_code.specs.declared.item.Item.TheVariants as items
use Rattle.pm_code.specs.declared.program.Procedure.{Procedure}
use Rattle.pm_code.specs.declared.program.Segment.{Segment}
use Rattle.pm_code.specs.Item as model
use Rattle.pm_code.specs.Item.Item.{Plain, Jump, Case, OneByte}
use Rattle.pm_code.specs.Item.Target.{To, Through}
use Rattle.pm_code.specs.Program as program

-- The models of a target and of an item, with `f` applied to each position in them.
abbrev pub target_seen : {A B : Type 0} → (A → B) → Target A → model.Target B
target_seen f (targets.To place) = To (f place)
target_seen f (targets.Through k) = Through k

abbrev pub item_seen : {A B : Type 0} → (A → B) → Item A → model.Item B
item_seen f (items.Plain instr named) = Plain instr named.items
item_seen f (items.Jump op target) = Jump op (target_seen f target)
item_seen f (items.Case low high otherwise places) = Case low high (target_seen f otherwise) (map f places.items)
item_seen f (items.OneByte b) = OneByte b

-- The models of a target and of an item of a program, whose positions are offsets.
abbrev pub placed_target : Target ℕ → model.Target ℕ
placed_target target = target_seen (λ p. p) target

abbrev pub placed_item : Item ℕ → model.Item ℕ
placed_item item = item_seen (λ p. p) item

abbrev pub procedure_seen : Procedure → program.Procedure
procedure_seen p = record {
  level = p.level;
  parameters = p.parameters;
  locals = p.locals;
  start = p.start;
  items = map placed_item p.items.items;
  exit = p.exit;
  entries = p.entries.items;
}

abbrev pub segment_seen : Segment → program.Segment
segment_seen s = record { number = s.number; name = s.name.items; procedures = map procedure_seen s.procedures.items }

-- The model of the segments of a program.
abbrev pub program_seen : List Segment → List program.Segment
program_seen segments = map segment_seen segments
