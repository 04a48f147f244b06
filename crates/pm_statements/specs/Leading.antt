-- The targets of the jumps that statements contain.
use Rattle.std.specs.Prelude.{ℕ, ◌-◌, Bool, false, ◌==◌, nat_le, if◌then◌else◌, List, [], ◌∷◌, slice_get}
use Rattle.std.specs.Prelude.{Option, Some, None}
use Rattle.pm_trees.specs.declared.statement.Leads.{Leads}
use Rattle.pm_trees.specs.declared.statement.Leads.TheVariants as leads
use Rattle.pm_trees.specs.declared.statement.Statement.{Statement}
use Rattle.pm_code.specs.declared.item.Target.{Target}
use Rattle.pm_code.specs.declared.item.Target.TheVariants as targets
use Rattle.pm_families.specs.declared.families.Condition.{Condition}
use Rattle.pm_families.specs.declared.families.Condition.TheVariants as condition
use Rattle.pm_phrases.specs.declared.operand.Form.{Form}
use Rattle.pm_phrases.specs.declared.operand.Form.TheVariants as form
use Rattle.pm_phrases.specs.Shown.{Shown}
use Rattle.pm_trees.specs.declared.left.Left.{Left}
use Rattle.pm_trees.specs.declared.left.Role.{Role}
use Rattle.pm_trees.specs.declared.left.Role.TheVariants as role

-- Returns the offset of a target. Returns None if the jump table `entries` lacks the entry that the target uses.
abbrev pub place_in : List ℕ → Target ℕ → Option ℕ
place_in entries (targets.To place) = Some place
place_in entries (targets.Through k) = slice_get entries k

-- Returns an offset as a number of bytes from `start`, or None if the offset is before `start`.
abbrev pub from_start : ℕ → Option ℕ → Option ℕ
from_start start None = None
from_start start (Some place) = if nat_le start place then Some (place - start) else None

-- Is true if a text of this form is a statement. The other texts are lines of the disassembly in braces.
abbrev pub is_sentence : Form → Bool
is_sentence (form.Value strength) = strength == 0
is_sentence _ = false

abbrev pub leads_to : Condition → Form → Option ℕ → Leads
leads_to c f None = leads.Nowhere
leads_to condition.Always f (Some place) = leads.Always place
leads_to c f (Some place) = if is_sentence f then leads.ByCondition place else leads.Nowhere

abbrev pub leads_by_value : Form → Leads
leads_by_value f = if is_sentence f then leads.ByValue else leads.Nowhere

abbrev pub leads_by : ℕ → List ℕ → Role → Form → Leads
leads_by start entries (role.Jump c target) f = leads_to c f (from_start start (place_in entries target))
leads_by start entries role.Case f = leads_by_value f
leads_by start entries _ f = leads.Nowhere

-- Returns the offset of the first statement of a list, or `end` if the list is empty.
abbrev pub next_place : ℕ → List Left → ℕ
next_place end [] = end
next_place end (l ∷ ls) = l.place.offset

-- Returns the code range of the statement `l`, which ends at `behind`, and where the statement leads. The offsets of
-- the result are counted from the start of the code.
abbrev pub stretch : ℕ → List ℕ → ℕ → Left → Shown → Statement
stretch start entries behind l s = record {
  at = l.place.offset - start;
  behind = behind - start;
  leads = leads_by start entries l.role s.form;
}

-- Returns the code ranges of statements, in their order. `start` and `end` are the offsets at which the code starts and
-- ends.
unfoldable pub stretches : ℕ → List ℕ → ℕ → List Left → List Shown → List Statement
stretches start entries end [] ss = []
stretches start entries end (l ∷ ls) [] = []
stretches start entries end (l ∷ ls) (s ∷ ss) =
    stretch start entries (next_place end ls) l s ∷ stretches start entries end ls ss
