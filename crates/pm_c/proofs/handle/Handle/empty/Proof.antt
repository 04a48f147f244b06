-- Proof of `empty`: the pointer is null, and the handle owns nothing.
use Rattle.std.proofs.Common.{◌≡◌, [], ◌∷◌, refl}
use Rattle.std.specs.Prelude.{Option, None}
use mir.Syntax.{Fn}
use mir.Val.{Val}
use base.Logic.{SProp, emp}
use prog.Wp.{Env}
use contract.Monad.{fact, fact_i}
use contract.Running.{tables}
use base.Fml.{ftrue}
use types.Kit.{fpack, ‵, raw, ◌⊛◌, ◌$◌, ◌∵◌, !, qed, by, move, keep, use0, split, fjoin, drop}
use types.Part.{agg}
use types.Run.{lit, no_more, and_then, returns, enter}
use types.ByLocal.{alloc_all, pass_all, free_all, look_at, sets, env}
use denote.RattleType.{owns}
use denote.RawPtr.{Ptr, null_ptr}
use denote.Signature.{types_at}
use denote.Steps.{nothing}
use denote.Triple.Entry.{alive}
use denote.Triple.Walked.{Stays, walk_of}
use Rattle.std.proofs.raw_atomic.Walks.{proved_at, leaves}
use Rattle.pm_c.specs.declared.held.Held.{Held}
use Rattle.pm_c.proofs.Values.{handle_val, handle_own, handle_made, handle_typed}
use Rattle.pm_c.specs.contracts.handle.Handle as handle
use Rattle.pm_c.specs.contracts.handle.Handle.empty.{ended, clauses}
use Rattle.pm_c.specs.contracts.handle.Handle.empty.Key.{name as #self}
use Rattle.pm_c.proofs.handle.Handle.empty.Statement.{statement}
use Rattle.pm_c.proofs.handle.Handle.empty.Code as compiled

pub empty_spec : {M : Type 1} → statement M
empty_spec 𝓤 𝓛 𝓜 𝓡 wired =
    let H = 𝓛.H in
    let En₀ = ended in
    let c = clauses 𝓛 𝓜.mem 𝓡.returns in
    let fn : Fn = compiled.function in
    let stays : Stays En₀.signature.params En₀.kept = tt in
    let C = (tables 𝓤 H 𝓜 𝓡 𝓡.env).C in
    let Λ = (tables 𝓤 H 𝓜 𝓡 𝓡.env).Λ in
    proved_at 𝓛 En₀ stays c 𝓜 𝓡 tt #self fn (compiled.unfolded 𝓤 H 𝓜 𝓡 wired) (λ z are.
    let Post : Val → SProp 𝓤 = (walk_of 𝓛 En₀ stays c).post z in
    let p : Ptr = null_ptr in
    let none : Option Held = None in
    qed 𝓛 ((raw (alive 𝓛 En₀.signature z.0.0 z.0.1) ⊛ ‵ (owns (types_at En₀.signature.params z.0.0) z.0.3 z.0.4)) ∷ ‵ ftrue ∷ []) ∵ move ! (1 ∷ []) $
    drop ! $ split ! $ keep ! (0 ∷ []) $
    let x : (handle.the_row).Denot = record { at = p; held = none } in
    enter ! C Λ fn [] Post $
    alloc_all ! (λ l. pass_all ! refl tt $ let En : Env 𝓤 𝓛.H = env fn.locals l in
    sets ! (agg ! (and_then ! (lit ! tt) (no_more !))) refl (handle_typed p) $
    returns ! (look_at ! 0 refl) $ free_all ! refl $
    nothing ! $ fpack ! (p ≡ null_ptr) (λ _. ftrue) refl $ use0 𝓛 (‵ (handle_own p (handle_val p ∷ []))) (handle_made 𝓛 p) $ fjoin ! $
    use0 𝓛 (raw (fact 𝓤 (none ≡ none))) (fact_i 𝓤 (none ≡ none) (emp 𝓤) refl) $ nothing ! $ move ! (3 ∷ 0 ∷ 2 ∷ 1 ∷ []) $
    by ! (leaves 𝓛 En₀ stays c z (handle_val p) x tt tt)))
