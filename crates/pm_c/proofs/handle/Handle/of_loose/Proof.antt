-- Proof of `of_loose`: the handle takes the pointer and owns the block.
use Rattle.std.proofs.Common.{◌≡◌, List, [], ◌∷◌, ◌++◌, refl}
use Rattle.std.specs.Prelude.{Some}
use mir.Syntax.{Fn}
use mir.Val.{Val, vptr}
use base.Logic.{SProp, emp}
use base.Fml.{ftrue}
use prog.Wp.{Env, WpFn}
use contract.Monad.{fact, fact_i}
use contract.Running.{tables}
use types.Kit.{‵, raw, ◌⊛◌, prop, ◌$◌, ◌∵◌, !, qed, by, move, keep, drop, use0, split, regoal, fsplit, fjoin, fpack}
use types.Part.{agg, sub, whole}
use types.Run.{stop, fld, of_opd, no_more, and_then, returns, enter}
use types.ByLocal.{alloc_all, pass_all, free_all, look_at, get, get_in, sets, env}
use denote.RattleType.{RattleType, owns}
use denote.RawPtr.{Ptr, block_ptr}
use denote.Signature.{types_at}
use denote.Steps.{nothing}
use denote.Triple.Entry.{alive}
use denote.Triple.Walked.{Stays, stay_dropped, walk_of}
use Rattle.std.proofs.alloc.Calls.{Goes-blank}
use Rattle.std.proofs.raw_atomic.Walks.{proved_at, leaves}
use Rattle.std.specs.declared.alloc.Global.{Global}
use Rattle.std.specs.contracts.alloc.Global as heap
use Rattle.std.proofs.alloc.Global.TheLaws as heap_laws
use Rattle.std.specs.contracts.impls.GlobalAllocator.TheImpl.{ghosts}
use Rattle.std.specs.Box.Ownership.{box_owns}
use Rattle.pm_c.specs.contracts.held.Held as held
use Rattle.pm_c.proofs.LooseValues.{both, loose_good, loose_out}
use Rattle.pm_c.proofs.Values.{slot_at, handle_val, handle_own, handle_made}
use Rattle.pm_c.specs.contracts.handle.Handle as handle
use Rattle.pm_c.specs.contracts.handle.Handle.of_loose.{ended, clauses}
use Rattle.pm_c.specs.contracts.handle.Handle.of_loose.Key.{name as #self}
use Rattle.pm_c.proofs.handle.Handle.of_loose.Statement.{statement}
use Rattle.pm_c.proofs.handle.Handle.of_loose.Code as compiled

pub of_loose_spec : {M : Type 1} → statement M
of_loose_spec 𝓤 𝓛 𝓜 𝓡 wired =
    let H = 𝓛.H in
    let En₀ = ended in
    let c = clauses 𝓛 𝓜.mem 𝓡.returns in
    let fn : Fn = compiled.function in
    let stays : Stays En₀.signature.params En₀.kept = (stay_dropped (slot_at 0 En₀.signature.params) En₀.kept.0, tt) in
    let C = (tables 𝓤 H 𝓜 𝓡 𝓡.env).C in
    let Λ = (tables 𝓤 H 𝓜 𝓡 𝓡.env).Λ in
    let R : RattleType = held.the_row in
    let Z : RattleType = heap.the_row in
    let LZ = heap_laws.the_row_laws in
    proved_at 𝓛 En₀ stays c 𝓜 𝓡 (Goes-blank 𝓛 0 (slot_at 0 En₀.signature.params) En₀.kept.0 (λ κs x f. tt), tt) #self fn
    (compiled.unfolded 𝓤 H 𝓜 𝓡 wired) (λ z are.
    let Post : Val → SProp 𝓤 = (walk_of 𝓛 En₀ stays c).post z in
    let d = z.0.3.0 in
    qed 𝓛 ((raw (alive 𝓛 En₀.signature z.0.0 z.0.1) ⊛ ‵ (owns (types_at En₀.signature.params z.0.0) z.0.3 z.0.4)) ∷ ‵ ftrue ∷ []) ∵ move ! (1 ∷ []) $
    drop ! $ split ! $ move ! (1 ∷ []) $
    fsplit ! $ loose_out R Z LZ ghosts ! d z.0.4.0 (λ b o h e ws fits.
    let p : Ptr = block_ptr b o in
    let x : (handle.the_row).Denot = record { at = p; held = Some d.value } in
    regoal ! (λ (us : List Val). prop (WpFn 𝓤 H C Λ fn us Post)) (λ i. ws i ++ []) refl $
    enter ! C Λ fn (both (vptr b o) h ∷ []) Post $
    alloc_all ! (λ l. pass_all ! refl (loose_good R Z LZ ghosts b o h fits, tt) $ let En : Env 𝓤 𝓛.H = env fn.locals l in
    sets ! (of_opd ! (get_in ! (fld ! refl (stop !)) (sub ! 0 refl (whole !)))) refl (tt, tt) $
    sets ! (of_opd ! (get ! refl)) refl (tt, tt) $
    sets ! (agg ! (and_then ! (get ! refl) (no_more !))) refl (tt, (tt, tt)) $
    returns ! (look_at ! 0 refl) $ free_all ! refl $
    fpack ! Global (λ (own : Global). box_owns (ghosts.dealloc_token own) R p d.value) d.alloc $
    use0 𝓛 (‵ (handle_own p (handle_val p ∷ []))) (handle_made 𝓛 p) $ fjoin ! $
    use0 𝓛 (raw (fact 𝓤 (Some d.value ≡ Some d.value))) (fact_i 𝓤 (Some d.value ≡ Some d.value) (emp 𝓤) refl) $ nothing ! $ nothing ! $ fjoin ! $
    keep ! (5 ∷ 0 ∷ 2 ∷ 1 ∷ []) $
    by ! (leaves 𝓛 En₀ stays c z (handle_val p) x (tt, tt) (tt, tt)))))
