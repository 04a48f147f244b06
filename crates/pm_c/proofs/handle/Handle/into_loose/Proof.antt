-- Proof of `into_loose`: a null pointer means that the handle is empty. With any other pointer, the handle owns a
-- block.
use Rattle.std.proofs.Common.{◌≡◌, List, [], ◌∷◌, ◌++◌, refl, sym, ap, ◌∙◌, lit<}
use Rattle.std.specs.Prelude.{Option, Some, None, option_map}
use mir.Syntax.{Fn}
use mir.Val.{Val, vptr, vcons, vnil}
use base.Logic.{SProp, emp}
use prog.Wp.{Env, WpFn}
use contract.Monad.{fact, fact_i}
use contract.Running.{tables}
use types.Kit.{‵, raw, ◌⊛◌, prop, at_ret, ◌$◌, ◌∵◌, !, qed, by, move, keep, drop, use0, use1, split, regoal, fsplit, fjoin}
use types.Match.{live}
use types.Part.{agg, sub, whole}
use types.Run.{stop, fld, lit, of_opd, bin, no_more, and_then, first, branches, exec, returns, enter}
use types.ByLocal.{alloc_all, pass_all, free_all, look_at, get, get_in, sets, sets_last, env}
use denote.Param.{layout}
use denote.RattleType.{RattleType, owns}
use denote.RawPtr.{Ptr, block_ptr, null_ptr, tests_null}
use denote.Signature.{Slot, types_at, type_at}
use denote.Steps.{nothing}
use denote.Triple.Entry.{alive}
use denote.Triple.Walked.{Stays, stay_dropped, walk_of}
use Rattle.std.proofs.ResultValues.{and_tt}
use Rattle.std.proofs.alloc.Calls.{Goes-blank, handle_tells}
use Rattle.std.proofs.alloc.Shapes.{after}
use Rattle.std.proofs.cell.Inside.{Good}
use Rattle.std.proofs.option.Made.{Some-of, none_of}
use Rattle.std.proofs.raw_atomic.Walks.{proved_at, leaves}
use Rattle.std.specs.contracts.alloc.Global as heap
use Rattle.std.proofs.alloc.Global.TheLaws as heap_laws
use Rattle.std.specs.contracts.impls.GlobalAllocator.TheImpl.{ghosts}
use Rattle.pm_c.specs.contracts.held.Held as held
use Rattle.pm_c.proofs.LooseValues.{both, al, Loose, loose_good, loose_in}
use Rattle.pm_c.proofs.Values.{slot_at, handle_val, handle_told, handle_typed, either_owned}
use Rattle.pm_c.specs.contracts.handle.Handle.into_loose.{ended, clauses}
use Rattle.pm_c.specs.contracts.handle.Handle.into_loose.Key.{name as #self}
use Rattle.pm_c.proofs.handle.Handle.into_loose.Statement.{statement}
use Rattle.pm_c.proofs.handle.Handle.into_loose.Code as compiled

pub into_loose_spec : {M : Type 1} → statement M
into_loose_spec 𝓤 𝓛 𝓜 𝓡 wired =
    let H = 𝓛.H in
    let En₀ = ended in
    let c = clauses 𝓛 𝓜.mem 𝓡.returns in
    let fn : Fn = compiled.function in
    let own : Slot En₀.signature.lifetimes = slot_at 0 En₀.signature.params in
    let heap_slot : Slot En₀.signature.lifetimes = slot_at 1 En₀.signature.params in
    let stays : Stays En₀.signature.params En₀.kept = (stay_dropped own En₀.kept.0, (stay_dropped heap_slot En₀.kept.1.0, tt)) in
    let C = (tables 𝓤 H 𝓜 𝓡 𝓡.env).C in
    let Λ = (tables 𝓤 H 𝓜 𝓡 𝓡.env).Λ in
    let R : RattleType = held.the_row in
    let Z : RattleType = heap.the_row in
    let LZ = heap_laws.the_row_laws in
    let Lr : RattleType = Loose R Z LZ ghosts in
    let seen : Option Lr.Denot → Option R.Denot = option_map (λ loose. loose.value) in
    proved_at 𝓛 En₀ stays c 𝓜 𝓡 (Goes-blank 𝓛 0 own En₀.kept.0 (λ κs x f. tt), (Goes-blank 𝓛 0 heap_slot En₀.kept.1.0 (λ κs x f. tt), tt)) #self fn
    (compiled.unfolded 𝓤 H 𝓜 𝓡 wired) (λ z are.
    let Post : Val → SProp 𝓤 = (walk_of 𝓛 En₀ stays c).post z in
    let d = z.0.3.0 in
    let a = z.0.3.1.0 in
    let Out : RattleType = type_at En₀.signature.result z.0.0 in
    qed 𝓛 ((raw (alive 𝓛 En₀.signature z.0.0 z.0.1) ⊛ ‵ (owns (types_at En₀.signature.params z.0.0) z.0.3 z.0.4))
    ∷ raw ((c z.0.0 z.0.3).requires z.1) ∷ []) ∵ move ! (1 ∷ []) $ drop ! $ split ! $ move ! (1 ∷ []) $
    fsplit ! $ fsplit ! $ drop ! $ move ! (1 ∷ []) $ fsplit ! $ handle_tells (al R Z LZ ghosts) ! a z.0.4.1.0 (λ h ha fits. move ! (2 ∷ []) $
    either_owned R ! d.at d.held
    (λ at_null empty. let told : z.0.4.0 ≡ handle_val null_ptr ∷ [] = handle_told d.at z.0.4.0 are.0.0 ∙ ap (λ (q : Ptr). handle_val q ∷ []) at_null in
    regoal ! (λ (us : List Val). prop (WpFn 𝓤 H C Λ fn us Post)) (λ i. told i ++ (ha i ++ [])) refl $
    enter ! C Λ fn (handle_val null_ptr ∷ h ∷ []) Post $
    alloc_all ! (λ l. pass_all ! refl (handle_typed null_ptr, (fits, tt)) $ let En : Env 𝓤 𝓛.H = env fn.locals l in
    sets ! (of_opd ! (get_in ! (fld ! refl (stop !)) (sub ! 0 refl (whole !)))) refl (tt, record { fits = lit< tt }) $
    sets ! (bin ! (get ! refl) (lit ! tt) tt) refl (tt, tt) $ first ! $ branches ! (get ! refl)
    (λ _. sets_last ! (agg ! (and_then ! (lit ! tt) (no_more !))) refl (tt, (record { fits = lit< tt }, tt)) $
    exec ! C Λ En (after 3 fn.body) (at_ret En Post) $ sets ! (of_opd ! (get ! refl)) refl (tt, (record { fits = lit< tt }, tt)) $
    returns ! (look_at ! 0 refl) $ free_all ! refl $
    use0 𝓛 (‵ (Out.own_val None (live 0 vnil ∷ []))) (none_of 𝓛 Lr) $
    use0 𝓛 (raw (fact 𝓤 (seen None ≡ d.held))) (fact_i 𝓤 (seen None ≡ d.held) (emp 𝓤) (sym empty)) $ nothing ! $ nothing ! $ fjoin ! $ nothing ! $
    fjoin ! $ keep ! (5 ∷ 0 ∷ 2 ∷ 1 ∷ []) $
    by ! (leaves 𝓛 En₀ stays c z (live 0 vnil) None (tt, (tt, tt)) (tt, (tt, tt))))
    (λ wrong. absurd wrong)))
    (λ b o freed x at_block full tested.
    let p : Ptr = block_ptr b o in
    let told : z.0.4.0 ≡ handle_val p ∷ [] = handle_told d.at z.0.4.0 are.0.0 ∙ ap (λ (q : Ptr). handle_val q ∷ []) at_block in
    let made : Val = both (vptr b o) h in
    let good = loose_good R Z LZ ghosts b o h fits in
    let y : Lr.Denot = record { at = p; alloc = a; value = x } in
    let some : Val = live 1 (vcons made vnil) in
    let typed : Good (layout Out) some = (and_tt _ good.0, (record { fits = lit< tt }, (good.1, tt))) in
    move ! (0 ∷ 1 ∷ []) $ loose_in R Z LZ ghosts ! b o h a x $ use1 𝓛 (‵ (Out.own_val (Some y) (some ∷ []))) (Some-of 𝓛 Lr y made) $
    regoal ! (λ (us : List Val). prop (WpFn 𝓤 H C Λ fn us Post)) (λ i. told i ++ (ha i ++ [])) refl $
    enter ! C Λ fn (handle_val p ∷ h ∷ []) Post $
    alloc_all ! (λ l. pass_all ! refl (handle_typed p, (fits, tt)) $ let En : Env 𝓤 𝓛.H = env fn.locals l in
    sets ! (of_opd ! (get_in ! (fld ! refl (stop !)) (sub ! 0 refl (whole !)))) refl (tt, tt) $
    sets ! (bin ! (get ! refl) (lit ! tt) (tests_null p tested)) refl (tt, tt) $ first ! $ branches ! (get ! refl)
    (λ wrong. absurd wrong)
    (λ _. sets ! (of_opd ! (get ! refl)) refl (tt, tt) $
    sets ! (agg ! (and_then ! (get ! refl) (and_then ! (get ! refl) (no_more !)))) refl good $
    sets_last ! (agg ! (and_then ! (lit ! tt) (and_then ! (get ! refl) (no_more !)))) refl typed $
    exec ! C Λ En (after 3 fn.body) (at_ret En Post) $ sets ! (of_opd ! (get ! refl)) refl typed $
    returns ! (look_at ! 0 refl) $ free_all ! refl $
    use0 𝓛 (raw (fact 𝓤 (seen (Some y) ≡ d.held))) (fact_i 𝓤 (seen (Some y) ≡ d.held) (emp 𝓤) (sym full)) $ nothing ! $ nothing ! $ fjoin ! $ nothing ! $
    fjoin ! $ keep ! (4 ∷ 0 ∷ 2 ∷ 1 ∷ []) $
    by ! (leaves 𝓛 En₀ stays c z some (Some y) (tt, (tt, tt)) (tt, (tt, tt))))))))
