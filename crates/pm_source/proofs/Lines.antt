-- Lines have no faults if and only if their statements have no faults.
use Rattle.std.proofs.Common.{◌≡◌, ℕ, ◌+◌, Bool, true, false, not, List, [], ◌∷◌, ◌++◌, refl, sym, ap, ◌∙◌}
use Rattle.std.specs.Prelude.{◌&&◌, ◌||◌}
use Rattle.std.specs.List.{list_any}
use Rattle.pm_source.specs.declared.fault.AsmFault.{AsmFault}
use Rattle.pm_source.specs.declared.fault.AsmFault.TheVariants.{Syntax, Unknown, Range, Twice}
use Rattle.pm_source.specs.Source.{Statement}
use Rattle.pm_source.specs.Line.{Flaw, Line}
use Rattle.pm_source.specs.Line.Flaw.{NoFlaw, OutOfRange, UnknownType}
use Rattle.pm_source.specs.Line.Line.{Blank, Wrong, Strange, Says}
use Rattle.pm_source.specs.Faults.{Reading, after, after_line, is_in_place, is_again, is_miscounted, is_begin, is_end}
use Rattle.pm_source.specs.Faults.{ends, only_if, line_faults, after_lines, faults_from, is_unknown, is_out_of_range}
use Rattle.pm_source.specs.Meaning.{AreSaid}
use Rattle.pm_source.proofs.Fit.{AreFit, AllEnd, after_all}

or_more : (a b c : Bool) → (a || b) ≡ true → (b ≡ true → c ≡ true) → (a || c) ≡ true
or_more true b c e f = refl
or_more false b c e f = f e

end_comes : (lines : List Line) (said : List Statement) → AreSaid lines said → list_any is_end said ≡ true → list_any ends lines ≡ true
end_comes [] [] h e = e
end_comes [] (s ∷ said) h e = absurd (cc)
end_comes (Blank ∷ lines) said h e = end_comes lines said h e
end_comes (Wrong b ∷ lines) said h e = absurd h
end_comes (Strange ∷ lines) said h e = absurd h
end_comes (Says s flaw ∷ lines) [] h e = absurd h
end_comes (Says s flaw ∷ lines) (t ∷ said) h e =
    let rest = h.1 in
    or_more (is_end s) (list_any is_end said) (list_any ends lines) (ap (λ x. is_end x || list_any is_end said) rest.0 ∙ e) (end_comes lines said rest.1)

end_came : (lines : List Line) (said : List Statement) → AreSaid lines said → list_any ends lines ≡ true → list_any is_end said ≡ true
end_came [] [] h e = e
end_came [] (s ∷ said) h e = absurd (cc)
end_came (Blank ∷ lines) said h e = end_came lines said h e
end_came (Wrong b ∷ lines) said h e = absurd h
end_came (Strange ∷ lines) said h e = absurd h
end_came (Says s flaw ∷ lines) [] h e = absurd h
end_came (Says s flaw ∷ lines) (t ∷ said) h e =
    let rest = h.1 in
    ap (λ x. is_end x || list_any is_end said) (sym rest.0) ∙ or_more (is_end s) (list_any ends lines) (list_any is_end said) e (end_came lines said rest.1)

-- Whether the statement `s` has the fault `Syntax` in the state `r`, if the lines `rest` follow it.
abbrev misplaced : Reading → Statement → List Line → Bool
misplaced r s rest = not (is_in_place r s) || (is_begin s && not (list_any ends rest))

abbrev off : Reading → Statement → Flaw → Bool
off r s flaw = is_out_of_range flaw || is_miscounted r s

none_wrong : (a b c d : Bool) (x y z w : AsmFault) → a ≡ false → b ≡ false → c ≡ false → d ≡ false
    → only_if a x ++ (only_if b y ++ (only_if c z ++ only_if d w)) ≡ []
none_wrong a b c d x y z w e f g h = rw (e, f, g, h) refl

record NoneWrong (a b c d : Bool) (rest : List AsmFault) : Type 0 where
  first : a ≡ false
  second : b ≡ false
  third : c ≡ false
  fourth : d ≡ false
  more : rest ≡ []

none_was_wrong : (a b c d : Bool) (x y z w : AsmFault) (rest : List AsmFault) → (only_if a x ++ (only_if b y ++ (only_if c z ++ only_if d w))) ++ rest ≡ []
    → NoneWrong a b c d rest
none_was_wrong false false false false x y z w rest e = record { first = refl; second = refl; third = refl; fourth = refl; more = e }
none_was_wrong true b c d x y z w rest e = absurd (cc)
none_was_wrong false true c d x y z w rest e = absurd (cc)
none_was_wrong false false true d x y z w rest e = absurd (cc)
none_was_wrong false false false true x y z w rest e = absurd (cc)

placed : (a b c : Bool) → a ≡ true → (b ≡ true → c ≡ true) → (not a || (b && not c)) ≡ false
placed a true c e f = rw (e, f refl) refl
placed a false c e f = rw e refl

was_placed : (a b c : Bool) → (not a || (b && not c)) ≡ false → (a ≡ true) × (b ≡ true → c ≡ true)
was_placed true true true e = (refl, λ h. h)
was_placed true true false e = absurd (cc)
was_placed true false c e = (refl, λ h. absurd (let k : false ≡ true = h in cc))
was_placed false b c e = absurd (cc)

flawless : (flaw : Flaw) (b : Bool) → is_unknown flaw ≡ false → (is_out_of_range flaw || b) ≡ false → (flaw ≡ NoFlaw) × (b ≡ false)
flawless NoFlaw b e f = (refl, f)
flawless OutOfRange b e f = absurd (cc)
flawless UnknownType b e f = absurd (cc)

pub record Clean (n : ℕ) (r : Reading) (lines : List Line) (said : List Statement) : Type 0 where
  pub faults : faults_from n r lines ≡ []
  pub same : after_lines r lines ≡ after_all r said

pub clean : (n : ℕ) (r : Reading) (lines : List Line) (said : List Statement) → AreSaid lines said → AreFit r said → AllEnd said → Clean n r lines said
clean n r [] [] h f e = record { faults = refl; same = refl }
clean n r [] (s ∷ said) h f e = absurd (cc)
clean n r (Blank ∷ lines) said h f e =
    let more : Clean (n + 1) r lines said = clean (n + 1) r lines said h f e in record { faults = more.faults; same = more.same }
clean n r (Wrong b ∷ lines) said h f e = absurd h
clean n r (Strange ∷ lines) said h f e = absurd h
clean n r (Says s flaw ∷ lines) [] h f e = absurd h
clean n r (Says s flaw ∷ lines) (t ∷ said) h f e =
    let rest = h.1 in
    let fit = f.0 in
    let more : Clean (n + 1) (after r t) lines said = clean (n + 1) (after r t) lines said rest.1 f.1 e.1 in
    let in_place : misplaced r t lines ≡ false = placed (is_in_place r t) (is_begin t) (list_any ends lines) fit.in_place
    (λ b. end_comes lines said rest.1 (e.0 b)) in
    let one : line_faults n r (Says t NoFlaw) lines ≡ [] = none_wrong (misplaced r t lines) false (is_again r t) (off r t NoFlaw) (Syntax n) (Unknown n)
    (Twice n) (Range n) in_place refl fit.new fit.counted in
    let next : after_line r (Says t NoFlaw) ≡ after r t = rw fit.in_place refl in
    let shown : (u : Statement) (b : Flaw) → u ≡ t → b ≡ NoFlaw → Clean n r (Says u b ∷ lines) (t ∷ said) =
    λ u b p q. (let line : Says u b ≡ Says t NoFlaw = cc in record {
      faults = ap (λ l. faults_from n r (l ∷ lines)) line ∙ ap (λ fs. fs ++ faults_from (n + 1) (after_line r (Says t NoFlaw)) lines) one
          ∙ ap (λ q. faults_from (n + 1) q lines) next ∙ more.faults;
      same = ap (λ l. after_lines r (l ∷ lines)) line ∙ ap (λ q. after_lines q lines) next ∙ more.same;
    }) in
    shown s flaw rest.0 h.0

-- States that the lines state some statements, and that these have no faults in the state `r`.
pub record SaysFit (r : Reading) (lines : List Line) : Type 0 where
  pub said : List Statement
  pub are_said : AreSaid lines said
  pub fit : AreFit r said
  pub all_end : AllEnd said
  pub same : after_lines r lines ≡ after_all r said

pub says_fit : (n : ℕ) (r : Reading) (lines : List Line) → faults_from n r lines ≡ [] → SaysFit r lines
says_fit n r [] e = record { said = []; are_said = refl; fit = tt; all_end = tt; same = refl }
says_fit n r (Blank ∷ lines) e =
    let more : SaysFit r lines = says_fit (n + 1) r lines e in record {
      said = more.said;
      are_said = more.are_said;
      fit = more.fit;
      all_end = more.all_end;
      same = more.same;
    }
says_fit n r (Wrong true ∷ lines) e = absurd (cc)
says_fit n r (Wrong false ∷ lines) e = absurd (cc)
says_fit n r (Strange ∷ lines) e = absurd (cc)
says_fit n r (Says s flaw ∷ lines) e =
    let behind : List AsmFault = faults_from (n + 1) (after_line r (Says s flaw)) lines in
    let parts : NoneWrong (misplaced r s lines) (is_unknown flaw) (is_again r s) (off r s flaw) behind =
    none_was_wrong (misplaced r s lines) (is_unknown flaw) (is_again r s) (off r s flaw) (Syntax n) (Unknown n) (Twice n) (Range n) behind e in
    let place = was_placed (is_in_place r s) (is_begin s) (list_any ends lines) parts.first in
    let next : after_line r (Says s flaw) ≡ after r s = rw place.0 refl in
    let more : SaysFit (after r s) lines = says_fit (n + 1) (after r s) lines (ap (λ q. faults_from (n + 1) q lines) (sym next) ∙ parts.more) in
    let well = flawless flaw (is_miscounted r s) parts.second parts.fourth in
    record {
      said = s ∷ more.said;
      are_said = (well.0, (refl, more.are_said));
      fit = (record { in_place = place.0; new = parts.third; counted = well.1 }, more.fit);
      all_end = (λ b. end_came lines more.said more.are_said (place.1 b), more.all_end);
      same = ap (λ q. after_lines q lines) next ∙ more.same;
    }
