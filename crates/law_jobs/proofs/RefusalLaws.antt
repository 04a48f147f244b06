-- Lemmas for the first fault of a line, of a jump and of a text.
use Rattle.std.proofs.Common.{◌≡◌, ◌⊎◌, inl, inr, ◌+◌, if◌then◌else◌, Bool, true, false, not, ◌&&◌, ◌||◌, List, [], ◌++◌, refl, ap, ◌∙◌}
use Rattle.std.specs.List.{list_any}
use Rattle.pm_source.specs.Faults.{all_label_faults, ends, faults, faults_of_lines, is_again, is_begin, is_far, is_in_place, is_miscounted, is_out_of_range}
use Rattle.pm_source.specs.Faults.{is_unknown, is_unknown_target, only_if, source_of}
use Rattle.pm_source.specs.Words.{is_empty}
use Rattle.pm_source.specs.declared.fault.AsmFault.{AsmFault}
use Rattle.pm_source.specs.declared.fault.AsmFault.TheVariants.{Syntax, Unknown, Range, NoLabel, Twice, Far}
use Rattle.law_jobs.specs.Refusals.{BeginsWith, IsPlaced, JumpsTellFirst, LinesTellFirst, TextsTellFirst}

first : (a : Bool) (w : AsmFault) (rest : List AsmFault) → a ≡ true → BeginsWith w (only_if a w ++ rest)
first a w rest h = (rest, ap (λ k. only_if k w ++ rest) h)

after : (a : Bool) (w x : AsmFault) (rest : List AsmFault) → a ≡ false → BeginsWith x rest → BeginsWith x (only_if a w ++ rest)
after a w x rest h k = (k.0, ap (λ b. only_if b w ++ rest) h ∙ k.1)

without : (a : Bool) (w : AsmFault) (rest : List AsmFault) → a ≡ false → rest ≡ [] → (only_if a w ++ rest) ≡ []
without a w rest h k = ap (λ b. only_if b w ++ rest) h ∙ k

out : (placed begins ended : Bool) → placed ≡ false → (not placed || (begins && not ended)) ≡ true
out placed begins ended h = ap (λ b. not b || (begins && not ended)) h

endless : (placed begins ended : Bool) → placed ≡ true → begins ≡ true → ended ≡ false → (not placed || (begins && not ended)) ≡ true
endless placed begins ended h k l = rw (h, k, l) refl

well_placed : (placed begins ended : Bool) → placed ≡ true → (begins ≡ true → ended ≡ true) → (not placed || (begins && not ended)) ≡ false
well_placed placed true ended h k = rw (h, k refl) refl
well_placed placed false ended h k = rw h refl

either : (a b : Bool) → (a ≡ true) ⊎ (b ≡ true) → (a || b) ≡ true
either true b h = refl
either false b (inl h) = absurd (cc)
either false b (inr h) = h

neither : (a b : Bool) → a ≡ false → b ≡ false → (a || b) ≡ false
neither a b h k = rw (h, k) refl

pub lines_tell_first : LinesTellFirst
lines_tell_first n r said flaw rest =
    let misplaced = not (is_in_place r said) || (is_begin said && not (list_any ends rest)) in
    let numbers = is_out_of_range flaw || is_miscounted r said in
    let last = only_if numbers (Range n) in
    let third = only_if (is_again r said) (Twice n) ++ last in
    let second = only_if (is_unknown flaw) (Unknown n) ++ third in
    let good : IsPlaced r said rest → misplaced ≡ false = λ p. well_placed (is_in_place r said) (is_begin said) (list_any ends rest) p.placed p.ended in
    record {
      out_of_place = λ h. first misplaced (Syntax n) second (out (is_in_place r said) (is_begin said) (list_any ends rest) h);
      never_ends = λ h k l. first misplaced (Syntax n) second (endless (is_in_place r said) (is_begin said) (list_any ends rest) h k l);
      unknown = λ p h. after misplaced (Syntax n) (Unknown n) second (good p) (first (is_unknown flaw) (Unknown n) third h);
      again = λ p h k. after misplaced (Syntax n) (Twice n) second (good p)
          (after (is_unknown flaw) (Unknown n) (Twice n) third h (first (is_again r said) (Twice n) last k));
      range = λ p h k l. after misplaced (Syntax n) (Range n) second (good p)
          (after (is_unknown flaw) (Unknown n) (Range n) third h (after (is_again r said) (Twice n) (Range n) last k
          ([], ap (λ b. only_if b (Range n)) (either (is_out_of_range flaw) (is_miscounted r said) l))));
      none = λ p h k l m. without misplaced (Syntax n) second (good p)
          (without (is_unknown flaw) (Unknown n) third h (without (is_again r said) (Twice n) last k
          (ap (λ b. only_if b (Range n)) (neither (is_out_of_range flaw) (is_miscounted r said) l m))));
    }

pub jumps_tell_first : JumpsTellFirst
jumps_tell_first places line at op target =
    let far = only_if (is_far places (at + 2) target) (Far line) in record {
      no_label = λ h. first (is_unknown_target places target) (NoLabel line) far h;
      far = λ h k. ap (λ b. only_if b (NoLabel line) ++ far) h ∙ ap (λ b. only_if b (Far line)) k;
    }

begun : (fault : AsmFault) (lines labels : List AsmFault) → BeginsWith fault lines → BeginsWith fault (if is_empty lines then labels else lines)
begun fault lines labels h = (h.0, ap (λ (k : List AsmFault). if is_empty k then labels else k) h.1)

pub texts_tell_first : TextsTellFirst
unfolding faults
texts_tell_first text = record {
  lines = λ fault h. begun fault (faults_of_lines text) (all_label_faults (source_of text)) h;
  labels = λ h. ap (λ (k : List AsmFault). if is_empty k then all_label_faults (source_of text) else k) h;
}
