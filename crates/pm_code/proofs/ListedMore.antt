-- Lemmas about lines of a listing that are appended one after the other.
use Rattle.std.proofs.Common.{◌≡◌, ℕ, ◌+◌, ◌-◌, ◌*◌, List, [], ◌∷◌, ◌++◌, length, take, drop, refl, sym, ap, ◌∙◌, arith, append_assoc}
use Rattle.std.proofs.Common.{append-nil, length-append}
use Rattle.std.specs.Prelude.{codes}
use Rattle.std.proofs.Math.Seq.{drop-append_seam}
use Rattle.std.proofs.lemmas.List.{take_rest}
use Rattle.pm_code.specs.Image.{Listed, listed_entries, listed_line, listed_lines, listed_segment, listing}
use Rattle.pm_code.specs.Program.{Segment, back_to, entry_bytes}
use Rattle.pm_code.specs.Shown.{entry_line, label_text}

-- If `xs` was appended to `before`, then the bytes from offset `at`, the length of `before`, are `xs`.
pub added : (before after xs whole : List ℕ) (at : ℕ) → at ≡ length before → after ≡ before ++ xs → whole ≡ after
    → take (length whole - at) (drop at whole) ≡ xs
added before after xs whole at begins behind same =
    take_rest whole at ∙ ap (drop at) (same ∙ behind) ∙ ap (λ n. drop n (before ++ xs)) begins ∙ drop-append_seam before xs

-- `.JUMP`, a space and the label of `place` are the text of a jump table entry that leads to `place`.
pub entry_label : (place : ℕ) → codes ".JUMP " ++ label_text place ≡ entry_line place
entry_label place = ap (λ u. codes ".JUMP " ++ u) (sym (append-nil (label_text place)))

-- If line `l` was appended, then the new text followed by the lines `rest` is the old text followed by `l` and `rest`.
pub line_more : (n : ℕ) (l : Listed) (before after : List ℕ) (rest : List Listed) → after ≡ before ++ listed_line n l
    → after ++ listed_lines n rest ≡ before ++ listed_lines n (l ∷ rest)
line_more n l before after rest e = ap (λ bs. bs ++ listed_lines n rest) e ∙ append_assoc before (listed_line n l) (listed_lines n rest)

-- If the lines of segment `s` were appended, then the new text followed by the listing of `rest` is the old text
-- followed by the listing of `s` and `rest`.
pub listing_more : (s : Segment) (before after : List ℕ) (rest : List Segment) → after ≡ before ++ listed_lines s.number (listed_segment s)
    → after ++ listing rest ≡ before ++ listing (s ∷ rest)
unfolding listing
listing_more s before after rest e =
    ap (λ bs. bs ++ listing rest) e ∙ append_assoc before (listed_lines s.number (listed_segment s)) (listing rest)

pub listing_none : listing [] ≡ []
unfolding listing
listing_none = refl

-- If the word of one jump table entry was appended, then the length increased by 2.
pub entry_long : (before after : List ℕ) (place : ℕ) → after ≡ before ++ back_to (length before) place → length after ≡ length before + 2
entry_long before after place e = omega (arith, ap length e, length-append before (back_to (length before) place))

pub entry_more : (before after : List ℕ) (place : ℕ) (rest : List ℕ) → after ≡ before ++ back_to (length before) place
    → after ++ entry_bytes (length after) rest ≡ before ++ entry_bytes (length before) (place ∷ rest)
entry_more before after place rest e =
    ap (λ n. after ++ entry_bytes n rest) (entry_long before after place e)
    ∙ ap (λ bs. bs ++ entry_bytes (length before + 2) rest) e
    ∙ append_assoc before (back_to (length before) place) (entry_bytes (length before + 2) rest)

pub entry_listed : (number procedure : ℕ) (before after first second : List ℕ) (place : ℕ) (rest : List ℕ) (more : List Listed)
    → after ≡ before ++ back_to (length before) place
    → second ≡ first ++ listed_line number (record {
      procedure = procedure;
      at = length before;
      bytes = back_to (length before) place;
      what = entry_line place;
    })
    → second ++ listed_lines number (listed_entries procedure (length after) rest ++ more)
    ≡ first ++ listed_lines number (listed_entries procedure (length before) (place ∷ rest) ++ more)
entry_listed number procedure before after first second place rest more e w =
    let line : Listed = record { procedure = procedure; at = length before; bytes = back_to (length before) place; what = entry_line place } in
    ap (λ n. second ++ listed_lines number (listed_entries procedure n rest ++ more)) (entry_long before after place e)
    ∙ line_more number line first second (listed_entries procedure (length before + 2) rest ++ more) w
