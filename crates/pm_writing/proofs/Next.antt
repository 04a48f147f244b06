-- Lemmas about the next piece of a text.
use Rattle.std.proofs.Common.{◌≡◌, ◌<◌, ℕ, zero, suc, ◌+◌, ◌-◌, List, [], ◌++◌, Option, arith, subst}
use Rattle.pm_codefile.specs.Dictionary.{segment_in}
use Rattle.pm_codefile.specs.Segments.{attributes_in}
use Rattle.pm_jobs.specs.Streams.{Outgoing}
use Rattle.pm_statements.specs.Files.{numbered_text, slot_text, slots_text, tables_text, with_table}
use Rattle.pm_trees.specs.Parts.{Known}
use Rattle.pm_trees.specs.declared.items.Layout.{Layout}
use Rattle.pm_trees.specs.declared.part.Callee.{Callee}
use Rattle.pm_writing.specs.declared.form.Form.{Form}
use Rattle.pm_writing.specs.Pieces.{number_piece, pieces, slot_piece, slots_pieces}
use Rattle.pm_writing.proofs.Writing.{Rest}

pub next_number : (form : Form) (file : List ℕ) (slot : ℕ) (segment : List ℕ) (done count : ℕ) (old mid : Outgoing) (text : List ℕ) → done < count
    → Rest old mid text (pieces form file slot segment (done + 1) (count - done))
    → Rest old mid text (number_piece form file slot segment (done + 1) (attributes_in segment (done + 1))
    ++ pieces form file slot segment (done + 1 + 1) (count - (done + 1)))
next_number form file slot segment done count old mid text h r =
    let more : count - done ≡ suc (count - (done + 1)) = omega (arith, h) in
    subst (λ k. Rest old mid text (pieces form file slot segment (done + 1) k)) more r

pub next_slot : (form : Form) (file : List ℕ) (n : ℕ) (old mid : Outgoing) (text : List ℕ) → n < 16
    → Rest old mid text (slots_pieces form file n (16 - n))
    → Rest old mid text (slot_piece form file n (segment_in file n) ++ slots_pieces form file (n + 1) (16 - (n + 1)))
next_slot form file n old mid text h r =
    let more : 16 - n ≡ suc (16 - (n + 1)) = omega (arith, h) in
    subst (λ k. Rest old mid text (slots_pieces form file n k)) more r

pub next_table : (known : Known) (segment shown : List ℕ) (done count : ℕ) (old mid : Outgoing) (text : List ℕ) → done < count
    → Rest old mid text (tables_text known segment shown (done + 1) (count - done))
    → Rest old mid text (numbered_text known segment shown (done + 1) (attributes_in segment (done + 1))
    ++ tables_text known segment (with_table shown (attributes_in segment (done + 1))) (done + 1 + 1) (count - (done + 1)))
next_table known segment shown done count old mid text h r =
    let more : count - done ≡ suc (count - (done + 1)) = omega (arith, h) in
    subst (λ k. Rest old mid text (tables_text known segment shown (done + 1) k)) more r

pub next_statements : (callees : List (Option Callee)) (layout : Layout) (file : List ℕ) (n : ℕ) (old mid : Outgoing) (text : List ℕ) → n < 16
    → Rest old mid text (slots_text callees layout file n (16 - n))
    → Rest old mid text (slot_text callees layout n (segment_in file n) ++ slots_text callees layout file (n + 1) (16 - (n + 1)))
next_statements callees layout file n old mid text h r =
    let more : 16 - n ≡ suc (16 - (n + 1)) = omega (arith, h) in
    subst (λ k. Rest old mid text (slots_text callees layout file n k)) more r

-- If no slot follows slot `n - 1`, then nothing remains to be written.
pub no_slot : (form : Form) (file : List ℕ) (n : ℕ) (old mid : Outgoing) (text : List ℕ) → 16 - n ≡ 0
    → Rest old mid text (slots_pieces form file n (16 - n)) → Rest old mid text []
no_slot form file n old mid text e r = subst (λ k. Rest old mid text (slots_pieces form file n k)) e r

pub no_statements : (callees : List (Option Callee)) (layout : Layout) (file : List ℕ) (n : ℕ) (old mid : Outgoing) (text : List ℕ) → 16 - n ≡ 0
    → Rest old mid text (slots_text callees layout file n (16 - n)) → Rest old mid text []
no_statements callees layout file n old mid text e r = subst (λ k. Rest old mid text (slots_text callees layout file n k)) e r
