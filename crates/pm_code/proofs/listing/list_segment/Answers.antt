use Rattle.std.proofs.Common.{rules, ◌≡◌, ◌≤◌, ◌+◌, ◌*◌, ◌∙◌, ◌++◌, ◌∷◌, [], ℕ, List, ap, map, reverse, length, sym, subst, string_bytes, append-nil}
use Rattle.std.specs.Prelude.{codes}
use Rattle.pm_code.specs.Image.{Listed, listed_dictionary, listed_line, listed_lines, listed_procedures}
use Rattle.pm_code.specs.Program.{dictionary_bytes, entry_bytes, jtab_of, procedures_bytes, procedures_end}
use Rattle.pm_code.specs.Views.{procedure_seen, segment_seen}
use Rattle.pm_code.proofs.ListedMore.{added}
use Rattle.pm_code.proofs.Pushed.{Headed, dictionary_pushed, headed_end, headed_room, segment_ends}
use Rattle.pm_code.proofs.listing.list_segment.Goals as goal

pub list_procedures-requires-clause-short : goal.list_procedures-requires-clause-short
list_procedures-requires-clause-short c =
    let s = segment_seen c.args.segment.now in
    subst (λ ps. procedures_end (length c.new-bytes.result.items) (map procedure_seen ps) ≤ 65534) (sym c.deref.ensures.value)
    (subst (λ bs. procedures_end (length bs) s.procedures ≤ 65534) (sym c.new-bytes.ensures.items) (segment_ends s c.requires.segment c.requires.short))

pub push_dictionary-requires-clause-short : goal.push_dictionary-requires-clause-short
push_dictionary-requires-clause-short c =
    let s = segment_seen c.args.segment.now in
    let first : List ℕ = c.list_procedures.new.bytes.items in
    let tables : List ℕ = c.in_ok-tables.tables.items in
    let head : Headed s first tables = record {
      first = c.in_ok-tables.ensures.bytes ∙ ap (λ bs. bs ++ procedures_bytes 1 (map procedure_seen c.deref.result.now)) c.new-bytes.ensures.items
          ∙ ap (λ ps. procedures_bytes 1 (map procedure_seen ps)) c.deref.ensures.value;
      places = c.in_ok-tables.ensures.tables ∙ ap (λ ps. map jtab_of (map procedure_seen ps)) c.deref.ensures.value;
    } in
    subst (λ ts. length first + 2 * length ts ≤ 65536) (sym c.deref-2.ensures.value) (headed_room s first tables c.requires.segment c.requires.short head)

pub returns : goal.returns
returns c =
    let s = segment_seen c.args.segment.now in
    let first : List ℕ = c.list_procedures.new.bytes.items in
    let tables : List ℕ = c.in_ok-tables.tables.items in
    let head : Headed s first tables = record {
      first = c.in_ok-tables.ensures.bytes ∙ ap (λ bs. bs ++ procedures_bytes 1 (map procedure_seen c.deref.result.now)) c.new-bytes.ensures.items
          ∙ ap (λ ps. procedures_bytes 1 (map procedure_seen ps)) c.deref.ensures.value;
      places = c.in_ok-tables.ensures.tables ∙ ap (λ ps. map jtab_of (map procedure_seen ps)) c.deref.ensures.value;
    } in
    let segment : ℕ = s.number in
    let last : List ℕ = dictionary_bytes (procedures_end 0 s.procedures) (reverse s.procedures) ++ s.number ∷ length s.procedures ∷ [] in
    let behind = c.in_ok-push_dictionary.ensures.bytes
    ∙ ap (λ ts. first ++ (entry_bytes (length first) (reverse ts) ++ s.number ∷ length ts ∷ [])) c.deref-2.ensures.value
    ∙ ap (λ ds. first ++ ds) (dictionary_pushed s first tables c.requires.segment head) in
    let at : ℕ = c.len-at.result in
    let begins : at ≡ length first = search rules in
    let part = added first c.push_dictionary.new.out.items last c.deref-3.result.now at begins behind c.deref-3.ensures.value in
    let place : at ≡ procedures_end 0 s.procedures = begins ∙ headed_end s first tables c.requires.segment head in
    let old : List ℕ = string_bytes c.args.text.now in
    let second : List ℕ = string_bytes c.list_procedures.new.text in
    let third : List ℕ = string_bytes c.push_front.new.text in
    let dictionary : Listed = listed_dictionary s in
    let line : string_bytes c.writeln.new.self ≡ third ++ (codes ".DICT" ++ (10 ∷ [])) = search rules in
    record {
      text = line
          ∙ c.in_ok-push_front.ensures.text (codes ".DICT")
          ∙ ap (λ bs. second ++ listed_line segment (record { procedure = 0; at = at; bytes = bs; what = codes ".DICT" })) part
          ∙ ap (λ n. second ++ listed_line segment (record { procedure = 0; at = n; bytes = last; what = codes ".DICT" })) place
          ∙ ap (λ bs. second ++ bs) (sym (append-nil (listed_line segment dictionary)))
          ∙ c.in_ok-tables.ensures.text (dictionary ∷ [])
          ∙ ap (λ ps. old ++ listed_lines segment (listed_procedures 1 (map procedure_seen ps) (dictionary ∷ []))) c.deref.ensures.value;
    }
