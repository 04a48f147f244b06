use Rattle.std.proofs.Common.{◌≡◌, ◌≤◌, ◌+◌, ◌*◌, ◌∙◌, ◌++◌, ◌∷◌, [], ℕ, List, ap, map, reverse, length, sym, subst}
use Rattle.pm_code.specs.Program.{entry_bytes, jtab_of, procedures_bytes, procedures_end}
use Rattle.pm_code.specs.Views.{procedure_seen, segment_seen}
use Rattle.pm_code.proofs.Pushed.{Headed, headed_room, segment_ends, segment_pushed}
use Rattle.pm_code.proofs.bytes.segment_bytes.Goals as goal

pub push_procedures-requires-clause-short : goal.push_procedures-requires-clause-short
push_procedures-requires-clause-short c =
    let s = segment_seen c.args.segment.now in
    subst (λ ps. procedures_end (length c.new-bytes.result.items) (map procedure_seen ps) ≤ 65534) (sym c.deref.ensures.value)
    (subst (λ bs. procedures_end (length bs) s.procedures ≤ 65534) (sym c.new-bytes.ensures.items) (segment_ends s c.requires.segment c.requires.short))

pub push_dictionary-requires-clause-short : goal.push_dictionary-requires-clause-short
push_dictionary-requires-clause-short c =
    let s = segment_seen c.args.segment.now in
    let first : List ℕ = c.push_procedures.new.out.items in
    let tables : List ℕ = c.in_ok-tables.tables.items in
    let head : Headed s first tables = record {
      first = c.in_ok-tables.ensures.bytes ∙ ap (λ bs. bs ++ procedures_bytes 1 (map procedure_seen c.deref.result.now)) c.new-bytes.ensures.items
          ∙ ap (λ ps. procedures_bytes 1 (map procedure_seen ps)) c.deref.ensures.value;
      places = c.in_ok-tables.ensures.tables ∙ ap (λ ps. map jtab_of (map procedure_seen ps)) c.deref.ensures.value;
    } in
    subst (λ ts. length first + 2 * length ts ≤ 65536) (sym c.deref-2.ensures.value) (headed_room s first tables c.requires.segment c.requires.short head)

pub returns : goal.returns
returns c =
    let s = segment_seen c.args.segment.now in
    let first : List ℕ = c.push_procedures.new.out.items in
    let tables : List ℕ = c.in_ok-tables.tables.items in
    let head : Headed s first tables = record {
      first = c.in_ok-tables.ensures.bytes ∙ ap (λ bs. bs ++ procedures_bytes 1 (map procedure_seen c.deref.result.now)) c.new-bytes.ensures.items
          ∙ ap (λ ps. procedures_bytes 1 (map procedure_seen ps)) c.deref.ensures.value;
      places = c.in_ok-tables.ensures.tables ∙ ap (λ ps. map jtab_of (map procedure_seen ps)) c.deref.ensures.value;
    } in
    record {
      bytes = segment_pushed s first tables c.push_dictionary.new.out.items c.requires.segment head
          (c.in_ok-push_dictionary.ensures.bytes
          ∙ ap (λ ts. first ++ (entry_bytes (length first) (reverse ts) ++ s.number ∷ length ts ∷ [])) c.deref-2.ensures.value);
    }
