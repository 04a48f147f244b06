use Rattle.std.proofs.Common.{rules, ◌≡◌, ◌<◌, ◌≤◌, ◌++◌, ◌∷◌, ◌∙◌, [], ℕ, Option, ap, arith, length, map, sym}
use Rattle.std.specs.Prelude.{sum}
use Rattle.std.proofs.lemmas.List.{take_all, take_more_set}
use Rattle.pm_codefile.specs.Layout.{layout}
use Rattle.pm_code.specs.Program.{segment_numbered}
use Rattle.pm_code.specs.Program as program
use Rattle.pm_code.specs.Image.{bytes_of_segment, file_of, joined_bytes, name_of_segment, slots_of}
use Rattle.pm_code.specs.Views.{program_seen}
use Rattle.pm_code.proofs.Lists.{if_ok_map}
use Rattle.pm_code.proofs.Slotted.{joined_more, lengths_joined, mapped_more}
use Rattle.pm_code.proofs.image.code_file.Goals as goal

pub loop-n-preserved : goal.loop-n-preserved
loop-n-preserved c =
    let ts = program_seen c.args.program.now in
    let n : ℕ = c.loop-n.n in
    let slot : Option program.Segment = segment_numbered n ts in
    let count = λ (s : Option program.Segment). length (bytes_of_segment s) in
    let first : n < length c.loop-n.names = omega arith in
    let second : n < length c.loop-n.lengths = omega arith in
    let long : c.len.result ≡ length c.in_ok-slot.slot.bytes.items = search rules in
    record {
      names = take_more_set c.loop-n.names n c.in_ok-slot.slot.name first
          ∙ ap (λ xs. xs ++ c.in_ok-slot.slot.name ∷ []) c.loop-n.invariant.names
          ∙ ap (λ x. map name_of_segment (slots_of 0 n ts) ++ x ∷ []) c.in_ok-slot.ensures.name
          ∙ sym (mapped_more name_of_segment n ts);
      lengths = take_more_set c.loop-n.lengths n c.len.result second
          ∙ ap (λ xs. xs ++ c.len.result ∷ []) c.loop-n.invariant.lengths
          ∙ ap (λ x. map count (slots_of 0 n ts) ++ x ∷ []) (long ∙ ap length c.in_ok-slot.ensures.bytes)
          ∙ sym (mapped_more count n ts);
      joined = c.in_ok-extend_from_slice.ensures.items
          ∙ ap (λ bs. bs ++ c.deref.result.now) c.loop-n.invariant.joined
          ∙ ap (λ bs. joined_bytes (slots_of 0 n ts) ++ bs) (c.deref.ensures.value ∙ c.in_ok-slot.ensures.bytes)
          ∙ sym (joined_more n ts);
      sixteen = search rules;
      all = search rules;
    }

pub write-requires : goal.write-requires
write-requires c =
    let ts = program_seen c.args.program.now in
    let n : ℕ = c.loop-n.n in
    let count = λ (s : Option program.Segment). length (bytes_of_segment s) in
    let past : length c.loop-n.lengths ≤ n = omega arith in
    let whole : c.loop-n.lengths ≡ map count (slots_of 0 n ts) = sym (take_all n c.loop-n.lengths past) ∙ c.loop-n.invariant.lengths in
    record { joined = ap sum whole ∙ lengths_joined (slots_of 0 n ts) ∙ ap length (sym (c.deref-2.ensures.value ∙ c.loop-n.invariant.joined)) }

pub returns : goal.returns
unfolding file_of
returns c =
    let ts = program_seen c.args.program.now in
    let n : ℕ = c.loop-n.n in
    let count = λ (s : Option program.Segment). length (bytes_of_segment s) in
    let end : n ≡ 16 = omega arith in
    let first : length c.loop-n.names ≤ n = omega arith in
    let second : length c.loop-n.lengths ≤ n = omega arith in
    let names : c.loop-n.names ≡ map name_of_segment (slots_of 0 16 ts) =
    sym (take_all n c.loop-n.names first) ∙ c.loop-n.invariant.names ∙ ap (λ k. map name_of_segment (slots_of 0 k ts)) end in
    let lengths : c.loop-n.lengths ≡ map count (slots_of 0 16 ts) =
    sym (take_all n c.loop-n.lengths second) ∙ c.loop-n.invariant.lengths ∙ ap (λ k. map count (slots_of 0 k ts)) end in
    let joined : c.deref-2.result.now ≡ joined_bytes (slots_of 0 16 ts) =
    c.deref-2.ensures.value ∙ c.loop-n.invariant.joined ∙ ap (λ k. joined_bytes (slots_of 0 k ts)) end in
    let whole : layout c.loop-n.names c.loop-n.lengths c.deref-2.result.now ≡ file_of ts =
    ap (λ xs. layout xs c.loop-n.lengths c.deref-2.result.now) names
    ∙ ap (λ xs. layout (map name_of_segment (slots_of 0 16 ts)) xs c.deref-2.result.now) lengths
    ∙ ap (layout (map name_of_segment (slots_of 0 16 ts)) (map count (slots_of 0 16 ts))) joined in
    record {
      file = if_ok_map c.write.result (λ file. file.items ≡ layout c.loop-n.names c.loop-n.lengths c.deref-2.result.now)
          (λ file. file.items ≡ file_of ts) (λ file h. h ∙ whole) c.write.ensures.layout;
    }
