use Rattle.std.proofs.Common.{refl, ◌≡◌, ◌∙◌, sym, ap, arith, length, map}
use Rattle.pm_code.specs.Program.{procedures_end}
use Rattle.pm_code.specs.Views.{procedure_seen, segment_seen}
use Rattle.std.proofs.lemmas.List.{length-map}
use Rattle.pm_code.proofs.Laid.{length-followed}
use Rattle.pm_code.proofs.lengths.segment_length.Goals as goal

pub returns-in_err-end-clause-too_long : goal.returns-in_err-end-clause-too_long
returns-in_err-end-clause-too_long c =
    let long = rw c.deref.ensures.value at (c.in_err-end.ensures.too_long refl) in
    λ none. omega (arith, long, length-followed (segment_seen c.args.segment.now) c.requires.follow)

pub returns-in_err-checked_add-clause-too_long : goal.returns-in_err-checked_add-clause-too_long
returns-in_err-checked_add-clause-too_long c =
    let end : c.in_ok-end.end ≡ procedures_end 0 (map procedure_seen c.args.segment.now.procedures.items) =
    c.in_ok-end.ensures.end ∙ ap (λ ps. procedures_end 0 (map procedure_seen ps)) c.deref.ensures.value in
    let count : c.len.result ≡ length c.args.segment.now.procedures.items = c.len.ensures ∙ sym c.deref.ensures.len ∙ ap length c.deref.ensures.value in
    λ none. omega (
      arith,
      end,
      count,
      c.in_err-checked_add.ensures,
      c.in_ok-words.ensures.1,
      length-followed (segment_seen c.args.segment.now) c.requires.follow,
      length-map c.args.segment.now.procedures.items procedure_seen,
    )

pub returns-in_err-length-clause-too_long : goal.returns-in_err-length-clause-too_long
returns-in_err-length-clause-too_long c =
    let end : c.in_ok-end.end ≡ procedures_end 0 (map procedure_seen c.args.segment.now.procedures.items) =
    c.in_ok-end.ensures.end ∙ ap (λ ps. procedures_end 0 (map procedure_seen ps)) c.deref.ensures.value in
    let count : c.len.result ≡ length c.args.segment.now.procedures.items = c.len.ensures ∙ sym c.deref.ensures.len ∙ ap length c.deref.ensures.value in
    λ none. omega (
      arith,
      end,
      count,
      c.in_err-length.ensures,
      c.in_ok-checked_add.ensures.1,
      c.in_ok-words.ensures.1,
      length-followed (segment_seen c.args.segment.now) c.requires.follow,
      length-map c.args.segment.now.procedures.items procedure_seen,
    )

pub returns : goal.returns
returns c =
    let end : c.in_ok-end.end ≡ procedures_end 0 (map procedure_seen c.args.segment.now.procedures.items) =
    c.in_ok-end.ensures.end ∙ ap (λ ps. procedures_end 0 (map procedure_seen ps)) c.deref.ensures.value in
    let count : c.len.result ≡ length c.args.segment.now.procedures.items = c.len.ensures ∙ sym c.deref.ensures.len ∙ ap length c.deref.ensures.value in
    record {
      size = omega (
        arith,
        end,
        count,
        c.in_ok-length.ensures.1,
        c.in_ok-checked_add.ensures.1,
        c.in_ok-words.ensures.1,
        length-followed (segment_seen c.args.segment.now) c.requires.follow,
        length-map c.args.segment.now.procedures.items procedure_seen,
      );
      too_long = λ none. absurd (cc);
    }
