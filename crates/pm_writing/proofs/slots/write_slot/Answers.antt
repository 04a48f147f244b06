use Rattle.std.proofs.Common.{rules, ◌≡◌, ◌∙◌, ◌++◌, List, ℕ, Some, Result, Err, subst, sym}
use Rattle.std.proofs.lemmas.Result.{err_from_is_err_and}
use Rattle.std.specs.Io.KnownBytes.{Appends}
use Rattle.pm_codefile.specs.Dictionary.{segment_in}
use Rattle.pm_codefile.specs.Segments.{procedures_in}
use Rattle.pm_jobs.specs.Streams.{AppendsFront}
use Rattle.pm_writing.specs.Pieces.{foot_piece, head_piece, pieces, slot_piece}
use Rattle.pm_writing.specs.Written.{Writes}
use Rattle.pm_writing.proofs.Writing.{Rest, at_start, cut_piece, last_piece, no_piece, piece_written}
use Rattle.pm_writing.proofs.slots.write_slot.Goals as goal

pub returns-in_err-write_piece : goal.returns-in_err-write_piece
returns-in_err-write_piece g c =
    let file = c.args.file.now in
    let segment : List ℕ = c.in-Some.segment.now in
    let n : ℕ = c.args.n in
    let there : segment_in file n ≡ Some segment = search rules in
    let head : List ℕ = head_piece c.args.form file n in
    let numbers : List ℕ = pieces c.args.form file n segment 1 (procedures_in segment) in
    let foot : List ℕ = foot_piece c.args.form n segment in
    let s0 = g.W.Sink.seen c.args.sink.now in
    let s1 = g.W.Sink.seen c.write_piece.new.sink in
    let r = c.from_residual-in_err-write_piece in
    let p = err_from_is_err_and r.result r.ensures.1 in
    let w = c.in_err-write_piece.ensures.writes in
    let front : AppendsFront s0.contents s1.contents head =
    subst (λ piece. AppendsFront s0.contents s1.contents piece) (c.deref.ensures.value ∙ c.in_ok-head.ensures.piece) w.0 in
    record {
      writes = rw (there, p.1, p.2) (cut_piece s0 s0 s1 (head ++ (numbers ++ foot)) head (numbers ++ foot) _
          (at_start s0 (head ++ (numbers ++ foot)) c.requires.well) (front, w.1));
    }

pub returns-in_err-write_numbers : goal.returns-in_err-write_numbers
returns-in_err-write_numbers g c =
    let file = c.args.file.now in
    let segment : List ℕ = c.in-Some.segment.now in
    let n : ℕ = c.args.n in
    let there : segment_in file n ≡ Some segment = search rules in
    let head : List ℕ = head_piece c.args.form file n in
    let numbers : List ℕ = pieces c.args.form file n segment 1 (procedures_in segment) in
    let foot : List ℕ = foot_piece c.args.form n segment in
    let s0 = g.W.Sink.seen c.args.sink.now in
    let s1 = g.W.Sink.seen c.write_piece.new.sink in
    let s2 = g.W.Sink.seen c.write_numbers.new.sink in
    let r = c.from_residual-in_err-write_numbers in
    let p = err_from_is_err_and r.result r.ensures.1 in
    let w = c.in_ok-write_piece.ensures.writes in
    let first : Appends s0.contents s1.contents head =
    subst (λ piece. Appends s0.contents s1.contents piece) (c.deref.ensures.value ∙ c.in_ok-head.ensures.piece) w.0 in
    record {
      writes = rw (there, p.1, p.2) (cut_piece s0 s1 s2 (head ++ (numbers ++ foot)) numbers foot _
          (piece_written s0 s0 s1 (head ++ (numbers ++ foot)) head (numbers ++ foot) (at_start s0 (head ++ (numbers ++ foot)) c.requires.well) first w.1)
          c.in_err-write_numbers.ensures.writes);
    }

pub returns-in_err-foot : goal.returns-in_err-foot
returns-in_err-foot g c =
    let file = c.args.file.now in
    let segment : List ℕ = c.in-Some.segment.now in
    let n : ℕ = c.args.n in
    let there : segment_in file n ≡ Some segment = search rules in
    let head : List ℕ = head_piece c.args.form file n in
    let numbers : List ℕ = pieces c.args.form file n segment 1 (procedures_in segment) in
    let foot : List ℕ = foot_piece c.args.form n segment in
    let s0 = g.W.Sink.seen c.args.sink.now in
    let s1 = g.W.Sink.seen c.write_piece.new.sink in
    let s2 = g.W.Sink.seen c.write_numbers.new.sink in
    let r = c.from_residual-in_err-foot in
    let p = err_from_is_err_and r.result r.ensures.1 in
    let w = c.in_ok-write_piece.ensures.writes in
    let first : Appends s0.contents s1.contents head =
    subst (λ piece. Appends s0.contents s1.contents piece) (c.deref.ensures.value ∙ c.in_ok-head.ensures.piece) w.0 in
    let v = c.in_ok-write_numbers.ensures.writes in
    record {
      writes = rw (there, p.1, p.2) (no_piece s0 s2 (head ++ (numbers ++ foot)) foot
          (piece_written s0 s1 s2 (head ++ (numbers ++ foot)) numbers foot
          (piece_written s0 s0 s1 (head ++ (numbers ++ foot)) head (numbers ++ foot) (at_start s0 (head ++ (numbers ++ foot)) c.requires.well) first w.1)
          v.0 v.1));
    }

pub returns : goal.returns
returns g c =
    let file = c.args.file.now in
    let segment : List ℕ = c.in-Some.segment.now in
    let n : ℕ = c.args.n in
    let there : segment_in file n ≡ Some segment = search rules in
    let head : List ℕ = head_piece c.args.form file n in
    let numbers : List ℕ = pieces c.args.form file n segment 1 (procedures_in segment) in
    let foot : List ℕ = foot_piece c.args.form n segment in
    let s0 = g.W.Sink.seen c.args.sink.now in
    let s1 = g.W.Sink.seen c.write_piece.new.sink in
    let s2 = g.W.Sink.seen c.write_numbers.new.sink in
    let s3 = g.W.Sink.seen c.write_piece-2.new.sink in
    let w = c.in_ok-write_piece.ensures.writes in
    let first : Appends s0.contents s1.contents head =
    subst (λ piece. Appends s0.contents s1.contents piece) (c.deref.ensures.value ∙ c.in_ok-head.ensures.piece) w.0 in
    let v = c.in_ok-write_numbers.ensures.writes in
    let last : Writes s2 s3 foot c.write_piece-2.result =
    subst (λ piece. Writes s2 s3 piece c.write_piece-2.result) (c.deref-2.ensures.value ∙ c.in_ok-foot.ensures.piece) c.write_piece-2.ensures.writes in
    record {
      writes = rw there (last_piece s0 s2 s3 (head ++ (numbers ++ foot)) foot c.write_piece-2.result
          (piece_written s0 s1 s2 (head ++ (numbers ++ foot)) numbers foot
          (piece_written s0 s0 s1 (head ++ (numbers ++ foot)) head (numbers ++ foot) (at_start s0 (head ++ (numbers ++ foot)) c.requires.well) first w.1)
          v.0 v.1) last);
    }
