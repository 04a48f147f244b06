-- Lemmas about a text that is written piece by piece.
use Rattle.std.proofs.Common.{◌≡◌, ℕ, List, [], ◌++◌, Result, Ok, Err, false, refl, sym, ap, ◌∙◌, append_assoc, append-nil, arith}
use Rattle.std.specs.Io.KnownBytes.{Appends}
use Rattle.std.proofs.KnownBytes.{Appends-trans}
use Rattle.pm_jobs.specs.declared.fault.Fault.{Fault}
use Rattle.pm_jobs.specs.declared.fault.Fault.TheVariants as faults
use Rattle.pm_jobs.specs.Streams.{AppendsFront, IsCause, Outgoing}
use Rattle.pm_jobs.proofs.Transfers.{Written, Written-all, Written-front, Written-none}
use Rattle.pm_writing.specs.Written.{Writes}

-- States that a sink has not failed, and that it contains `text` except for the last bytes, `rest`.
pub record Rest (old new : Outgoing) (text rest : List ℕ) : Type 0 where
  pub written : Written old.contents new.contents text rest
  pub well : new.failed ≡ false

-- If no write has failed before, then at the start all of `text` remains to be written.
pub at_start : (old : Outgoing) (text : List ℕ) → old.failed ≡ false → Rest old old text text
at_start old text well = record { written = Written-none old.contents text; well = well }

-- If `piece ++ rest` remains and `piece` is written, then `rest` remains.
pub piece_written : (old mid new : Outgoing) (text piece rest : List ℕ) → Rest old mid text (piece ++ rest)
    → Appends mid.contents new.contents piece → new.failed ≡ false → Rest old new text rest
piece_written old mid new text piece rest r w well = record {
  written = record {
    done = r.written.done ++ piece;
    appends = Appends-trans old.contents mid.contents new.contents r.written.done piece r.written.appends w;
    whole = r.written.whole ∙ sym (append_assoc r.written.done piece rest);
  };
  well = well;
}

-- If a prefix of `piece` is written, then a prefix of `text` is written.
pub piece_cut : (old mid new : Outgoing) (text piece rest : List ℕ) → Rest old mid text (piece ++ rest)
    → AppendsFront mid.contents new.contents piece → AppendsFront old.contents new.contents text
piece_cut old mid new text piece rest r w = (
  r.written.done ++ w.0,
  Appends-trans old.contents mid.contents new.contents r.written.done w.0 r.written.appends w.1,
  (
    w.2.0 ++ rest,
    r.written.whole ∙ ap (λ p. r.written.done ++ (p ++ rest)) w.2.1
        ∙ ap (λ p. r.written.done ++ p) (append_assoc w.0 w.2.0 rest) ∙ sym (append_assoc r.written.done w.0 (w.2.0 ++ rest)),
  ),
)

-- If the next piece is not written, then a prefix of `text` is written.
pub piece_refused : (old mid : Outgoing) (text rest : List ℕ) → Rest old mid text rest → AppendsFront old.contents mid.contents text
piece_refused old mid text rest r = Written-front old.contents mid.contents text rest r.written

-- If nothing remains, then the whole `text` is written.
pub all_written : (old new : Outgoing) (text : List ℕ) → Rest old new text [] → Appends old.contents new.contents text
all_written old new text r = Written-all old.contents new.contents text r.written

-- If only `piece` remains, then `piece` and an empty rest remain.
pub only_rest : (old mid : Outgoing) (text piece : List ℕ) → Rest old mid text piece → Rest old mid text (piece ++ [])
only_rest old mid text piece r = rw (append-nil piece) r

-- If only `piece` remains, then the result of writing `piece` is the result for the whole `text`.
pub last_piece : {A : Type 0} (old mid new : Outgoing) (text piece : List ℕ) (result : Result A Fault) → Rest old mid text piece
    → Writes mid new piece result → Writes old new text result
last_piece old mid new text piece (Ok a) r w =
    (all_written old new text (piece_written old mid new text piece [] (only_rest old mid text piece r) w.0 w.1), w.1)
last_piece old mid new text piece (Err fault) r w = (piece_cut old mid new text piece [] (only_rest old mid text piece r) w.0, w.1)

-- If writing `piece` fails, then a prefix of `text` is written, and the fault is that of a write or of memory.
pub cut_piece : (old mid new : Outgoing) (text piece rest : List ℕ) (fault : Fault) → Rest old mid text (piece ++ rest)
    → AppendsFront mid.contents new.contents piece × IsCause fault false new.failed []
    → AppendsFront old.contents new.contents text × IsCause fault false new.failed []
cut_piece old mid new text piece rest fault r w = (piece_cut old mid new text piece rest r w.0, w.1)

-- If memory for a piece runs out, then a prefix of `text` is written.
pub no_piece : (old mid : Outgoing) (text rest : List ℕ) → Rest old mid text rest
    → AppendsFront old.contents mid.contents text × IsCause faults.NoMemory false mid.failed []
no_piece old mid text rest r = (piece_refused old mid text rest r, (r.well, refl, omega arith))
