-- Jobs that convert bytes to bytes. Such a job reads its whole input or nothing, and then writes its product.
use Rattle.std.proofs.Common.{◌≡◌, ◌≤◌, ℕ, List, [], None, Some, Bool, true, false, length, refl, sym, arith, subst}
use Rattle.std.specs.Io.KnownBytes.{Appends, Consumes}
use Rattle.pm_jobs.specs.declared.fault.Fault.{Fault}
use Rattle.pm_jobs.specs.declared.source.TheConstants.{INPUT_LIMIT}
use Rattle.pm_tool.specs.declared.outcome.Outcome.{Outcome}
use Rattle.pm_tool.specs.Batches.{IsInput, said_making}
use Rattle.pm_tool.specs.Outcomes.{Said, IsOutcome}
use Rattle.pm_batch.specs.Products.{Product, Written, Image, Refused, Judged, Saved}
use Rattle.pm_tool.specs.Products.{said_product}
use Rattle.pm_tool.specs.Said.{BreaksOff, Finishes, IsSoundExit}
use Rattle.pm_jobs.specs.Streams.{Incoming, Streams, both, AppendsFront, IsCause}
use Rattle.pm_tool.proofs.ReadWhole.{broken_unwritten, broken_writing, done_whole}
use Rattle.pm_tool.proofs.Unread.{broken_unread, consumes_none, done_unread}

sound_product : (p : Product) (unread : List ℕ) → IsSoundExit (said_product p unread).exit
sound_product (Written bytes) unread = refl
sound_product (Image image) unread = refl
sound_product (Refused refusal) unread = refl
sound_product (Judged text None) unread = refl
sound_product (Judged text (Some refusal)) unread = refl
sound_product (Saved text image) unread = refl

unread_product : (p : Product) (unread : List ℕ) → (said_product p unread).unread ≡ unread
unread_product (Written bytes) unread = refl
unread_product (Image image) unread = refl
unread_product (Refused refusal) unread = refl
unread_product (Judged text refusal) unread = refl
unread_product (Saved text image) unread = refl

written_product : (p : Product) (unread : List ℕ) → (said_product p unread).written ≡ (said_product p []).written
written_product (Written bytes) unread = refl
written_product (Image image) unread = refl
written_product (Refused refusal) unread = refl
written_product (Judged text refusal) unread = refl
written_product (Saved text image) unread = refl

-- If the input was read and the whole product was written, then the job finishes with its defined output.
pub batch_done : (reads : Bool) (old new : Streams) (input : List ℕ) (make : List ℕ → Product) (outcome : Outcome)
    → IsInput reads old.source.remaining new.source.remaining input
    → Appends old.sink.contents new.sink.contents (said_product (make input) []).written
    → ((unread : List ℕ) → IsOutcome outcome (said_product (make input) unread))
    → Finishes old new outcome (said_making reads make)
batch_done true old new input make outcome taken writes out =
    done_whole old new input taken (said_making true make) outcome writes (out []) (unread_product (make input) [])
    (subst IsSoundExit (sym (out []).exit) (sound_product (make input) []))
batch_done false old new input make outcome taken writes out =
    done_unread old new taken.0 (said_making false make) outcome
    (λ i. (
      rw (written_product (make []) i)
          (subst (λ j. Appends old.sink.contents new.sink.contents (said_product (make j) []).written) taken.1 writes),
      subst (λ j. IsOutcome outcome (said_product (make j) i)) taken.1 (out i),
      unread_product (make []) i,
    ))
    (subst IsSoundExit (sym (out []).exit) (sound_product (make input) []))

-- If a fault stops the job after it read its input and before it wrote anything, then the job has written a prefix of
-- its defined output.
pub batch_unwritten : (reads : Bool) (old : Streams) (now : Incoming) (input : List ℕ) (text : List ℕ → Said) (fault : Fault)
    → IsInput reads old.source.remaining now.remaining input
    → ((read : List ℕ) → length read ≤ INPUT_LIMIT → IsCause fault now.failed old.sink.failed read)
    → BreaksOff old (both now old.sink) fault text
batch_unwritten true old now input text fault taken cause = broken_unwritten old now fault text input taken.0 (cause input taken.2)
batch_unwritten false old now input text fault taken cause =
    broken_unwritten old now fault text []
    (subst (λ left. Consumes old.source.remaining left []) (sym taken.0) (consumes_none old.source.remaining)) (cause [] (omega arith))

-- If the input was read and a prefix of the product was written, then the job has written a prefix of its defined
-- output.
pub batch_broken : (reads : Bool) (old new : Streams) (input : List ℕ) (make : List ℕ → Product) (fault : Fault)
    → IsInput reads old.source.remaining new.source.remaining input
    → AppendsFront old.sink.contents new.sink.contents (said_product (make input) []).written
    → new.source.failed ≡ false → IsCause fault false new.sink.failed []
    → BreaksOff old new fault (said_making reads make)
batch_broken true old new input make fault taken front well cause =
    broken_writing old new input taken (said_making true make) fault front well cause
batch_broken false old new input make fault taken front well cause =
    broken_unread old new taken.0 (said_making false make) fault (said_product (make []) []).written
    (written_product (make []))
    (subst (λ j. AppendsFront old.sink.contents new.sink.contents (said_product (make j) []).written) taken.1 front) well cause
