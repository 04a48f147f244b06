-- Laws by which the bytes that a step reads are computed one range after the other.
use Rattle.std.proofs.Common.{◌≡◌, ℕ, ◌+◌, ◌-◌, ◌/◌, ◌%◌, List, [], ◌++◌, Option, Some, None, Result, Ok, Err, refl, ap, arith, add-one}
use Rattle.std.specs.Prelude.{◌||◌, slice_index}
use Rattle.std.proofs.lemmas.List.Folds.{list_any-append}
use Rattle.pm_words.specs.declared.error.ExecError.{ExecError}
use Rattle.pm_words.specs.Words.{word_at}
use Rattle.pm_families.specs.declared.families.Call.{Call}
use Rattle.pm_calls.specs.declared.registers.Registers.{Registers}
use Rattle.pm_calls.specs.Calls.{Reached}
use Rattle.pm_calls.specs.Exits.{frame_up}
use Rattle.pm_calls.specs.Links.{up}
use Rattle.pm_machine.specs.ReadStretches.{frames_read, left_read, links_read, reached_read}
use Rattle.pm_machine.specs.Written.{Stretch, touches, word_stretch}
use Rattle.pm_access.specs.declared.stretches.Bytes.{Bytes}
use Rattle.pm_access.specs.Reached.{Seen, reached_seen}
use Rattle.pm_access.specs.Reading.{next_up, table_and_entry}
use Rattle.pm_access.specs.Writing.{meets}

-- One of the bytes is in the joined lists of ranges if and only if one of them is in the first list or in the second.
pub meets_both : (b : Bytes) (ss ts : List Stretch) → meets b (ss ++ ts) ≡ (meets b ss || meets b ts)
meets_both b ss ts = list_any-append (touches b.address b.count) ss ts

-- The word at an address is the word at this address with the lowest bit cleared.
pub word_below : (m : List ℕ) (a : ℕ) → word_at m (a - a % 2) ≡ word_at m a
unfolding word_at
word_below m a =
    let half : (a - a % 2) / 2 ≡ a / 2 = omega arith in
    ap (slice_index m) half

-- The ranges that a call reads in the segment that it reaches. The list is empty if the call reaches no segment.
abbrev pub seen_read : Call → Registers → Option Seen → List Stretch
seen_read call r (Some at) = table_and_entry call r at
seen_read call r None = []

pub read_seen : (call : Call) (r : Registers) (at : Result Reached ExecError) → reached_read call r at ≡ seen_read call r (reached_seen at)
read_seen call r (Ok at) = refl
read_seen call r (Err e) = refl

-- If `f` is the frame to which `k` static links lead, then the static link of `f` leads to the frame of `k + 1` links.
pub up_next : (m : List ℕ) (a k : ℕ) (f : Result ℕ ExecError) → f ≡ up m a k → next_up m f ≡ up m a (k + 1)
unfolding up
up_next m a k f e = rw (add-one, e) refl

-- If `f` is the frame to which `k` static links lead, then `k + 1` links are read if and only if `k` links or the link
-- of `f` are read.
pub links_more : (b : Bytes) (m : List ℕ) (a k : ℕ) (f : Result ℕ ExecError) → f ≡ up m a k
    → meets b (links_read m a (k + 1)) ≡ (meets b (word_stretch f) || meets b (links_read m a k))
unfolding links_read
links_more b m a k f e = rw (add-one, e) (meets_both b (word_stretch (up m a k)) (links_read m a k))

-- Let `f` be the frame to which `k` dynamic links lead. Then one of the bytes is in the first `k + 1` frames if and
-- only if it is in `f` or in the first `k` frames.
pub frames_more : (b : Bytes) (m : List ℕ) (a k f : ℕ) → f ≡ frame_up m a k
    → meets b (frames_read m a (k + 1)) ≡ (meets b (left_read m f) || meets b (frames_read m a k))
unfolding frames_read
frames_more b m a k f e = rw (add-one, e) (meets_both b (left_read m (frame_up m a k)) (frames_read m a k))
