-- Laws by which the bytes that a step writes are computed one range after the other.
use Rattle.std.proofs.Common.{◌≡◌, ℕ, ◌+◌, ◌/◌, ◌%◌, ◌<◌, ◌≤◌, true, List, [], length}
use Rattle.std.proofs.Common.{Option, Some, None, Result, Ok, Err, refl, arith, rules, add-one}
use Rattle.std.specs.Prelude.{◌||◌}
use Rattle.std.proofs.lemmas.List.{get_or_past, take-append-drop}
use Rattle.pm_words.specs.declared.error.ExecError.{ExecError}
use Rattle.pm_words.specs.declared.error.ExecError.TheVariants.{NoProcedure}
use Rattle.pm_words.specs.Words.{IsMemory, bytes_of, overwritten, with_bytes, word_at}
use Rattle.pm_words.proofs.Pairs.{words_of-bytes_of}
use Rattle.pm_families.specs.declared.families.Call.{Call}
use Rattle.pm_calls.specs.declared.exits.Wanted.{Wanted}
use Rattle.pm_calls.specs.Calls.{Reached}
use Rattle.pm_calls.specs.Exits.{frame_up, last_frame, least_below, met}
use Rattle.pm_calls.proofs.WalkLaws.{Passes, least_is, least_none, stops, stops-not}
use Rattle.pm_machine.specs.Written.{Stretch, ips_written, reached_written, stretch, touches}
use Rattle.pm_access.specs.declared.stretches.Bytes.{Bytes}
use Rattle.pm_access.specs.Reached.{Seen, reached_seen}
use Rattle.pm_access.specs.Writing.{frame_and_code, meets}

-- If an address is above 65,535, then its word is 0.
pub word_above : (m : List ℕ) (a : ℕ) → IsMemory m → 65535 < a → word_at m a ≡ 0
unfolding word_at
word_above m a h l =
    let past : length m ≤ a / 2 = omega (arith, h.size) in
    get_or_past m (a / 2) 0 past

-- If no code is loaded, the memory is unchanged.
pub no_code : (m : List ℕ) (a : ℕ) → with_bytes m a [] ≡ m
unfolding with_bytes
no_code m a =
    let whole : overwritten (bytes_of m) a [] ≡ bytes_of m = search (rules, take-append-drop) in
    rw whole (words_of-bytes_of m)

-- The ranges that a call writes in the segment that it reaches. The list is empty if the call reaches no segment.
abbrev pub seen_written : Call → ℕ → Option Seen → List Stretch
seen_written call sp (Some at) = frame_and_code call sp at
seen_written call sp None = []

pub written_seen : (call : Call) (sp : ℕ) (r : Result Reached ExecError) → reached_written call sp r ≡ seen_written call sp (reached_seen r)
written_seen call sp (Ok at) = refl
written_seen call sp (Err e) = refl

-- ---- EXIT

-- If the first `k` frames do not match, and the caller of frame `k` is the requested procedure, then the search returns
-- `k`.
pub last_there : (m : List ℕ) (p : Wanted) (a k : ℕ) → k < 32768 → Passes m p a k → met m p (frame_up m a k) ≡ Ok true → last_frame m p a ≡ Ok k
unfolding last_frame
last_there m p a k l h e =
    let there : stops m p a k ≡ true = rw e refl in
    let found : least_below (stops m p a) 32768 ≡ Some k = least_is (stops m p a) k 32768 l (stops-not m p a k h) there in
    rw (found, e) refl

-- If the first `k` frames do not match, and the check of frame `k` returns an error, then the search returns this
-- error.
pub last_fails : (m : List ℕ) (p : Wanted) (a k : ℕ) (e : ExecError) → k < 32768 → Passes m p a k → met m p (frame_up m a k) ≡ Err e → last_frame m p a ≡ Err e
unfolding last_frame
last_fails m p a k x l h e =
    let there : stops m p a k ≡ true = rw e refl in
    let found : least_below (stops m p a) 32768 ≡ Some k = least_is (stops m p a) k 32768 l (stops-not m p a k h) there in
    rw (found, e) refl

-- If none of 32,768 frames matches, then the search returns `NoProcedure`.
pub last_none : (m : List ℕ) (p : Wanted) (a n : ℕ) → n ≡ 32768 → Passes m p a n → last_frame m p a ≡ Err NoProcedure
unfolding last_frame
last_none m p a n w h =
    let found : least_below (stops m p a) n ≡ None = least_none (stops m p a) n (stops-not m p a n h) in
    let whole : least_below (stops m p a) 32768 ≡ None = rw w at found in
    rw whole refl

-- If `f` is the frame to which `k` dynamic links lead, then `k + 1` saved IPCs are written if and only if `k` saved
-- IPCs or that of `f` are written.
pub ips_more : (b : Bytes) (m : List ℕ) (a k f : ℕ) → f ≡ frame_up m a k
    → meets b (ips_written m a (k + 1)) ≡ (touches b.address b.count (stretch ((f + 8) % 65536) 2) || meets b (ips_written m a k))
unfolding ips_written
ips_more b m a k f e = rw (add-one, e) refl
