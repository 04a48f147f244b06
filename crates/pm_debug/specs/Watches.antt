-- Watched words. A watched word is a word of memory whose change stops a run. The run stops before a step if the word
-- has changed since the run began.
use Rattle.std.specs.Prelude.{ℕ, ◌==◌, not, Bool, List, [], ◌∷◌, ◌++◌, length, map, filter, is_some}
use Rattle.std.specs.Prelude.{Option, Some, None, Result, Ok, Err, if◌then◌else◌, nat_lt}
use Rattle.std.specs.List.{list_any}
use Rattle.pm_words.specs.Words.{word_at}
use Rattle.pm_words.specs.Stack.{is_even}
use Rattle.pm_debug.specs.declared.refusal.DebugRefusal.{DebugRefusal}
use Rattle.pm_debug.specs.declared.refusal.DebugRefusal.TheVariants.{Full, NotSet, OddAddress}
use Rattle.pm_debug.specs.declared.watches.WatchedWord.{WatchedWord}

-- Is true if the word at the address `a` is watched.
abbrev pub is_watched : ℕ → List ℕ → Bool
is_watched a watches = list_any (λ b. b == a) watches

-- The list `watches` with the address `a` added. An odd address is refused. If the list contains `a`, it is unchanged.
-- If it contains 64 other addresses, a new one is refused.
unfoldable pub with_watch : ℕ → List ℕ → Result (List ℕ) DebugRefusal
with_watch a watches =
    if not (is_even a) then Err OddAddress
    else if is_watched a watches then Ok watches
    else if nat_lt (length watches) 64 then Ok (watches ++ a ∷ [])
    else Err Full

-- The list `watches` without the address `a`. If the list does not contain `a`, the call is refused.
unfoldable pub without_watch : ℕ → List ℕ → Result (List ℕ) DebugRefusal
without_watch a watches = if is_watched a watches then Ok (filter (λ b. not (b == a)) watches) else Err NotSet

-- The word of the memory `m` at the address `a`, with this address.
abbrev pub watched_word : List ℕ → ℕ → WatchedWord
watched_word m a = record { address = a; word = word_at m a }

-- The words of the memory `m` at the addresses `watches`, with these addresses.
abbrev pub watched_words : List ℕ → List ℕ → List WatchedWord
watched_words watches m = map (watched_word m) watches

-- The address of the first watched word whose value in the memory `m` has changed, or `None`.
unfoldable pub first_changed : List WatchedWord → List ℕ → Option ℕ
first_changed [] m = None
first_changed (w ∷ ws) m = if word_at m w.address == w.word then first_changed ws m else Some w.address

-- Is true if one of the watched words has changed in the memory `m`.
abbrev pub has_changed : List WatchedWord → List ℕ → Bool
has_changed watched m = is_some (first_changed watched m)
