-- The effect of several reads or writes, one after the other, on the bytes of a stream.
use Rattle.std.proofs.Common.{◌≡◌, ◌≤◌, ℕ, List, [], ◌++◌, Option, Bool, false, length, take, drop, inl, inr, refl, sym, ap, ◌∙◌, append_assoc, append-nil}
use Rattle.std.proofs.Common.{arith}
use Rattle.std.proofs.lemmas.List.{take-append-drop}
use Rattle.std.specs.Io.KnownBytes.{Appends}
use Rattle.std.proofs.KnownBytes.{Appends-trans, Appends-nil}
use Rattle.pm_jobs.specs.declared.fault.Fault.{Fault}
use Rattle.pm_jobs.specs.declared.fault.Fault.TheVariants as faults
use Rattle.pm_jobs.specs.declared.source.TheConstants.{INPUT_LIMIT}
use Rattle.pm_jobs.specs.Streams.{AppendsFront, IsCause, IsFront}

-- Of `bytes`, everything before `rest` was written, and `rest` is still to be written.
pub record Written (old new : Option (List ℕ)) (bytes rest : List ℕ) : Type 0 where
  pub done : List ℕ
  pub appends : Appends old new done
  pub whole : bytes ≡ done ++ rest

pub Written-none : (old : Option (List ℕ)) (bytes : List ℕ) → Written old old bytes bytes
Written-none old bytes = record { done = []; appends = Appends-nil old; whole = refl }

pub Written-more : (old mid new : Option (List ℕ)) (bytes rest : List ℕ) (n : ℕ) → Written old mid bytes rest → Appends mid new (take n rest) →
    Written old new bytes (drop n rest)
Written-more old mid new bytes rest n w h = record {
  done = w.done ++ take n rest;
  appends = Appends-trans old mid new w.done (take n rest) w.appends h;
  whole = w.whole ∙ ap (λ l. w.done ++ l) (sym (take-append-drop n rest)) ∙ sym (append_assoc w.done (take n rest) (drop n rest));
}

pub Written-all : (old new : Option (List ℕ)) (bytes : List ℕ) → Written old new bytes [] → Appends old new bytes
Written-all old new bytes w = rw (w.whole ∙ append-nil w.done) w.appends

pub Written-front : (old new : Option (List ℕ)) (bytes rest : List ℕ) → Written old new bytes rest → AppendsFront old new bytes
Written-front old new bytes rest w = (w.done, w.appends, (rest, w.whole))

-- ---- prefixes

pub front_trans : (a b c : List ℕ) → IsFront a b → IsFront b c → IsFront a c
front_trans a b c f g = (f.0 ++ g.0, g.1 ∙ ap (λ t. t ++ g.0) f.1 ∙ append_assoc a f.0 g.0)

pub front_after : (a b c : List ℕ) → IsFront b c → IsFront (a ++ b) (a ++ c)
front_after a b c f = (f.0, ap (λ t. a ++ t) f.1 ∙ sym (append_assoc a b f.0))

-- ---- causes

-- If `fault` is the cause for a job that read nothing, then `fault` is also the cause for a job that read `read`,
-- provided that `read` is not longer than the limit.
pub cause_longer : (fault : Fault) (sink_failed : Bool) (read : List ℕ) → length read ≤ INPUT_LIMIT → IsCause fault false sink_failed [] →
    IsCause fault false sink_failed read
cause_longer faults.Read sink_failed read few c = elim c.1 [ inl bad ↦ cc | inr bad ↦ absurd (omega arith) ]
cause_longer faults.Write sink_failed read few c = (c.0, refl, few)
cause_longer faults.NoMemory sink_failed read few c = (c.0, refl, few)
