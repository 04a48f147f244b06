-- A run whose output is written while it is executed: how one step continues the run, and how the run ends.
-- The page is the output that is not yet written.
use Rattle.std.proofs.Common.{◌≡◌, ℕ, ◌+◌, ◌-◌, ◌<◌, ◌≤◌, List, [], ◌∷◌, ◌++◌, None, true}
use Rattle.std.proofs.Common.{false, length, refl, sym, ap, ◌∙◌, append_assoc, append-nil, arith, inl, inr, subst}
use Rattle.std.proofs.lemmas.List.{length-append}
use Rattle.std.specs.Io.KnownBytes.{Consumes, Appends, Keeps}
use Rattle.std.proofs.KnownBytes.{Consumes-trans, Consumes-nil, Consumes-kept}
use Rattle.pm_words.specs.declared.error.ExecError.{ExecError}
use Rattle.pm_machine.specs.State.{State}
use Rattle.pm_machine.specs.Steps.{stepped}
use Rattle.pm_machine.specs.Events.{Key, next}
use Rattle.pm_machine.specs.declared.state.Stop.TheVariants.{Went, Waiting, Ended, Halted}
use Rattle.pm_session.specs.declared.ending.Ending.TheVariants as endings
use Rattle.pm_jobs.specs.declared.fault.Fault.{Fault}
use Rattle.pm_jobs.specs.declared.fault.Fault.TheVariants as faults
use Rattle.pm_jobs.specs.declared.source.TheConstants.{INPUT_LIMIT}
use Rattle.pm_tool.specs.declared.steps.Show.{Show}
use Rattle.pm_tool.specs.Run.{after_showing, ended_run, shown_of, shown_by, run_of, ComesToEnd, StopsShort}
use Rattle.pm_jobs.specs.Streams.{Incoming, Outgoing, Streams, both, IsFront, AppendsFront, AppendsBut, IsCause, ReadsByte, TakesNone}
use Rattle.pm_jobs.proofs.Pages.{but_none, but_grown, but_turned, but_front, but_lost, but_cleared}
use Rattle.pm_tool.proofs.ReadWhole.{not_failed}
use Rattle.pm_tool.proofs.Runs.{run_of-goes, run_of-waits, run_of-stuck, run_of-none}
use Rattle.pm_jobs.proofs.Transfers.{cause_longer, front_trans}

-- A run of at most `limit` steps from the state `began` has reached the state `m`, with at most `n` steps left. `taken`
-- bytes were read as console input. The output so far was written, except `page`.
pub record IsUnderWay (old now : Streams) (page : List ℕ) (taken : ℕ) (show : Show) (limit : ℕ) (began : State) (n : ℕ)
    (m : State) : Type 0 where
  pub read : List ℕ
  pub shown : List ℕ
  pub count : length read ≡ taken
  pub reads : Consumes old.source.remaining now.source.remaining read
  pub writes : AppendsBut old.sink.contents now.sink.contents page shown
  pub run : (rest : List ℕ) → run_of show limit (read ++ rest) began ≡ after_showing shown (run_of show n rest m)

pub under_way_none : (old : Streams) (page : List ℕ) (show : Show) (limit n : ℕ) (began : State) → page ≡ [] → n ≡ limit
    → IsUnderWay old old page 0 show limit began n began
under_way_none old page show limit n began blank e = record {
  read = [];
  shown = [];
  count = refl;
  reads = Consumes-nil old.source.remaining;
  writes = rw blank (but_none old.sink.contents);
  run = λ rest. ap (λ k. run_of show k rest began) (sym e);
}

module _ (old now : Streams) (page : List ℕ) (taken : ℕ) (show : Show) (limit : ℕ) (began : State) (n : ℕ) (m : State)
    (u : IsUnderWay old now page taken show limit began n m) where
  -- If the page is written except for its last bytes `rest`, then the run continues with the page `rest`.
  pub under_way_turned : (sink : Outgoing) (rest : List ℕ) → AppendsBut now.sink.contents sink.contents rest page
      → IsUnderWay old (both now.source sink) rest taken show limit began n m
  under_way_turned sink rest turned = record {
    read = u.read;
    shown = u.shown;
    count = u.count;
    reads = u.reads;
    writes = but_turned old.sink.contents now.sink.contents sink.contents page rest u.shown u.writes turned;
    run = u.run;
  }

  -- If the whole page is written, then the run continues with an empty page.
  pub under_way_cleared : (sink : Outgoing) (blank : List ℕ) → Appends now.sink.contents sink.contents page → blank ≡ []
      → IsUnderWay old (both now.source sink) blank taken show limit began n m
  under_way_cleared sink blank a e = record {
    read = u.read;
    shown = u.shown;
    count = u.count;
    reads = u.reads;
    writes = but_cleared old.sink.contents now.sink.contents sink.contents page blank u.shown u.writes a e;
    run = u.run;
  }

  -- If no steps are left, then the run has ended with `Limit`.
  pub over_limit : taken ≤ INPUT_LIMIT → n ≡ 0 → ComesToEnd old now page show limit began endings.Limit m
  over_limit few none = record {
    read = u.read;
    shown = u.shown;
    few = rw u.count few;
    reads = u.reads;
    writes = u.writes;
    run = λ rest _. u.run rest ∙ rw none (ap (after_showing u.shown) (run_of-none show rest m)
        ∙ ap (λ t. ended_run t endings.Limit m rest) (append-nil u.shown));
    drained = λ w. cc;
  }

  -- If `front` is a prefix of the output so far, then `front` is a prefix of the output of the whole run.
  begins : (front rest : List ℕ) → IsFront front u.shown → IsFront front (run_of show limit (u.read ++ rest) began).shown
  begins front rest f = rw (u.run rest) (front_trans front u.shown (u.shown ++ (run_of show n rest m).shown) f ((run_of show n rest m).shown, refl))

  -- If a fault stops the run between two steps, and the page is not written, then the run has stopped short.
  pub broken_between : (fault : Fault) → now.source.failed ≡ false
      → ((read : List ℕ) → length read ≡ taken → IsCause fault now.source.failed now.sink.failed read)
      → StopsShort old now show limit began fault
  broken_between fault well cause =
      let lost = but_lost old.sink.contents now.sink.contents page u.shown u.writes in
      record {
        read = u.read;
        front = lost.0;
        reads = u.reads;
        writes = lost.1;
        begins = λ rest. begins lost.0 rest lost.2;
        prompt = λ failed. not_failed now.source.failed well failed;
        cause = cause u.read u.count;
      }

  -- If only a prefix of the page could be written, then the run has stopped short.
  pub broken_writing : (sink : Outgoing) (fault : Fault) → taken ≤ INPUT_LIMIT → AppendsFront now.sink.contents sink.contents page
      → now.source.failed ≡ false → IsCause fault false sink.failed [] → StopsShort old (both now.source sink) show limit began fault
  broken_writing sink fault few a well cause =
      let front = but_front old.sink.contents now.sink.contents sink.contents page u.shown u.writes a in
      record {
        read = u.read;
        front = front.0;
        reads = u.reads;
        writes = front.1;
        begins = λ rest. begins front.0 rest front.2;
        prompt = λ failed. not_failed now.source.failed well failed;
        cause = rw well (cause_longer fault sink.failed u.read (rw u.count few) cause);
      }

  -- If the read of a byte for a step that waits fails, and the page is empty, then the run has stopped short.
  pub broken_reading : (source : Incoming) (fault : Fault) → Keeps now.source.remaining source.remaining → fault ≡ faults.Read
      → source.failed ≡ true → now.sink.failed ≡ false
      → page ≡ [] → (after : State) → 0 < n → stepped m ≡ (after, Waiting) → StopsShort old (both source now.sink) show limit began fault
  broken_reading source fault k e failed well blank after some step = record {
    read = u.read;
    front = u.shown;
    reads = Consumes-kept old.source.remaining now.source.remaining source.remaining u.read u.reads k;
    writes = subst (Appends old.sink.contents now.sink.contents) (sym (u.writes.2 ∙ ap (λ p. u.writes.0 ++ p) blank ∙ append-nil u.writes.0)) u.writes.1;
    begins = λ rest. begins u.shown rest ([], sym (append-nil u.shown));
    prompt = λ _. ap (λ r. (run_of show limit r began).shown) (sym (append-nil u.read))
        ∙ ap (λ t. t.shown) (u.run [] ∙ ap (after_showing u.shown) (run_of-stuck show n m after some step)) ∙ append-nil u.shown;
    cause = rw e (well, inl failed);
  }

  module _ (page' : List ℕ) (after : State) (some : 0 < n) where
    -- If a step succeeds and its output is appended to the page, then the run continues with one step less.
    pub under_way_went : (k : ℕ) → stepped m ≡ (after, Went) → page' ≡ page ++ shown_by show m after Went → k ≡ n - 1
        → IsUnderWay old now page' taken show limit began k after
    under_way_went k step grown ke =
        let line = shown_of show m after in
        record {
          read = u.read;
          shown = u.shown ++ line;
          count = u.count;
          reads = u.reads;
          writes = but_grown old.sink.contents now.sink.contents page u.shown line page' u.writes grown;
          run = λ rest. u.run rest ∙ ap (after_showing u.shown) (run_of-goes show n rest m after Went some step refl)
              ∙ ap (λ j. after_showing u.shown (after_showing line (run_of show j rest after))) (sym ke)
              ∙ ap (λ t. record (run_of show k rest after) { shown = t }) (sym (append_assoc u.shown line (run_of show k rest after).shown));
        }

    pub over_ended : taken ≤ INPUT_LIMIT → stepped m ≡ (after, Ended) → page' ≡ page ++ shown_by show m after Ended
        → ComesToEnd old now page' show limit began endings.Ended after
    over_ended few step grown = record {
      read = u.read;
      shown = u.shown ++ shown_of show m after;
      few = rw u.count few;
      reads = u.reads;
      writes = but_grown old.sink.contents now.sink.contents page u.shown (shown_of show m after) page' u.writes grown;
      run = λ rest _. u.run rest ∙ ap (after_showing u.shown) (run_of-goes show n rest m after Ended some step refl);
      drained = λ w. cc;
    }

    pub over_halted : (error : ExecError) → taken ≤ INPUT_LIMIT → stepped m ≡ (after, Halted error) → page' ≡ page ++ shown_by show m after (Halted error)
        → ComesToEnd old now page' show limit began (endings.Error error) after
    over_halted error few step grown = record {
      read = u.read;
      shown = u.shown ++ shown_of show m after;
      few = rw u.count few;
      reads = u.reads;
      writes = but_grown old.sink.contents now.sink.contents page u.shown (shown_of show m after) page' u.writes grown;
      run = λ rest _. u.run rest ∙ ap (after_showing u.shown) (run_of-goes show n rest m after (Halted error) some step refl);
      drained = λ w. cc;
    }

    -- If a step waits, then the page is unchanged.
    pub under_way_waited : page' ≡ page ++ shown_by show m after Waiting → IsUnderWay old now page' taken show limit began n m
    under_way_waited grown = record {
      read = u.read;
      shown = u.shown;
      count = u.count;
      reads = u.reads;
      writes = rw (grown ∙ append-nil page) u.writes;
      run = u.run;
    }

    -- If a step waits and a byte is read and appended to the console input queue, then the run continues with the same
    -- number of steps.
    pub under_way_key : (source : Incoming) (key : ℕ) (m' : State) → stepped m ≡ (after, Waiting)
        → Consumes now.source.remaining source.remaining (key ∷ [])
        → m' ≡ next after (Key key)
        → IsUnderWay old (both source now.sink) page (taken + 1) show limit began n m'
    under_way_key source key m' step reads keyed = record {
      read = u.read ++ key ∷ [];
      shown = u.shown;
      count = length-append u.read (key ∷ []) ∙ ap (λ k. k + 1) u.count;
      reads = Consumes-trans old.source.remaining now.source.remaining source.remaining u.read (key ∷ []) u.reads reads;
      writes = u.writes;
      run = λ rest. ap (λ keys. run_of show limit keys began) (append_assoc u.read (key ∷ []) rest) ∙ u.run (key ∷ rest)
          ∙ ap (after_showing u.shown) (run_of-waits show n key rest m after some step) ∙ ap (λ t. after_showing u.shown (run_of show n rest t)) (sym keyed);
    }

    -- If a step waits and no byte remains, then the run has ended with `Waiting`.
    pub over_waiting : (source : Incoming) → taken ≤ INPUT_LIMIT → stepped m ≡ (after, Waiting)
        → ReadsByte now.source.remaining source.remaining None
        → ComesToEnd old (both source now.sink) page show limit began endings.Waiting after
    over_waiting source few step none = record {
      read = u.read;
      shown = u.shown;
      few = rw u.count few;
      reads = Consumes-kept old.source.remaining now.source.remaining source.remaining u.read u.reads none.0;
      writes = u.writes;
      run = λ rest no. let e = no refl in
          u.run rest ∙ rw e (ap (after_showing u.shown) (run_of-stuck show n m after some step)
          ∙ ap (λ t. ended_run t endings.Waiting after []) (append-nil u.shown));
      drained = λ _. none.1;
    }

-- If no byte could be accepted for a step that waits, and the page is empty, then the run has stopped short.
pub broken_taking : (old now : Streams) (source : Incoming) (page : List ℕ) (taken : ℕ) (show : Show) (limit : ℕ)
    (began : State) (n : ℕ) (m : State) → IsUnderWay old now page taken show limit began n m → TakesNone now.source source taken
    → (fault : Fault) → fault ≡ faults.Read → now.sink.failed ≡ false → page ≡ [] → (after : State) → 0 < n → stepped m ≡ (after, Waiting)
    → StopsShort old (both source now.sink) show limit began fault
broken_taking old now source page taken show limit began n m u none fault e well blank after some step = elim none [
  | inl k ↦ broken_reading old now page taken show limit began n m u source fault k.1 e k.0 well blank after some step
  | inr k ↦ broken_between old (both source now.sink) page (taken + 1) show limit began n (next after (Key k.2.0))
      (under_way_key old now page taken show limit began n m u page after some source k.2.0 (next after (Key k.2.0)) step k.2.1 refl)
      fault k.0 (λ read count. rw e (well, inr (omega (arith, k.1, count))))
]
