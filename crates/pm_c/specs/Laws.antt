-- Laws about the statuses, the buffers and the sessions.
use Rattle.std.specs.Prelude.{◌≡◌, ◌≢◌, ◌↔◌, ◌≤◌, ℕ, ◌+◌, List, [], ◌∷◌, ◌++◌, length, None, Some, IsOk}
use Rattle.std.specs.Prelude.{is_some, false, true, codes, if◌then◌else◌}
use Rattle.pm_volume.specs.Directory.{image_fault}
use Rattle.pm_units.specs.Devices.{Devices, mounted}
use Rattle.pm_machine.specs.Boot.{boot_start}
use Rattle.pm_machine.specs.declared.state.Stop.{Stop}
use Rattle.pm_machine.specs.State.{State}
use Rattle.pm_machine.specs.declared.state.BootFault.{BootFault}
use Rattle.pm_machine.specs.CodePlaces.{code_place}
use Rattle.pm_debug.specs.Runs.{Gone, gone, gone_on}
use Rattle.pm_debug.specs.declared.run.Depth.TheVariants.{Any}
use Rattle.pm_debug.specs.Session.{Session}
use Rattle.pm_debug.specs.declared.reason.BreakReason.{BreakReason}
use Rattle.pm_debug.specs.declared.reason.BreakReason.TheVariants as reasons
use Rattle.pm_debug.specs.declared.refusal.DebugRefusal.TheVariants.{Full, NothingLeft, NotSet, OddAddress, TooDeep}
use Rattle.pm_debug.specs.Refusals.{number_of as refusal_number}
use Rattle.pm_units.specs.Devices.{mount_number}
use Rattle.pm_units.specs.declared.ports.MountFault.{MountFault}
use Rattle.pm_volume.specs.Faults.{number_of as volume_number}
use Rattle.pm_volume.specs.declared.fault.VolumeFault.{VolumeFault}
use Rattle.pm_volume.specs.declared.fault.VolumeFault.TheVariants.{NoMemory}
use Rattle.pm_convert.specs.Jobs.{number_of as convert_number}
use Rattle.pm_convert.specs.declared.job.ConvertFault.{ConvertFault}
use Rattle.pm_filer.specs.SystemFaults.{number_of as system_number}
use Rattle.pm_filer.specs.declared.system_fault.SystemFault.{SystemFault}
use Rattle.pm_filer.specs.declared.system_fault.SystemFault.TheVariants as system
use Rattle.pm_session.specs.declared.commands.Command.TheVariants as commands
use Rattle.pm_session.specs.Answers.{after_command, after_run, session_after, with_breaks, with_watches}
use Rattle.pm_session.specs.Orders.{order_of}
use Rattle.pm_session.specs.Sessions.{answers, is_quit, opened}
use Rattle.pm_c.specs.Sentences.{sentence}
use Rattle.pm_c.specs.Sessions.{after_more, breaks_after, go_code, line_answer, watches_after}
use Rattle.pm_c.specs.Changes.{fill_code, filled}
use Rattle.pm_c.specs.Codes.{boot_code, image_code, on_unit_4, program_code, stop_code}
use Rattle.pm_c.specs.declared.status.TheConstants.{DIFFERENT, DONE, NOTHING, NO_FORMAT, NO_MACHINE, NO_MEMORY, TOO_SHORT}

-- If a buffer is too short, it is unchanged. A buffer `room` of the needed length then gets exactly the bytes.
abbrev pub WantedLengthIsEnough : Type 0
WantedLengthIsEnough =
    (bytes old room : List ℕ) → fill_code bytes old ≡ TOO_SHORT → length room ≡ length bytes →
    (filled bytes old ≡ old) × (fill_code bytes room ≡ DONE) × (filled bytes room ≡ bytes)

-- The status of a start is 0 if and only if the image is a volume on which the program starts.
abbrev pub StartIsTold : Type 0
StartIsTold =
    (image name : List ℕ) (clock : ℕ) →
    program_code image name clock ≡ DONE
    ↔ (image_fault image ≡ None) × IsOk (boot_start (on_unit_4 image) 4 name clock)

-- The status of a mount is 0 if and only if the image is a volume and was mounted.
abbrev pub MountIsTold : Type 0
MountIsTold =
    (unit : ℕ) (image : List ℕ) (devices : Devices) →
    image_code unit image devices ≡ DONE ↔ (image_fault image ≡ None) × IsOk (mounted unit image devices)

-- The status of an executed step is never the status for out of memory or for an empty handle.
abbrev pub AnswersAreApart : Type 0
AnswersAreApart = (stop : Stop) → (stop_code stop ≢ NO_MEMORY) × (stop_code stop ≢ NO_MACHINE)

-- The library has a sentence for the number `status`.
abbrev pub IsTold : ℕ → Type 0
IsTold status = is_some (sentence status) ≡ true

-- The library has a sentence for each end of a step and of a run of the debugger. It also has a sentence for each fault
-- of a start, a unit, a volume, a breakpoint, a conversion and the system segment. The other sentences are for a name of
-- no format, a search that found nothing, volumes with different files, and the messages `refused form 1` and
-- `refused undelete 1`.
pub record AnswersAreTold : Type 0 where
  pub stops : (stop : Stop) → IsTold (stop_code stop)
  pub runs : (reason : BreakReason) → IsTold (go_code reason)
  pub starts : (fault : BootFault) → IsTold (boot_code fault)
  pub mounts : (fault : MountFault) → IsTold (300 + mount_number fault)
  pub volumes : (fault : VolumeFault) → fault ≢ NoMemory → IsTold (400 + volume_number fault)
  pub full : IsTold (500 + refusal_number Full)
  pub not_set : IsTold (500 + refusal_number NotSet)
  pub odd_address : IsTold (500 + refusal_number OddAddress)
  pub too_deep : IsTold (500 + refusal_number TooDeep)
  pub nothing_left : IsTold (500 + refusal_number NothingLeft)
  pub conversions : (fault : ConvertFault) → IsTold (900 + convert_number fault)
  pub systems : (fault : SystemFault) → fault ≢ system.NoMemory → IsTold (1000 + system_number fault)
  pub no_format : IsTold NO_FORMAT
  pub nothing : IsTold NOTHING
  pub different : IsTold DIFFERENT
  pub several : IsTold 1101
  pub not_free : IsTold 1201

-- The answers to a list of lines are the answer to the first line, followed by the answers to the other lines in the
-- session after the first line. After `quit` no more lines are answered. The answer to a line that is no command is
-- `?`.
pub record LinesAreASession : Type 0 where
  pub answers : (line : List ℕ) (lines : List (List ℕ)) (d : Session) →
      answers (line ∷ lines) d
      ≡ line_answer line d ++ (if is_quit (order_of line) then [] else answers lines (session_after (order_of line) d))
  pub no_command : (s : State) → line_answer (codes "no") (opened s) ≡ codes "?" ++ (10 ∷ [])
  pub quits : (s : State) → line_answer (codes "quit") (opened s) ≡ []
  pub takes_a_break : (s : State) → line_answer (codes "break 2 1 0") (opened s) ≡ codes "ok" ++ (10 ∷ [])

-- A call that sets or clears a breakpoint or a watched word, or executes a run, leaves the same session as the line of
-- the debugger with the same command. For a run, the premise is that the run ignores no breakpoints.
pub record CallsAreLines : Type 0 where
  pub sets : (s p o : ℕ) (d : Session) →
      with_breaks d (breaks_after true (code_place s p o) d.breaks) ≡ after_command (commands.Break s p o None) d
  pub clears : (s p o : ℕ) (d : Session) →
      with_breaks d (breaks_after false (code_place s p o) d.breaks) ≡ after_command (commands.Clear s p o) d
  pub watches : (a : ℕ) (d : Session) →
      with_watches d (watches_after true a d.watches) ≡ after_command (commands.Watch a) d
  pub unwatches : (a : ℕ) (d : Session) →
      with_watches d (watches_after false a d.watches) ≡ after_command (commands.Unwatch a) d
  pub goes : (n : ℕ) (d : Session) → d.passes ≡ 0 →
      after_run d Any (gone d.breaks d.watches n d.machine) ≡ after_command (commands.Go n) d

-- The run of `pmach_go` in the session `d`, and the session after it.
abbrev pub run_of : Session → ℕ → Gone
run_of d limit = gone d.breaks d.watches limit d.machine

abbrev pub after_go : Session → ℕ → Session
after_go d limit = after_run d Any (run_of d limit)

-- A run that its limit stopped, continued by `pmach_on`, is one run with the sum of both limits. The outcome and the
-- session are those of `pmach_go` with this sum.
pub record IsOneRun (d : Session) (limit more : ℕ) : Type 0 where
  pub outcome : gone_on d.breaks (after_go d limit).left more (run_of d limit).machine ≡ Some (run_of d (limit + more))
  pub session : after_more (after_go d limit) more (run_of d (limit + more)) ≡ after_go d (limit + more)

abbrev pub SlicesAreOneRun : Type 0
SlicesAreOneRun =
    (d : Session) (limit more : ℕ) → limit + more ≤ 18446744073709551615 → (run_of d limit).reason ≡ reasons.Limit
    → IsOneRun d limit more
