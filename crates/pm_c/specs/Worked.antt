-- Worked examples of the numbers that C programs see. Each number of the header was worked out by hand.
use Rattle.std.specs.Prelude.{◌≡◌, ℕ, List, Some, None, Result, Err}
use Rattle.pm_words.specs.declared.error.ExecError.TheVariants.{InvalidIndex, NoSegment, NoProcedure, StackOverflow}
use Rattle.pm_words.specs.declared.error.ExecError.TheVariants.{DivideByZero, InvalidMemory, SystemIo, UserIo}
use Rattle.pm_words.specs.declared.error.ExecError.TheVariants.{Unimplemented, StringTooLong, Halt}
use Rattle.pm_volume.specs.declared.fault.VolumeFault.TheVariants.{NotBlocks, TooShort, BadHeader, BadEntry}
use Rattle.pm_volume.specs.declared.fault.VolumeFault.TheVariants.{TooManyFiles, PastEnd, NoRoom, DirectoryFull}
use Rattle.pm_volume.specs.declared.fault.VolumeFault.TheVariants.{Duplicate, BadName, NoFile, FirstCopyBad, Occupied}
use Rattle.pm_units.specs.declared.ports.MountFault.TheVariants.{NoUnit, Taken}
use Rattle.pm_debug.specs.declared.breaks.Breakpoint.{Breakpoint}
use Rattle.pm_debug.specs.declared.reason.BreakReason.TheVariants as reasons
use Rattle.pm_debug.specs.declared.refusal.DebugRefusal.{DebugRefusal}
use Rattle.pm_debug.specs.declared.refusal.DebugRefusal.TheVariants as debugs
use Rattle.pm_machine.specs.declared.state.BootFault.TheVariants as boot
use Rattle.pm_machine.specs.declared.state.Status.TheVariants as status
use Rattle.pm_machine.specs.declared.state.Stop.TheVariants as stop
use Rattle.pm_tool.specs.Outcomes.{exit_number}
use Rattle.pm_tool.specs.declared.outcome.Exit.TheVariants as exits
use Rattle.pm_c.specs.Sessions.{go_code, set_code}
use Rattle.pm_c.specs.Codes.{mount_code, poke_code, start_code, status_code, stop_code, volume_code}
use Rattle.pm_c.specs.declared.status.TheConstants.{DONE, TOO_LONG, NO_MEMORY, TOO_SHORT, NO_MACHINE, HAS_MACHINE}
use Rattle.pm_c.specs.declared.status.TheConstants.{ODD_ADDRESS, NO_DISK, NO_TEXT, NO_PLACE, NO_KIND, AT_BREAK, CHANGED}
use Rattle.pm_c.specs.declared.status.TheConstants.{WAITING, ENDED, REFUSED, FAILED, STOPPED, NO_FORMAT, VERSION}
use Rattle.pm_c.specs.declared.status.TheConstants.{NOTHING, DIFFERENT}

-- The statuses of calls.
pub record WorkedAnswers : Type 0 where
  pub done : DONE ≡ 0
  pub too_long : TOO_LONG ≡ 4
  pub no_memory : NO_MEMORY ≡ 5
  pub too_short : TOO_SHORT ≡ 7
  pub no_machine : NO_MACHINE ≡ 8
  pub has_machine : HAS_MACHINE ≡ 9
  pub odd_address : ODD_ADDRESS ≡ 10
  pub no_disk : NO_DISK ≡ 11
  pub no_text : NO_TEXT ≡ 12
  pub no_place : NO_PLACE ≡ 13
  pub no_kind : NO_KIND ≡ 14
  pub at_break : AT_BREAK ≡ 15
  pub changed : CHANGED ≡ 16
  pub no_format : NO_FORMAT ≡ 17
  pub nothing : NOTHING ≡ 18
  pub different : DIFFERENT ≡ 19
  pub waiting : WAITING ≡ 1
  pub ended : ENDED ≡ 2
  pub refused : REFUSED ≡ 2
  pub failed : FAILED ≡ 3
  pub stopped : STOPPED ≡ 6
  pub version : VERSION ≡ 1
  -- a word can be written at an even address, and not at an odd address
  pub even : poke_code 1024 ≡ 0
  pub odd : poke_code 1025 ≡ 10
  -- The statuses of whole jobs: success, refusal, an execution error, and the limit or the end of the input.
  pub job_done : exit_number exits.Ended ≡ 0
  pub job_refused : exit_number exits.Refused ≡ 2
  pub job_failed : exit_number exits.ExecutionError ≡ 3
  pub job_stopped : exit_number exits.Stopped ≡ 6

-- The statuses of a step, of a machine and of a run.
pub record WorkedStops : Type 0 where
  pub went : stop_code stop.Went ≡ 0
  pub waiting : stop_code stop.Waiting ≡ 1
  pub ended : stop_code stop.Ended ≡ 2
  pub halted : stop_code (stop.Halted Halt) ≡ 114
  pub running : status_code status.Running ≡ 0
  pub has_ended : status_code status.Ended ≡ 2
  pub has_halted : status_code (status.Halted InvalidIndex) ≡ 101
  -- The statuses of a run of the debugger.
  pub limit : go_code reasons.Limit ≡ 0
  pub waits : go_code reasons.Waiting ≡ 1
  pub comes_to_its_end : go_code reasons.Ended ≡ 2
  pub at_breakpoint : go_code reasons.Break ≡ 15
  pub word_changed : go_code (reasons.Changed 1024) ≡ 16
  pub fails : go_code (reasons.Halted StackOverflow) ≡ 104

-- The statuses of a start that is refused with an execution error: 100 plus the number of the error.
pub record WorkedErrors : Type 0 where
  pub index : start_code (Err (boot.Exec InvalidIndex)) ≡ 101
  pub segment : start_code (Err (boot.Exec NoSegment)) ≡ 102
  pub procedure : start_code (Err (boot.Exec NoProcedure)) ≡ 103
  pub overflow : start_code (Err (boot.Exec StackOverflow)) ≡ 104
  pub zero : start_code (Err (boot.Exec DivideByZero)) ≡ 106
  pub memory : start_code (Err (boot.Exec InvalidMemory)) ≡ 107
  pub system_io : start_code (Err (boot.Exec SystemIo)) ≡ 109
  pub user_io : start_code (Err (boot.Exec UserIo)) ≡ 110
  pub unimplemented : start_code (Err (boot.Exec Unimplemented)) ≡ 111
  pub string : start_code (Err (boot.Exec StringTooLong)) ≡ 113
  pub halt : start_code (Err (boot.Exec Halt)) ≡ 114

abbrev breaks_code : Result (List Breakpoint) DebugRefusal → ℕ
breaks_code = set_code

-- The statuses of the other refusals. Programs have numbers from 200 on, units from 300 on, volumes from 400 on, and
-- breakpoints from 500 on.
pub record WorkedRefusals : Type 0 where
  pub no_file : start_code (Err boot.NoFile) ≡ 201
  pub not_code : start_code (Err boot.NotCode) ≡ 202
  pub bad_code : start_code (Err boot.BadCode) ≡ 203
  pub no_room : start_code (Err boot.NoMemory) ≡ 5
  pub no_unit : mount_code (Err NoUnit) ≡ 301
  pub taken : mount_code (Err Taken) ≡ 302
  pub a_volume : volume_code None 7 ≡ 7
  pub not_blocks : volume_code (Some NotBlocks) 0 ≡ 401
  pub short : volume_code (Some TooShort) 0 ≡ 402
  pub header : volume_code (Some BadHeader) 0 ≡ 403
  pub entry : volume_code (Some (BadEntry 7)) 0 ≡ 404
  pub many : volume_code (Some TooManyFiles) 0 ≡ 405
  pub past_end : volume_code (Some PastEnd) 0 ≡ 406
  pub full : volume_code (Some NoRoom) 0 ≡ 407
  pub slots : volume_code (Some DirectoryFull) 0 ≡ 408
  pub twice : volume_code (Some Duplicate) 0 ≡ 409
  pub name : volume_code (Some BadName) 0 ≡ 410
  pub none : volume_code (Some NoFile) 0 ≡ 411
  pub first_copy : volume_code (Some (FirstCopyBad 3)) 0 ≡ 413
  pub occupied : volume_code (Some Occupied) 0 ≡ 414
  pub too_many : breaks_code (Err debugs.Full) ≡ 501
  pub not_set : breaks_code (Err debugs.NotSet) ≡ 502
  pub odd_word : breaks_code (Err debugs.OddAddress) ≡ 503
  pub too_deep : breaks_code (Err debugs.TooDeep) ≡ 505
  pub nothing_left : breaks_code (Err debugs.NothingLeft) ≡ 506
