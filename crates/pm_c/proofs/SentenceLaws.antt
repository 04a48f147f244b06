-- Proofs that the library has a sentence for each status.
use Rattle.std.proofs.Common.{◌≢◌, ◌+◌, refl}
use Rattle.pm_words.specs.Errors.{number_of}
use Rattle.pm_words.specs.declared.error.ExecError.{ExecError}
use Rattle.pm_words.specs.declared.error.ExecError.TheVariants as errors
use Rattle.pm_machine.specs.declared.state.BootFault.{BootFault}
use Rattle.pm_machine.specs.declared.state.BootFault.TheVariants as boot
use Rattle.pm_machine.specs.declared.state.Stop.{Stop}
use Rattle.pm_machine.specs.declared.state.Stop.TheVariants as stop
use Rattle.pm_debug.specs.declared.reason.BreakReason.{BreakReason}
use Rattle.pm_debug.specs.declared.reason.BreakReason.TheVariants as reasons
use Rattle.pm_units.specs.Devices.{mount_number}
use Rattle.pm_units.specs.declared.ports.MountFault.{MountFault}
use Rattle.pm_units.specs.declared.ports.MountFault.TheVariants.{NoUnit, Taken}
use Rattle.pm_volume.specs.Faults.{number_of as volume_number}
use Rattle.pm_volume.specs.declared.fault.VolumeFault.{VolumeFault}
use Rattle.pm_volume.specs.declared.fault.VolumeFault.TheVariants as volume
use Rattle.pm_convert.specs.Jobs.{number_of as convert_number}
use Rattle.pm_convert.specs.declared.job.ConvertFault.{ConvertFault}
use Rattle.pm_convert.specs.declared.job.ConvertFault.TheVariants as conversions
use Rattle.pm_filer.specs.SystemFaults.{number_of as system_number}
use Rattle.pm_filer.specs.declared.system_fault.SystemFault.{SystemFault}
use Rattle.pm_filer.specs.declared.system_fault.SystemFault.TheVariants as system
use Rattle.pm_c.specs.Codes.{boot_code, stop_code}
use Rattle.pm_c.specs.Laws.{AnswersAreTold, IsTold}
use Rattle.pm_c.specs.Sentences.{call_sentences, file_sentence, file_sentences, sentence}
use Rattle.pm_c.specs.Sentences.{image_sentence, image_sentences}
use Rattle.pm_c.specs.Sessions.{go_code}

error_told : (error : ExecError) → IsTold (100 + number_of error)
unfolding sentence call_sentences file_sentence file_sentences image_sentence image_sentences
error_told errors.InvalidIndex = refl
error_told errors.NoSegment = refl
error_told errors.NoProcedure = refl
error_told errors.StackOverflow = refl
error_told errors.DivideByZero = refl
error_told errors.InvalidMemory = refl
error_told errors.SystemIo = refl
error_told errors.UserIo = refl
error_told errors.Unimplemented = refl
error_told errors.StringTooLong = refl
error_told errors.Halt = refl

stop_told : (answer : Stop) → IsTold (stop_code answer)
unfolding sentence call_sentences file_sentence file_sentences image_sentence image_sentences
stop_told stop.Went = refl
stop_told stop.Waiting = refl
stop_told stop.Ended = refl
stop_told (stop.Halted error) = error_told error

run_told : (reason : BreakReason) → IsTold (go_code reason)
unfolding sentence call_sentences file_sentence file_sentences image_sentence image_sentences
run_told reasons.Limit = refl
run_told reasons.There = refl
run_told reasons.Waiting = refl
run_told reasons.Ended = refl
run_told reasons.Break = refl
run_told (reasons.Changed address) = refl
run_told (reasons.Halted error) = error_told error

start_told : (fault : BootFault) → IsTold (boot_code fault)
unfolding sentence call_sentences file_sentence file_sentences image_sentence image_sentences
start_told boot.NoFile = refl
start_told boot.NotCode = refl
start_told boot.BadCode = refl
start_told (boot.Exec error) = error_told error
start_told boot.NoMemory = refl

mount_told : (fault : MountFault) → IsTold (300 + mount_number fault)
unfolding sentence call_sentences file_sentence file_sentences image_sentence image_sentences
mount_told NoUnit = refl
mount_told Taken = refl

volume_told : (fault : VolumeFault) → fault ≢ volume.NoMemory → IsTold (400 + volume_number fault)
unfolding sentence call_sentences file_sentence file_sentences image_sentence image_sentences
volume_told volume.NotBlocks other = refl
volume_told volume.TooShort other = refl
volume_told volume.BadHeader other = refl
volume_told (volume.BadEntry n) other = refl
volume_told volume.TooManyFiles other = refl
volume_told volume.PastEnd other = refl
volume_told volume.NoRoom other = refl
volume_told volume.DirectoryFull other = refl
volume_told volume.Duplicate other = refl
volume_told volume.BadName other = refl
volume_told volume.NoFile other = refl
volume_told volume.NoMemory other = absurd (other refl)
volume_told (volume.FirstCopyBad n) other = refl
volume_told volume.Occupied other = refl

conversion_told : (fault : ConvertFault) → IsTold (900 + convert_number fault)
unfolding sentence call_sentences file_sentence file_sentences image_sentence image_sentences
conversion_told conversions.NoFormat = refl
conversion_told conversions.Several = refl
conversion_told conversions.OtherFormat = refl
conversion_told conversions.OtherLength = refl

system_told : (fault : SystemFault) → fault ≢ system.NoMemory → IsTold (1000 + system_number fault)
unfolding sentence call_sentences file_sentence file_sentences image_sentence image_sentences
system_told (system.NoCode inner) other = refl
system_told system.NoSegment other = refl
system_told (system.NoProgram inner) other = refl
system_told system.Taken other = refl
system_told (system.Volume inner) other = refl
system_told system.NoMemory other = absurd (other refl)

pub answers_are_told : AnswersAreTold
unfolding sentence call_sentences file_sentence file_sentences image_sentence image_sentences
answers_are_told = record {
  stops = stop_told;
  runs = run_told;
  starts = start_told;
  mounts = mount_told;
  volumes = volume_told;
  full = refl;
  not_set = refl;
  odd_address = refl;
  too_deep = refl;
  nothing_left = refl;
  conversions = conversion_told;
  systems = system_told;
  no_format = refl;
  nothing = refl;
  different = refl;
  several = refl;
  not_free = refl;
}
