-- Lemmas: an assembled file is a code file, and a boot finds it.
use Rattle.std.proofs.Common.{◌≡◌, ◌==◌, true, Some, refl, sym, ap, ◌∙◌, arith}
use Rattle.std.specs.Prelude.{option_map}
use Rattle.std.proofs.lemmas.Bool.Decides.{nat_tests}
use Rattle.pm_codefile.specs.Dictionary.{segment_in}
use Rattle.pm_code.specs.Program.{segment_numbered, segment_bytes}
use Rattle.pm_source.proofs.Spelled.{spelled_is_faultless}
use Rattle.pm_machine.specs.Boot.{code_file}
use Rattle.law_jobs.specs.Loaded.{AssembledIsAccepted, AssembledIsFound}
use Rattle.law_jobs.proofs.Files.{is_assembled}

pub assembled_is_accepted : AssembledIsAccepted
assembled_is_accepted text shown file h = (is_assembled text file shown h).sound

pub assembled_is_found : AssembledIsFound
unfolding code_file
assembled_is_found text shown file program segment images image name entry unit h spells has on named kind bytes =
    let is = is_assembled text file shown h in
    let same : program ≡ is.made.program = sym (spelled_is_faultless text program spells).1 ∙ (spelled_is_faultless text is.made.program is.made.spelled).1 in
    let there : segment_in file 1 ≡ Some (segment_bytes segment) =
    is.slots 1 refl ∙ ap (λ ss. option_map segment_bytes (segment_numbered 1 ss)) (sym same) ∙ ap (option_map segment_bytes) has in
    let test : (entry.kind == 2) ≡ true = grind (arith, nat_tests, kind) in
    let sound = is.sound in
    rw (on, named, test, bytes, sound, there) refl
