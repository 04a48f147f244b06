-- Lemmas: the job that writes all faults of a text has the same exit and message as the job that assembles the text.
use Rattle.std.proofs.Common.{◌≡◌, false, List, [], ◌∷◌, Ok, Err, refl}
use Rattle.pm_reader.specs.Firsts.{first_of}
use Rattle.pm_source.specs.declared.fault.AsmFault.{AsmFault}
use Rattle.pm_asm.specs.Assembled.{Outcome, assembled, wanted}
use Rattle.pm_asm.specs.Each.{all_faults, fault_in}
use Rattle.law_text.proofs.Eachs.{first_of_all}
use Rattle.pm_batch.specs.Assembly.{judged_faults, made_bytes, text_of_input}
use Rattle.law_jobs.specs.ToolLaws.{EndsAs, FaultsEndAsAssembling}
use Rattle.pm_tool.specs.Products.{said_product}

ends_as : (faults : List AsmFault) (o : Outcome) → first_of faults ≡ fault_in o
    → EndsAs (said_product (judged_faults faults) []) (said_product (made_bytes (wanted false o)) [])
ends_as [] (Ok made) h = record { exit = refl; message = refl; nothing = λ e. refl }
ends_as [] (Err fault) h = cc
ends_as (fault ∷ faults) (Ok made) h = cc
ends_as (fault ∷ faults) (Err other) h = record { exit = refl; message = cc; nothing = λ e. cc }

pub faults_end_as_assembling : FaultsEndAsAssembling
faults_end_as_assembling input =
    ends_as (all_faults (text_of_input input)) (assembled (text_of_input input)) (first_of_all (text_of_input input))
