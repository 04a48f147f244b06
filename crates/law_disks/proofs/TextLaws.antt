-- Lemma: `GetText` returns the text that `PutText` has put.
use Rattle.std.proofs.Common.{◌≡◌, ℕ, false, ltb, List, refl, length, Option, Some, None, Ok, arith}
use Rattle.std.proofs.lemmas.Bool.Decides.{nat_tests}
use Rattle.pm_textfile.proofs.RoundTrip.{length-text_file, text_of-text_file}
use Rattle.pm_textfile.specs.Laying.{text_file}
use Rattle.pm_textfile.specs.Writing.{text_fault}
use Rattle.pm_textfile.specs.declared.fault.TextFault.{TextFault}
use Rattle.pm_filer.specs.Filed.{Filed, Put, PutText, filed, text_written}
use Rattle.pm_filer.specs.Laws.{TextIsGot, TextKeepsOthers}
use Rattle.law_disks.proofs.GivenLaws.{put_is_got}

faultless : (image name text : List ℕ) (o : Option TextFault) (f : Filed) → text_written image name text o ≡ Ok f → o ≡ None
faultless image name text None f done = refl
faultless image name text (Some fault) f done = cc

text-faultless : (image name text : List ℕ) (f : Filed) → filed image (PutText name text) ≡ Ok f → text_fault text ≡ None
unfolding filed
text-faultless image name text f done = faultless image name text (text_fault text) f done

-- If `PutText` succeeds, then `Put` of the bytes of the text file with kind 3 gives the same result.
put-text : (image name text : List ℕ) (f : Filed) → filed image (PutText name text) ≡ Ok f → filed image (Put name 3 (text_file text)) ≡ Ok f
unfolding filed
put-text image name text f done =
    let none = faultless image name text (text_fault text) f done in
    rw none at done

pub text_is_got : TextIsGot
unfolding filed
text_is_got image name text f b done other same =
    let got = rw same at (put_is_got image name 3 (text_file text) f b (put-text image name text f done) other) in
    let long : ltb (length (text_file text)) 1024 ≡ false = grind (arith, nat_tests, length-text_file text) in
    rw (got, long, text_of-text_file text (text-faultless image name text f done)) refl

pub text_keeps_others : TextKeepsOthers
text_keeps_others image name text f b done other unlike =
    rw unlike at (put_is_got image name 3 (text_file text) f b (put-text image name text f done) other)
