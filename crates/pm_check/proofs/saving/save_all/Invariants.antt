use Rattle.std.proofs.Common.{◌≡◌, ◌≤◌, ◌++◌, drop, take, string_bytes}
use Rattle.std.specs.List.Sorted.{IsPermutation}
use Rattle.pm_check.specs.Contents.{contents_of, contents_taken}
use Rattle.pm_check.specs.Saving.{saved_from}
use Rattle.pm_check.proofs.saving.save_all.Given as goal

-- Adding the remaining files to the result so far gives the result for all files.
abbrev pub invariant-loop-file : goal.invariant-loop-file
invariant-loop-file l = record {
  rest : saved_from l.image l.taken l.count (drop l.file-index l.taken)
      (record { volume = l.volume; text = string_bytes l.text; doubted = l.doubted })
      ≡ saved_from l.image l.taken l.count l.taken
      (record { volume = l.fn.volume; text = string_bytes l.fn.text; doubted = 0 });
  few : l.doubted ≤ l.file-index;
  contents : IsPermutation (contents_taken l.image (take l.file-index l.taken) ++ contents_of l.fn.volume) (contents_of l.volume);
}
