use Rattle.std.proofs.Common.{◌≡◌, ◌≤◌, ◌+◌, ◌*◌, ◌-◌}
use Rattle.pm_undelete.specs.Texts.{pages}
use Rattle.pm_undelete.proofs.texts.pages.Given as goal

-- The pages so far and those from block `at` on are together all pages.
abbrev pub invariant-pages : goal.invariant-pages
invariant-pages l = record {
  whole : l.count + pages l.volume l.at (l.end - l.at) ≡ pages l.volume l.n (l.end - l.n);
  place : l.at ≡ l.n + 2 * l.count;
  within : l.at ≤ l.end;
}

abbrev pub decreases-pages : goal.decreases-pages
decreases-pages l = l.end - l.at
