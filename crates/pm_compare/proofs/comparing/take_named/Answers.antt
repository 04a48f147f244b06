use Rattle.std.proofs.Common.{◌≡◌, ◌<◌, ◌∙◌, List, None, Some, length, position, ap, subst, sym}
use Rattle.pm_volume.specs.Files.{is_named}
use Rattle.pm_volume.specs.declared.entry.Entry.{Entry}
use Rattle.pm_compare.proofs.Taking.{found_nowhere, found_there, removed_nowhere, removed_there}
use Rattle.pm_compare.proofs.comparing.take_named.Goals as goal

pub returns-in-Some-clause-taken : goal.returns-in-Some-clause-taken
returns-in-Some-clause-taken c =
    let xs = c.args.files.now.items in
    let p = is_named c.args.name.now in
    let found : position p xs ≡ Some c.in-Some.place = ap (position p) (sym c.as_slice.ensures.value) ∙ sym c.in-Some.ensures.place in
    let within : c.in-Some.place < length xs =
    subst (λ (ys : List Entry). c.in-Some.place < length ys) c.as_slice.ensures.value c.in-Some.ensures.within in
    found_there p xs c.in-Some.place c.remove.result found within c.remove.ensures.value

pub returns-in-Some-clause-left : goal.returns-in-Some-clause-left
returns-in-Some-clause-left c =
    let xs = c.args.files.now.items in
    let p = is_named c.args.name.now in
    let found : position p xs ≡ Some c.in-Some.place = ap (position p) (sym c.as_slice.ensures.value) ∙ sym c.in-Some.ensures.place in
    c.remove.ensures.items ∙ removed_there p xs c.in-Some.place found

pub returns-in-None-clause-taken : goal.returns-in-None-clause-taken
returns-in-None-clause-taken c =
    let xs = c.args.files.now.items in
    let p = is_named c.args.name.now in
    let found : position p xs ≡ None = ap (position p) (sym c.as_slice.ensures.value) ∙ sym c.in-None.ensures.place in
    found_nowhere p xs found

pub returns-in-None-clause-left : goal.returns-in-None-clause-left
returns-in-None-clause-left c =
    let xs = c.args.files.now.items in
    let p = is_named c.args.name.now in
    let found : position p xs ≡ None = ap (position p) (sym c.as_slice.ensures.value) ∙ sym c.in-None.ensures.place in
    removed_nowhere p xs found
