use Rattle.std.proofs.Common.{◌≡◌, length, true, leb, rules, tests}
use Rattle.std.proofs.lemmas.Iterator.{YieldsList-from_slice}
use Rattle.std.proofs.lemmas.Iterator.Search.{all_from_yields_List}
use Rattle.pm_volume.specs.Names.{is_new_name_character, is_new_name}
use Rattle.pm_volume.proofs.entry.is_new_name.Goals as goal

pub returns-then-name-most : goal.returns-then-name-most
unfolding is_new_name
returns-then-name-most c =
    let all = all_from_yields_List is_new_name_character c.all.new.self _ c.all.result c.all.ensures.ran (YieldsList-from_slice c.args.name.now cc)
    (λ x b q k. search (rules, tests)) in
    let some : leb 1 (length c.args.name.now) ≡ true = search (rules, tests) in
    let few : leb (length c.args.name.now) c.args.most ≡ true = search (rules, tests) in
    record { accepted = rw (some, few) all }
