use Rattle.std.proofs.Common.{◌≡◌, true, rules, tests}
use Rattle.pm_volume.specs.Names.{is_new_name}
use Rattle.pm_volume.proofs.NameLaws.{length-new_name}
use Rattle.pm_volume.proofs.volume.Volume.slot_to_rename.Goals as goal

pub returns-clause-named : goal.returns-clause-named
returns-clause-named c =
    let new : is_new_name 15 c.args.new.now ≡ true = search (rules, tests) in
    length-new_name 15 c.args.new.now new
