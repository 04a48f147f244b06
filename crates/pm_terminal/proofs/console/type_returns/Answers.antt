use Rattle.std.proofs.Common.{rules}
use Rattle.std.proofs.lemmas.List.Edits.{map_over_more}
use Rattle.std.proofs.lemmas.List.{drop_all, take_all}
use Rattle.pm_terminal.specs.Console.{typed_byte}
use Rattle.pm_terminal.proofs.console.type_returns.Goals as goal

pub loop-byte-preserved : goal.loop-byte-preserved
loop-byte-preserved c = search (rules, map_over_more typed_byte)

pub returns : goal.returns
returns c = search (rules, take_all, drop_all)
