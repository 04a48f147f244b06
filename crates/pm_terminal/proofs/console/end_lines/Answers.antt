use Rattle.std.proofs.Common.{rules}
use Rattle.std.proofs.lemmas.List.Edits.{map_over_more}
use Rattle.std.proofs.lemmas.List.{drop_all, take_all}
use Rattle.pm_terminal.specs.Console.{shown_byte}
use Rattle.pm_terminal.proofs.console.end_lines.Goals as goal

pub loop-byte-preserved : goal.loop-byte-preserved
loop-byte-preserved c = search (rules, map_over_more shown_byte)

pub returns : goal.returns
returns c = search (rules, take_all, drop_all)
