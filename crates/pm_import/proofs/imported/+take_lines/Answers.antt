use Rattle.std.proofs.Common.{◌≡◌, map, subst}
use Rattle.pm_import.specs.Imported.{from_filled, left_seen}
use Rattle.pm_import.proofs.Taken.{line_more_ok, lines_empty, lines_filled_ok, none_left}
use Rattle.pm_import.proofs.imported.+take_lines.Goals as goal

pub returns-in-empty-clause-takes : goal.returns-in-empty-clause-takes
returns-in-empty-clause-takes g t c =
    let none = none_left c.from_filled.result.now c.in-empty.len_below in
    lines_empty (g.F.Folder.files c.args.folder.now) c.args.ends (map (λ line. line.now) c.args.lines.now)
    c.args.volume.now (map left_seen c.args.left.now.items)
    (subst (λ rest. map (λ line. line.now) rest ≡ from_filled (map (λ line. line.now) c.args.lines.now)) none
    c.from_filled.ensures.filled)

pub returns-in_ok-take_line-in-len1-up-clause-takes : goal.returns-in_ok-take_line-in-len1-up-clause-takes
returns-in_ok-take_line-in-len1-up-clause-takes g t c =
    lines_filled_ok c.take_lines.result (g.F.Folder.files c.args.folder.now) c.args.ends
    (map (λ line. line.now) c.args.lines.now) (map (λ line. line.now) c.from_filled.result.now) c.args.volume.now
    c.take_lines.new.volume (map left_seen c.args.left.now.items) (map left_seen c.take_lines.new.left.items)
    c.from_filled.ensures.filled
    (line_more_ok (g.F.Folder.files c.args.folder.now) (g.F.Folder.files c.take_line.new.folder) c.args.ends
    c.args.volume.now c.take_line.new.volume c.take_lines.new.volume (map left_seen c.args.left.now.items)
    (map left_seen c.take_line.new.left.items) (map left_seen c.take_lines.new.left.items) c.take_lines.result
    c.from_filled.result.now _ c.in-len1-up.len_at_least c.in_ok-take_line-in-len1-up.ensures.takes
    c.take_line.ensures.folder c.take_lines.ensures.takes)
