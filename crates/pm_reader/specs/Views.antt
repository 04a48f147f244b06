-- Maps from the values of the code to the values of the definitions.
use Rattle.std.specs.Prelude.{ℕ, List, map}
use Rattle.pm_reader.specs.declared.source.Entry.{Entry}
use Rattle.pm_reader.specs.declared.source.LabelledProcedure.{LabelledProcedure}
use Rattle.pm_reader.specs.declared.source.LabelledSegment.{LabelledSegment}
use Rattle.pm_line.specs.Views.{row_seen}
use Rattle.pm_source.specs.Source.{Name, Source, SourceSegment}

abbrev pub entry_seen : Entry → ℕ × Name
entry_seen entry = (entry.line, entry.label.now)

abbrev pub labelled_procedure : LabelledProcedure → Source
labelled_procedure p = record {
  level = p.level;
  parameters = p.parameters;
  locals = p.locals;
  code = map row_seen p.code.items;
  entries = map entry_seen p.entries.items;
}

abbrev pub labelled_segment : LabelledSegment → SourceSegment
labelled_segment s =
    record { number = s.number; name = s.name.now; procedures = map labelled_procedure s.procedures.items }

-- The segments of the code, as segments of the definitions.
abbrev pub labelled_segments : List LabelledSegment → List SourceSegment
labelled_segments segments = map labelled_segment segments
