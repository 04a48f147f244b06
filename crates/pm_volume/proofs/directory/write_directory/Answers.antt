use Rattle.pm_volume.specs.Headers.{new_directory}
use Rattle.pm_volume.proofs.NameLaws.{cut-name_field}
use Rattle.pm_volume.proofs.directory.write_directory.Goals as goal

pub returns : goal.returns
unfolding new_directory
returns c =
    record {
      directory =
          rw (
            c.set_word-2.ensures.written,
            c.set_bytes.ensures.written,
            c.set_word.ensures.written,
            c.clear_all.ensures.cleared,
            c.requires.whole,
            c.name_field-field.ensures.field,
            cut-name_field c.args.name.now c.requires.short,
          )
          at c.set_word-3.ensures.written;
    }
