use Rattle.std.proofs.Common.{◌≡◌, ◌*◌, ◌%◌, ◌^◌, arith, refl}
use Rattle.std.proofs.lemmas.Nat.{one_shl}
use Rattle.pm_values.specs.Fields.{field_of, with_field}
use Rattle.pm_values.proofs.FieldLaws.{with_field-below}
use Rattle.pm_values.proofs.fields.replaced.Goals as goal

pub returns : goal.returns
unfolding with_field field_of
returns c =
    let place : (1 * 2 ^ c.args.lowest) % 2 ^ 32 ≡ 2 ^ c.args.lowest = one_shl c.args.lowest 32 (omega arith) in
    let size : (1 * 2 ^ c.args.width) % 2 ^ 32 ≡ 2 ^ c.args.width = one_shl c.args.width 32 (omega arith) in
    record { word = rw (place, size, c.from-word.ensures, c.from-value.ensures) refl }

pub overflow_cast-result : goal.overflow_cast-result
unfolding with_field field_of
overflow_cast-result c =
    let place : (1 * 2 ^ c.args.lowest) % 2 ^ 32 ≡ 2 ^ c.args.lowest = one_shl c.args.lowest 32 (omega arith) in
    let size : (1 * 2 ^ c.args.width) % 2 ^ 32 ≡ 2 ^ c.args.width = one_shl c.args.width 32 (omega arith) in
    rw (place, size, c.from-word.ensures, c.from-value.ensures) (let below = with_field-below c.args.word c.args.lowest c.args.width c.args.value
    c.requires.field c.ranges.word.fits in omega arith)
