use Rattle.std.proofs.Common.{◌≡◌, ◌*◌, ◌%◌, ◌^◌, arith, refl}
use Rattle.std.proofs.lemmas.Nat.{one_shl}
use Rattle.pm_values.specs.Fields.{field_of}
use Rattle.pm_values.proofs.FieldLaws.{field_of-below}
use Rattle.pm_values.proofs.fields.extracted.Goals as goal

pub returns : goal.returns
unfolding field_of
returns c =
    let place : (1 * 2 ^ c.args.lowest) % 2 ^ 32 ≡ 2 ^ c.args.lowest = one_shl c.args.lowest 32 (omega arith) in
    let size : (1 * 2 ^ c.args.width) % 2 ^ 32 ≡ 2 ^ c.args.width = one_shl c.args.width 32 (omega arith) in
    record { field = rw (place, size, c.from.ensures) refl }

pub overflow_cast-result : goal.overflow_cast-result
unfolding field_of
overflow_cast-result c =
    let place : (1 * 2 ^ c.args.lowest) % 2 ^ 32 ≡ 2 ^ c.args.lowest = one_shl c.args.lowest 32 (omega arith) in
    let size : (1 * 2 ^ c.args.width) % 2 ^ 32 ≡ 2 ^ c.args.width = one_shl c.args.width 32 (omega arith) in
    rw (place, size, c.from.ensures) (let below = field_of-below c.args.word c.args.lowest c.args.width c.ranges.word.fits in omega arith)
