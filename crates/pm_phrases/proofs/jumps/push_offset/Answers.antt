use Rattle.std.proofs.Common.{rules, ◌≡◌, ◌+◌, ◌∷◌, ◌++◌, ◌/◌, ◌%◌, [], ℕ, arith, string_bytes}
use Rattle.pm_phrases.proofs.Offsets.{offset_added}
use Rattle.pm_phrases.proofs.jumps.push_offset.Goals as goal

pub returns : goal.returns
returns c =
    let n : ℕ = c.args.offset in
    let one : string_bytes c.push.new.self ≡ string_bytes c.args.out.now ++ ((48 + n / 10 / 10 / 10 / 10) ∷ []) = search rules in
    let two : string_bytes c.push-2.new.self ≡ string_bytes c.push.new.self ++ ((48 + n / 10 / 10 / 10 % 10) ∷ []) = search rules in
    let three : string_bytes c.push-3.new.self ≡ string_bytes c.push-2.new.self ++ ((48 + n / 10 / 10 % 10) ∷ []) = search rules in
    let four : string_bytes c.push-4.new.self ≡ string_bytes c.push-3.new.self ++ ((48 + n / 10 % 10) ∷ []) = search rules in
    let five : string_bytes c.push-5.new.self ≡ string_bytes c.push-4.new.self ++ ((48 + n % 10) ∷ []) = search rules in
    record { text = offset_added n _ _ _ _ _ _ (omega (arith, c.if-offset-gt99999.false)) one two three four five }
