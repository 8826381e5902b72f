use Rattle.std.proofs.Common.{◌≡◌, ◌-◌, ◌^◌, ◌≤◌, ◌∙◌, length, ap, take, drop, arith, rules}
use Rattle.std.specs.Str.Parse.{digits_value}
use Rattle.std.proofs.Math.Nat.{pow-le-pow_right}
use Rattle.config_text.proofs.ValueLemmas.{value_split}
use Rattle.config_text.proofs.digits.split_byte.Goals as goal

pub overflow_cast-result : goal.overflow_cast-result
overflow_cast-result c =
    let few : length c.split_at.result.1.now ≤ 2 = search rules in
    let small : 16 ^ length c.split_at.result.1.now ≤ 16 ^ 2 = pow-le-pow_right (omega arith) few in
    record { fits = omega (arith, small, c.number_of_four.ensures.small) }

pub returns-clause-value : goal.returns-clause-value
returns-clause-value c =
    let digits = c.args.digits.now in
    let count = c.saturating_sub.ensures in
    let front : digits_value 16 c.split_at.result.0.now ≡ digits_value 16 (take (length digits - 2) digits) =
    ap (digits_value 16) (c.split_at.ensures.front ∙ ap (λ k. take k digits) count) in
    let back : digits_value 16 c.split_at.result.1.now ≡ digits_value 16 (drop (length digits - 2) digits) =
    ap (digits_value 16) (c.split_at.ensures.back ∙ ap (λ k. drop k digits) count) in
    omega (arith, value_split digits, front, back, c.number_of_four.ensures.number)
