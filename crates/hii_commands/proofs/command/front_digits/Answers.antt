use Rattle.std.proofs.Common.{◌≡◌, ◌+◌, true, false, length, get_or, take, take_all, sym, ap, ◌∙◌, subst, arith}
use Rattle.std.specs.Char.{is_ascii_digit}
use Rattle.std.specs.Str.Parse.{AllDigits, digits_value}
use Rattle.hii_bytes.proofs.DigitLemmas.{digit_read}
use Rattle.hii_commands.proofs.FrontLemmas.{digit_is, digits_found, digits_many, few_digits}
use Rattle.hii_commands.proofs.command.front_digits.Goals as goal

pub returns-then-not-is_ascii_digit : goal.returns-then-not-is_ascii_digit
returns-then-not-is_ascii_digit c =
    let other : is_ascii_digit (get_or c.args.text.now c.loop-count.count 0) ≡ false = cc in
    let so_far = c.loop-count.invariant in
    digits_found c.args.text.now c.loop-count.count c.loop-count.number (omega arith) so_far.few so_far.all so_far.number (λ inside. other)

pub returns-then-count-eq5 : goal.returns-then-count-eq5
returns-then-count-eq5 c =
    let text = c.args.text.now in
    let count = c.loop-count.count in
    let digit : is_ascii_digit (get_or text count 0) ≡ true = cc in
    let so_far = c.loop-count.invariant in
    let read = digit_read 10 text count c.loop-count.number c.loop-count-test.true (so_far.all, so_far.number) (digit_is (get_or text count 0) digit).0 in
    digits_many text (count + 1) (omega arith) (omega arith) read.0

pub loop-count-preserved : goal.loop-count-preserved
loop-count-preserved c =
    let text = c.args.text.now in
    let count = c.loop-count.count in
    let digit : is_ascii_digit (get_or text count 0) ≡ true = cc in
    let is = digit_is (get_or text count 0) digit in
    let so_far = c.loop-count.invariant in
    let read = digit_read 10 text count c.loop-count.number c.loop-count-test.true (so_far.all, so_far.number) is.0 in
    record {
      all = read.0;
      number = omega (arith, read.1, is.1);
      few = omega arith;
      small = λ few. omega (arith, read.1, is.1, few_digits text (count + 1) (omega arith) few read.0);
    }

pub returns : goal.returns
returns c =
    let text = c.args.text.now in
    let count = c.loop-count.count in
    let so_far = c.loop-count.invariant in
    let same : take count text ≡ take (length text) text = take_all count text c.loop-count-test.false ∙ sym (take_all (length text) text (omega arith)) in
    digits_found text (length text) c.loop-count.number (omega arith) (omega arith) (subst (AllDigits 10) same so_far.all) (so_far.number ∙ ap (digits_value 10) same) (λ inside. absurd (omega (arith, inside)))
