use Rattle.std.proofs.Common.{◌≡◌, ◌+◌, ◌*◌, ◌^◌, ◌<◌, ◌∙◌, length, ap, sym, subst, is_ok, slice_index}
use Rattle.std.specs.Str.Parse.{digits_value}
use Rattle.std.proofs.lemmas.Int.Digits.{digits_value-lt}
use Rattle.config_text.proofs.ReadLemmas.{hex-to}
use Rattle.config_text.proofs.HexLemmas.{padded_same, decoded}
use Rattle.config_text.proofs.digits.number_of_four.Goals as goal

pub unwrap-requires : goal.unwrap-requires
unwrap-requires c =
    let digits = c.args.digits.now in
    let four = padded_same digits c.copy_from_slice.new.self c.copy_from_slice.ensures.after c.requires.few (hex-to digits c.requires.hex) in
    ap is_ok (decoded _ _ c.decode_to_slice.result four.four c.decode_to_slice.ensures.value).0

value : (c : goal.After-from_be_bytes) → c.from_be_bytes.result ≡ digits_value 16 c.args.digits.now
value c =
    let digits = c.args.digits.now in
    let four = padded_same digits c.copy_from_slice.new.self c.copy_from_slice.ensures.after c.requires.few (hex-to digits c.requires.hex) in
    let bytes = (decoded _ c.decode_to_slice.new.out c.decode_to_slice.result four.four c.decode_to_slice.ensures.value).1 in
    c.from_be_bytes.ensures ∙ ap (λ l. slice_index l 0 * 256 + slice_index l 1) bytes ∙ four.four.number ∙ four.same

pub returns-clause-number : goal.returns-clause-number
returns-clause-number c = value c

pub returns-clause-small : goal.returns-clause-small
returns-clause-small c =
    subst (λ n. n < 16 ^ length c.args.digits.now) (sym (value c)) (digits_value-lt 16 c.args.digits.now (hex-to c.args.digits.now c.requires.hex))
