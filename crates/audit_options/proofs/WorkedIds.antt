-- Ids that were worked out by hand.
use Rattle.std.proofs.Common.{◌≡◌, Some, None, refl}
use Rattle.std.specs.Prelude.{codes}
use Rattle.audit_options.specs.Ids.{id_in}

in_decimal_digits : id_in (codes "33") ≡ Some 33
in_decimal_digits = refl

behind_a_plus : id_in (codes "+0016") ≡ Some 16
behind_a_plus = refl

in_hex_digits_of_either_case : id_in (codes "0xaF3") ≡ Some 0xaf3
in_hex_digits_of_either_case = refl

the_last : id_in (codes "0xffff") ≡ Some 65535
the_last = refl

above_the_last : id_in (codes "0x10000") ≡ None
above_the_last = refl

above_the_last_in_decimal_digits : id_in (codes "65536") ≡ None
above_the_last_in_decimal_digits = refl

no_digits : id_in (codes "0x") ≡ None
no_digits = refl

no_sign_in_hex_digits : id_in (codes "0x+1") ≡ None
no_sign_in_hex_digits = refl

no_other_sign_of_hex_digits : id_in (codes "0X10") ≡ None
no_other_sign_of_hex_digits = refl

hex_digits_alone : id_in (codes "1f") ≡ None
hex_digits_alone = refl
