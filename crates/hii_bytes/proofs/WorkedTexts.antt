-- Texts that were worked out by hand.
use Rattle.std.proofs.Common.{◌≡◌, refl}
use Rattle.std.specs.Prelude.{codes}
use Rattle.hii_bytes.specs.Texts.{place_text}

a_place : place_text 0xa0 ≡ codes "000000a0"
a_place = refl

the_lowest_32_bits_of_a_place : place_text 0x1fffffffe ≡ codes "fffffffe"
the_lowest_32_bits_of_a_place = refl
