-- What stands behind the fields of an opcode, by its number.
use Rattle.std.proofs.Common.{◌≡◌, ◌≢◌, ℕ, List, [], refl}
use Rattle.std.proofs.lemmas.Bool.{ne_eqb}
use Rattle.browser_rules.specs.Opcodes.{number, number_width}
use Rattle.hii_bytes.specs.Numbers.{number_in}
use Rattle.opcode_audit.specs.Facts.{name_of_store, numbers, tail_of, typed, values_listed}

pub of_numeric : (op : List ℕ) → number op ≡ 7 → tail_of op ≡ numbers (number_width (number_in op 13 1))
of_numeric op e = rw e refl

pub of_one_of : (op : List ℕ) → number op ≡ 5 → tail_of op ≡ numbers (number_width (number_in op 13 1))
of_one_of op e = rw e refl

pub of_option : (op : List ℕ) → number op ≡ 9 → tail_of op ≡ typed (number_in op 5 1)
of_option op e = rw e refl

pub of_default : (op : List ℕ) → number op ≡ 91 → tail_of op ≡ typed (number_in op 4 1)
of_default op e = rw e refl

pub of_list : (op : List ℕ) → number op ≡ 20 → tail_of op ≡ values_listed (number_in op 4 2)
of_list op e = rw e refl

pub of_store : (op : List ℕ) → number op ≡ 36 → tail_of op ≡ name_of_store
of_store op e = rw e refl

pub of_variable : (op : List ℕ) → number op ≡ 38 → tail_of op ≡ name_of_store
of_variable op e = rw e refl

pub of_others : (op : List ℕ) → number op ≢ 7 → number op ≢ 5 → number op ≢ 9 → number op ≢ 91 → number op ≢ 20 → number op ≢ 36 → number op ≢ 38 → tail_of op ≡ []
of_others op a b c d e f g =
    let n = number op in
    rw (ne_eqb n 7 a, ne_eqb n 5 b, ne_eqb n 9 c, ne_eqb n 91 d, ne_eqb n 20 e, ne_eqb n 36 f, ne_eqb n 38 g) refl
