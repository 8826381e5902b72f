-- The senses of checked expressions are good.
use Rattle.std.proofs.Common.{◌≡◌, ℕ, zero, suc, ◌+◌, ◌*◌, ◌^◌, ◌<◌, ◌%◌, Bool, true, false, if◌then◌else◌, Some, List, [], ◌∷◌, ◌++◌, get_or, take, drop, refl, sym, ap, subst, ◌∙◌, arith}
use Rattle.std.specs.List.{AllByRecursion}
use Rattle.hii_bytes.specs.Numbers.{number_in}
use Rattle.hii_bytes.proofs.NumberLemmas.{number_in-lt}
use Rattle.ifr_opcodes.specs.declared.codes.TheConstants.{UINT8, UINT16, UINT32, UINT64}
use Rattle.ifr_opcodes.specs.Fields.{pairs, uint_width}
use Rattle.ifr_opcodes.specs.Forest.{Mark}
use Rattle.ifr_opcodes.specs.Opcode.{number}
use Rattle.ifr_opcodes.specs.Rows.{operands, is_among}
use Rattle.ifr_opcodes.specs.code.Tables.{without_operands}
use Rattle.ifr_opcodes.proofs.OperatorLemmas.{takes_none}
use Rattle.ifr_expr.specs.Trees.{Tree, leaf, one, two, post, IsFitting}
use Rattle.condition_text.specs.Senses.{leaf_sense, sense, alone, IsGood}
use Rattle.condition_text.proofs.WordLemmas.{of_each}
use Rattle.condition_text.proofs.LeafLemmas.{says_eq_id_val, says_eq_id_id, says_eq_id_val_list, says_question_ref, says_rule_ref, says_uint, says_constant}

-- ---- bytes

abbrev pub AreSmall : List ℕ → Type 0
AreSmall bytes = AllByRecursion (λ b. b < 256) bytes

small_at : (bytes : List ℕ) (i : ℕ) → AreSmall bytes → get_or bytes i 0 < 256
small_at [] i small = omega arith
small_at (b ∷ bytes) zero small = small.0
small_at (b ∷ bytes) (suc i) small = small_at bytes i small.1

pub small_from : (bytes : List ℕ) → ((i : ℕ) → get_or bytes i 0 < 256) → AreSmall bytes
small_from [] at = tt
small_from (b ∷ bytes) at = (at 0, small_from bytes (λ i. at (suc i)))

small_number : (bytes : List ℕ) (at width : ℕ) → AreSmall bytes → number_in bytes at width < 256 ^ width
small_number bytes at width small = number_in-lt bytes at width (λ i. small_at bytes i small)

small_drop : (n : ℕ) (bytes : List ℕ) → AreSmall bytes → AreSmall (drop n bytes)
small_drop zero bytes small = small
small_drop (suc n) [] small = tt
small_drop (suc n) (b ∷ bytes) small = small_drop n bytes small.1

small_take : (n : ℕ) (bytes : List ℕ) → AreSmall bytes → AreSmall (take n bytes)
small_take zero bytes small = tt
small_take (suc n) [] small = tt
small_take (suc n) (b ∷ bytes) small = (small.0, small_take n bytes small.1)

small_pairs : (bytes : List ℕ) → AreSmall bytes → AllByRecursion (λ value. value < 2 ^ 16) (pairs bytes)
small_pairs [] small = tt
small_pairs (b ∷ []) small = tt
small_pairs (low ∷ high ∷ bytes) small = (omega (arith, small.0, small.1.0), small_pairs bytes small.1.1)

-- ---- operators

uint_good : (op : List ℕ) (code width : ℕ) → is_among code (UINT8 ∷ UINT16 ∷ UINT32 ∷ UINT64 ∷ []) ≡ true → uint_width code ≡ width → is_among (8 * width) (8 ∷ 16 ∷ 32 ∷ 64 ∷ []) ≡ true → 256 ^ width < 2 ^ 64 + 1
    → AreSmall op → number op ≡ code → IsGood (leaf_sense op)
uint_good op code width among wide bits few small e =
    let w : uint_width (number op) ≡ width = ap uint_width e ∙ wide in
    let bound : number_in op 2 (uint_width (number op)) < 256 ^ width = subst (λ n. number_in op 2 (uint_width (number op)) < 256 ^ n) w (small_number op 2 (uint_width (number op)) small) in
    subst IsGood (sym (says_uint op (rw e among))) (subst (λ n. is_among (8 * n) (8 ∷ 16 ∷ 32 ∷ 64 ∷ []) ≡ true) (sym w) bits, omega arith)

constant_good : (op : List ℕ) (code : ℕ) → is_among code alone ≡ true → number op ≡ code → IsGood (leaf_sense op)
constant_good op code among e =
    let here : is_among (number op) alone ≡ true = rw e among in
    subst IsGood (sym (says_constant op here)) here

leaf_good : (op : List ℕ) → operands (number op) ≡ Some 0 → AreSmall op → IsGood (leaf_sense op)
leaf_good op takes small =
    of_each (λ code. number op ≡ code → IsGood (leaf_sense op)) without_operands (number op) (
      λ e. subst IsGood (sym (says_eq_id_val op e)) (small_number op 2 2 small, small_number op 4 2 small),
      (
        λ e. subst IsGood (sym (says_eq_id_id op e)) (small_number op 2 2 small, small_number op 4 2 small),
        (
          λ e. subst IsGood (sym (says_eq_id_val_list op e)) (small_number op 2 2 small, small_pairs _ (small_take _ _ (small_drop 6 op small))),
          (
            λ e. subst IsGood (sym (says_rule_ref op e)) (small_number op 2 1 small),
            (
              λ e. subst IsGood (sym (says_question_ref op e)) (small_number op 2 2 small),
              (
                uint_good op UINT8 1 refl refl refl (omega arith) small,
                (
                  uint_good op UINT16 2 refl refl refl (omega arith) small,
                  (
                    uint_good op UINT32 4 refl refl refl (omega arith) small,
                    (
                      uint_good op UINT64 8 refl refl refl (omega arith) small,
                      (
                        constant_good op 88 refl,
                        (
                          constant_good op 70 refl,
                          (
                            constant_good op 71 refl,
                            (
                              constant_good op 82 refl,
                              (
                                constant_good op 83 refl,
                                (
                                  constant_good op 84 refl,
                                  (constant_good op 85 refl, tt),
                                ),
                              ),
                            ),
                          ),
                        ),
                      ),
                    ),
                  ),
                ),
              ),
            ),
          ),
        ),
      ),
    )
    (takes_none (number op) takes) refl

abbrev pub HaveSmall : List Mark → Type 0
HaveSmall ops = AllByRecursion (λ op. AreSmall op.op) ops

front_small : (xs ys : List Mark) → HaveSmall (xs ++ ys) → HaveSmall xs
front_small [] ys all = tt
front_small (x ∷ xs) ys all = (all.0, front_small xs ys all.1)

back_small : (xs ys : List Mark) → HaveSmall (xs ++ ys) → HaveSmall ys
back_small [] ys all = all
back_small (x ∷ xs) ys all = back_small xs ys all.1

pub tree_good : (t : Tree) → IsFitting t → HaveSmall (post t) → IsGood (sense t)
tree_good (leaf op) fit all = leaf_good op.op fit all.0
tree_good (one op operand) fit all = (fit.0, tree_good operand fit.1 (front_small (post operand) (op ∷ []) all))
tree_good (two op left right) fit all =
    let behind = back_small (post left) (post right ++ op ∷ []) all in (
      fit.0,
      (tree_good left fit.1.0 (front_small (post left) (post right ++ op ∷ []) all), tree_good right fit.1.1 (front_small (post right) (op ∷ []) behind)),
    )

pub join_small : (xs : List Mark) (x : Mark) → HaveSmall xs → AreSmall x.op → HaveSmall (xs ++ x ∷ [])
join_small [] x all small = (small, tt)
join_small (y ∷ xs) x all small = (all.0, join_small xs x all.1 small)

-- the byte of an opcode's length
pub length_small : (scope : Bool) (n : ℕ) → n ≡ ((if scope then 128 else 0) + n) % 128 → (if scope then 128 else 0) + n < 256
length_small true n e = omega arith
length_small false n e = omega arith
