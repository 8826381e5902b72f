-- What stands before an operand is counted and found operator by operator.
use Rattle.std.proofs.Common.{◌≡◌, ℕ, ◌+◌, ◌-◌, ◌≤◌, Some, List, [], ◌∷◌, length, refl, sym, ap, ◌∙◌, arith}
use Rattle.ifr_opcodes.specs.Opcode.{number}
use Rattle.ifr_opcodes.specs.Forest.{Mark}
use Rattle.ifr_opcodes.specs.code.Codes.{unary_code}
use Rattle.ifr_opcodes.specs.declared.operators.Unary.{Unary}
use Rattle.ifr_expr.specs.Trees.{takes}
use Rattle.condition_text.specs.code.Streams.{word_before, openings}
use Rattle.condition_text.proofs.OpeningLemmas.{leaf_passed, leaf_word, unary_passed, unary_word, unary_opens, binary_passed, binary_opens, binary_word, one_less, ended, none_left}

-- What was counted and what is left are all there is of some operators, the word is the same, and no more are counted than were passed.
pub record Counts (all now : List Mark) (opened beside : ℕ) : Type 0 where
  pub total : opened + length (openings beside now) ≡ length (openings 0 all)
  pub word : word_before beside now ≡ word_before 0 all
  pub besides : beside + length now ≤ length all
  pub openeds : opened + length now ≤ length all

abbrev fewer : (op : Mark) (now next : List Mark) → now ≡ op ∷ next → length now ≡ length next + 1
fewer op now next e = omega (arith, ap (λ (l : List Mark). length l) e)

size : (beside other : ℕ) (now next : List Mark) → openings beside next ≡ openings other now → length (openings beside next) ≡ length (openings other now)
size beside other now next e = ap (λ (l : List (List ℕ)). length l) e

pub begun : (all : List Mark) → Counts all all 0 0
begun all =
    record { total = omega arith; word = refl; besides = omega arith; openeds = omega arith }

pub counts_leaf : (op : Mark) (all now next : List Mark) (opened beside : ℕ) → takes op ≡ Some 0 → now ≡ op ∷ next → Counts all now opened beside → Counts all next opened (beside + 1)
counts_leaf op all now next opened beside t e c =
    record {
      total = omega (arith, c.total, size (beside + 1) beside now next (leaf_passed op now next beside t e));
      word = leaf_word op now next beside t e ∙ c.word;
      besides = omega (arith, c.besides, fewer op now next e);
      openeds = omega (arith, c.openeds, fewer op now next e);
    }

pub counts_unary : (op : Mark) (all now next : List Mark) (opened beside : ℕ) → (beside ≡ 0 → ⊥) → takes op ≡ Some 1 → now ≡ op ∷ next → Counts all now opened beside → Counts all next opened beside
counts_unary op all now next opened beside n t e c =
    record {
      total = omega (arith, c.total, size beside beside now next (unary_passed op now next beside n t e));
      word = unary_word op now next beside t e ∙ c.word;
      besides = omega (arith, c.besides, fewer op now next e);
      openeds = omega (arith, c.openeds, fewer op now next e);
    }

pub counts_unary_opened : (op : Mark) (all now next : List Mark) (opened beside : ℕ) (operator : Unary) → beside ≡ 0 → takes op ≡ Some 1 → unary_code operator ≡ number op.op → now ≡ op ∷ next
    → Counts all now opened beside → Counts all next (opened + 1) beside
counts_unary_opened op all now next opened beside operator n t u e c =
    record {
      total =
          omega (arith, c.total, ap (λ (l : List (List ℕ)). length l) (unary_opens op now next beside operator n t u e));
      word = unary_word op now next beside t e ∙ c.word;
      besides = omega (arith, c.besides, fewer op now next e);
      openeds = omega (arith, c.openeds, fewer op now next e);
    }

-- a value stands beside, since none is no operand's word
beside_some : (beside : ℕ) → (beside ≡ 0 → ⊥) → 1 ≤ beside
beside_some beside n = omega (arith, n)

pub counts_binary : (op : Mark) (all now next : List Mark) (opened beside : ℕ) → (beside ≡ 0 → ⊥) → (beside - 1 ≡ 0 → ⊥) → takes op ≡ Some 2 → now ≡ op ∷ next
    → Counts all now opened beside → Counts all next opened (beside - 1)
counts_binary op all now next opened beside some n t e c =
    let same = one_less beside (beside_some beside some) in
    record {
      total =
          omega (arith, c.total, size (beside - 1) beside now next (binary_passed op now next (beside - 1) n t e ∙ ap (λ (m : ℕ). openings m now) (sym same)));
      word = binary_word op now next (beside - 1) t e ∙ ap (λ (m : ℕ). word_before m now) (sym same) ∙ c.word;
      besides = omega (arith, c.besides, fewer op now next e);
      openeds = omega (arith, c.openeds, fewer op now next e);
    }

pub counts_binary_opened : (op : Mark) (all now next : List Mark) (opened beside : ℕ) → (beside ≡ 0 → ⊥) → beside - 1 ≡ 0 → takes op ≡ Some 2 → now ≡ op ∷ next
    → Counts all now opened beside → Counts all next (opened + 1) (beside - 1)
counts_binary_opened op all now next opened beside some n t e c =
    let same = one_less beside (beside_some beside some) in
    record {
      total =
          omega (arith, c.total, ap (λ (l : List (List ℕ)). length l) (ap (λ (m : ℕ). openings m now) same ∙ binary_opens op now next (beside - 1) n t e));
      word = binary_word op now next (beside - 1) t e ∙ ap (λ (m : ℕ). word_before m now) (sym same) ∙ c.word;
      besides = omega (arith, c.besides, fewer op now next e);
      openeds = omega (arith, c.openeds, fewer op now next e);
    }

pub all_counted : (op : Mark) (all now next : List Mark) (opened beside : ℕ) → beside ≡ 0 → takes op ≡ Some 2 → now ≡ op ∷ next → Counts all now opened beside → opened ≡ length (openings 0 all)
all_counted op all now next opened beside n t e c =
    omega (arith, c.total, ap (λ (l : List (List ℕ)). length l) (ended op now next beside n t e))

pub none_counted : (all now : List Mark) (opened beside : ℕ) → now ≡ [] → Counts all now opened beside → opened ≡ length (openings 0 all)
none_counted all now opened beside e c =
    omega (arith, c.total, ap (λ (l : List (List ℕ)). length l) (none_left now beside e))
