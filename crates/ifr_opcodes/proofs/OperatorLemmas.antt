-- How many operands operators take.
use Rattle.std.proofs.Common.{◌≡◌, ◌⊎◌, ℕ, Bool, true, false, cond, Option, Some, None, is_some, refl, sym, ap, ◌∙◌, inl, inr}
use Rattle.std.proofs.lemmas.Bool.{false≢true}
use Rattle.browser_rules.specs.Words.{is_among}
use Rattle.ifr_opcodes.specs.Rows.{operands, is_operator}
use Rattle.ifr_opcodes.specs.code.Tables.{without_operands, with_one_operand, with_two_operands}
use Rattle.ifr_opcodes.proofs.RowLemmas.{takes}

-- an operator takes none, one or two
pub takes_few : (code : ℕ) → is_operator code ≡ true → (operands code ≡ Some 0) ⊎ ((operands code ≡ Some 1) ⊎ (operands code ≡ Some 2))
takes_few code h = rw (takes code) (go (is_among code without_operands) (is_among code with_one_operand) (is_among code with_two_operands) (ap (λ (o : Option ℕ). is_some o) (sym (takes code)) ∙ h))
  where
    go : (a b c : Bool) → is_some (cond {A = Option ℕ} a (Some 0) (cond b (Some 1) (cond c (Some 2) None))) ≡ true
        → (cond {A = Option ℕ} a (Some 0) (cond b (Some 1) (cond c (Some 2) None)) ≡ Some 0) ⊎ ((cond {A = Option ℕ} a (Some 0) (cond b (Some 1) (cond c (Some 2) None)) ≡ Some 1) ⊎ (cond {A = Option ℕ} a (Some 0) (cond b (Some 1) (cond c (Some 2) None)) ≡ Some 2))
    go true b c h = inl refl
    go false true c h = inr (inl refl)
    go false false true h = inr (inr refl)
    go false false false h = absurd (false≢true h)

-- and is in the table of those that take as many
pub takes_none : (code : ℕ) → operands code ≡ Some 0 → is_among code without_operands ≡ true
takes_none code e = go (is_among code without_operands) (is_among code with_one_operand) (is_among code with_two_operands) (sym (takes code) ∙ e)
  where
    go : (a b c : Bool) → cond {A = Option ℕ} a (Some 0) (cond b (Some 1) (cond c (Some 2) None)) ≡ Some 0 → a ≡ true
    go true b c e = refl
    go false true c e = absurd cc
    go false false true e = absurd cc
    go false false false e = absurd cc

pub takes_one : (code : ℕ) → operands code ≡ Some 1 → is_among code with_one_operand ≡ true
takes_one code e = go (is_among code without_operands) (is_among code with_one_operand) (is_among code with_two_operands) (sym (takes code) ∙ e)
  where
    go : (a b c : Bool) → cond {A = Option ℕ} a (Some 0) (cond b (Some 1) (cond c (Some 2) None)) ≡ Some 1 → b ≡ true
    go true b c e = absurd cc
    go false true c e = refl
    go false false true e = absurd cc
    go false false false e = absurd cc

pub takes_two : (code : ℕ) → operands code ≡ Some 2 → is_among code with_two_operands ≡ true
takes_two code e = go (is_among code without_operands) (is_among code with_one_operand) (is_among code with_two_operands) (sym (takes code) ∙ e)
  where
    go : (a b c : Bool) → cond {A = Option ℕ} a (Some 0) (cond b (Some 1) (cond c (Some 2) None)) ≡ Some 2 → c ≡ true
    go true b c e = absurd cc
    go false true c e = absurd cc
    go false false true e = refl
    go false false false e = absurd cc

-- an operator that takes neither none nor one takes two
pub takes_other : (code : ℕ) → is_operator code ≡ true → is_among code without_operands ≡ false → is_among code with_one_operand ≡ false → is_among code with_two_operands ≡ true
takes_other code is none one = go (is_among code with_two_operands) (sym (rw (takes code, none, one) refl) ∙ is)
  where
    go : (c : Bool) → is_some (cond {A = Option ℕ} c (Some 2) None) ≡ true → c ≡ true
    go true e = refl
    go false e = absurd (false≢true e)
