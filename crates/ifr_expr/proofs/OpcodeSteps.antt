-- The opcodes of an expression, taken one after the other.
use Rattle.std.proofs.Common.{◌≡◌, ◌≢◌, ℕ, ◌+◌, List, [], ◌∷◌, ◌++◌, length, refl, sym, ap, ◌∙◌, arith, length-append}
use Rattle.std.specs.List.{concat, AllByRecursion}
use Rattle.std.proofs.lemmas.Bool.{ne_eqb, eq-eqb}
use Rattle.ifr_opcodes.specs.declared.codes.TheConstants.{END}
use Rattle.ifr_opcodes.specs.Opcode.{number, IsWhole}
use Rattle.ifr_opcodes.specs.Reading.{opcodes_in}
use Rattle.ifr_opcodes.proofs.OpcodeLemmas.{split_unique}
use Rattle.ifr_opcodes.proofs.ForestLemmas.{opcodes_in_spelled}
use Rattle.ifr_expr.specs.code.Bytes.{AreOpcodes, to_end}

cut_list : (ops : List (List ℕ)) (bytes op others : List ℕ) → AllByRecursion IsWhole ops → concat ops ≡ bytes → IsWhole op → bytes ≡ op ++ others → (ops ≡ op ∷ opcodes_in others) × AreOpcodes others
cut_list [] bytes op others all joined whole e = absurd (omega (arith, ap (λ (l : List ℕ). length l) (joined ∙ e), length-append op others, whole.long))
cut_list (o ∷ ops) bytes op others all joined whole e =
    let parts = split_unique o op (concat ops) others all.0 whole (joined ∙ e) in
    let rest : opcodes_in others ≡ ops = opcodes_in_spelled others ops all.1 (sym parts.1) in (
      ap (λ (x : List ℕ). x ∷ ops) parts.0 ∙ ap (λ (xs : List (List ℕ)). op ∷ xs) (sym rest),
      record { whole = rw rest all.1; joined = ap concat rest ∙ parts.1 },
    )

-- the first opcode of bytes is the one with which they begin
pub cut_off : (bytes op others : List ℕ) → AreOpcodes bytes → IsWhole op → bytes ≡ op ++ others → (opcodes_in bytes ≡ op ∷ opcodes_in others) × AreOpcodes others
cut_off bytes op others a whole e = cut_list (opcodes_in bytes) bytes op others a.whole a.joined whole e

no_list : (ops : List (List ℕ)) (bytes : List ℕ) → AllByRecursion IsWhole ops → concat ops ≡ bytes → ((op more : List ℕ) → IsWhole op → bytes ≡ op ++ more → ⊥) → ops ≡ []
no_list [] bytes all joined missing = refl
no_list (o ∷ ops) bytes all joined missing = absurd (missing o (concat ops) all.0 (sym joined))

-- where no opcode stands first there is none
pub none_left : (at : ℕ) (bytes : List ℕ) → AreOpcodes bytes → ((op more : List ℕ) → IsWhole op → bytes ≡ op ++ more → ⊥) → to_end at (opcodes_in bytes) ≡ []
unfolding to_end
none_left at bytes a missing = rw (no_list (opcodes_in bytes) bytes a.whole a.joined missing) refl

-- an END is the last
pub ends_there : (at : ℕ) (bytes op others : List ℕ) → AreOpcodes bytes → IsWhole op → bytes ≡ op ++ others → number op ≡ END → to_end at (opcodes_in bytes) ≡ []
unfolding to_end
ends_there at bytes op others a whole e is = rw ((cut_off bytes op others a whole e).0, eq-eqb (number op) END is) refl

-- another opcode is met, and then those behind it
pub goes_on : (at : ℕ) (bytes op others : List ℕ) → AreOpcodes bytes → IsWhole op → bytes ≡ op ++ others → number op ≢ END
    → to_end at (opcodes_in bytes) ≡ record { place = at; op = op } ∷ to_end (at + length op) (opcodes_in others)
unfolding to_end
goes_on at bytes op others a whole e other = rw ((cut_off bytes op others a whole e).0, ne_eqb (number op) END other) refl
