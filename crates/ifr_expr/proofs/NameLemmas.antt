-- What opcodes name: the questions by their ids are its support, and no opcodes name nothing.
use Rattle.std.proofs.Common.{◌≡◌, ℕ, eqb, List, [], ◌∷◌, ◌++◌, map, refl, ap, ◌∙◌, inl, inr}
use Rattle.std.specs.List.{flat_map}
use Rattle.std.proofs.lemmas.Bool.{cases_Bool, eqb-true}
use Rattle.std.proofs.lemmas.Grind.{flat_map-append}
use Rattle.ifr_opcodes.specs.declared.codes.TheConstants.{RULE_REF, THIS}
use Rattle.ifr_opcodes.specs.Forest.{Mark}
use Rattle.ifr_opcodes.specs.Opcode.{number}
use Rattle.ifr_opcodes.specs.Reading.{cut}
use Rattle.ifr_expr.specs.code.Checked.{marks}
use Rattle.ifr_expr.specs.Support.{ids_of, ids_named}
use Rattle.ifr_expr.specs.code.Names.{names_of, names_among}
use Rattle.ifr_expr.specs.code.Bytes.{to_end, AreOpcodes}
use Rattle.ifr_expr.specs.code.Supports.{id_of}
use Rattle.ifr_expr.specs.declared.names.Name.TheVariants.{Question}

ids_back : (ids : List ℕ) → flat_map id_of (map Question ids) ≡ ids
ids_back [] = refl
ids_back (id ∷ ids) = ap (λ (l : List ℕ). id ∷ l) (ids_back ids)

-- the ids of one opcode
of_one : (op : Mark) → flat_map id_of (names_of op) ≡ ids_of op.op
unfolding ids_of
of_one op = elim (cases_Bool (eqb (number op.op) RULE_REF)) [
  | inl e ↦ let is = eqb-true (number op.op) RULE_REF e in rw is refl
  | inr no_rule ↦ elim (cases_Bool (eqb (number op.op) THIS)) [
    | inl e ↦ let is = eqb-true (number op.op) THIS e in rw is refl
    | inr other ↦ rw (no_rule, other) (ids_back (ids_of op.op))
  ]
]

pub ids_among : (ops : List Mark) → flat_map id_of (names_among ops) ≡ ids_named ops
ids_among [] = refl
ids_among (op ∷ ops) =
    flat_map-append id_of (names_of op) (names_among ops) ∙ ap (λ (l : List ℕ). l ++ flat_map id_of (names_among ops)) (of_one op)
    ∙ ap (λ (l : List ℕ). ids_of op.op ++ l) (ids_among ops)

pub no_opcodes : AreOpcodes []
unfolding cut
no_opcodes = record { whole = tt; joined = refl }

pub no_marks : (at : ℕ) → marks at [] ≡ []
unfolding cut to_end
no_marks at = refl
