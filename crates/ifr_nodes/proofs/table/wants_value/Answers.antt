use Rattle.std.proofs.Common.{◌≡◌, ℕ, suc, ◌≤◌, Bool, eqb, leb, Option, Some, None, length, refl, sym, ap, subst, ◌∙◌, arith, inl, inr}
use Rattle.std.specs.Prelude.{◌&&◌, nat_eq, SomeIff}
use Rattle.std.specs.Option.{option_eq}
use Rattle.std.proofs.lemmas.Bool.{cases_Bool, eq-eqb, le-leb, leb-true}
use Rattle.ifr_opcodes.specs.declared.codes.TheConstants.{DEFAULT}
use Rattle.ifr_opcodes.specs.Fields.{default_kind}
use Rattle.ifr_opcodes.specs.code.Ops.{bytes_of}
use Rattle.ifr_opcodes.proofs.FieldLemmas.{number_behind}
use Rattle.ifr_nodes.proofs.table.wants_value.Goals as goal

-- a byte of the body is the wanted one where the opcode has it
is_it : (found : Option ℕ) (count kind wanted : ℕ) → SomeIff found (3 ≤ count) kind → option_eq nat_eq found (Some wanted) ≡ (leb 5 (suc (suc count))) && eqb kind wanted
is_it None count kind wanted none = elim (cases_Bool (leb 5 (suc (suc count)))) [
  | inl long ↦ absurd (none (omega (arith, leb-true 5 (suc (suc count)) long)))
  | inr short ↦ rw short refl
]
is_it (Some x) count kind wanted (there, same) = rw (le-leb 5 (suc (suc count)) (omega (arith, there)), same) refl

pub returns-then-op-eq-DEFAULT : goal.returns-then-op-eq-DEFAULT
returns-then-op-eq-DEFAULT c =
    c.eq.ensures ∙ ap (λ (k : ℕ). option_eq nat_eq c.number_at.result (Some k)) c.from.ensures
    ∙ is_it c.number_at.result (length c.args.op.body.now) (default_kind (bytes_of c.args.op)) 8 (subst (λ (k : ℕ). SomeIff c.number_at.result (3 ≤ length c.args.op.body.now) k) (number_behind c.args.op.code _ c.args.op.body.now 4 1 (omega arith)) c.number_at.ensures)
    ∙ sym (ap (λ (b : Bool). b && (leb 5 (length (bytes_of c.args.op)) && eqb (default_kind (bytes_of c.args.op)) 8)) (eq-eqb c.args.op.code DEFAULT c.if-op-eq-DEFAULT.true))
