-- What is wrong with the opcodes of an expression together is told of one opcode.
use Rattle.std.specs.Prelude.{◌==◌, if◌then◌else◌}
use Rattle.std.proofs.Common.{◌≡◌, ℕ, ◌+◌, ◌-◌, ◌≤◌, ◌<◌, Bool, cond, Option, Some, None, Result, Ok, Err, List, [], ◌∷◌, ◌++◌, length, refl, sym, ap, subst, ◌∙◌, append_assoc, arith, length-append, inl, inr}
use Rattle.std.proofs.lemmas.List.{append-nil}
use Rattle.std.proofs.lemmas.Bool.{cases_lt, ne_eqb}
use Rattle.hii_bytes.specs.Faults.{IsLeast, HasNone}
use Rattle.hii_bytes.specs.declared.cause.Cause.{Cause}
use Rattle.hii_bytes.specs.declared.cause.Cause.TheVariants.{ExprShape, ExprDepth}
use Rattle.hii_bytes.specs.declared.cause.Fault.{Fault}
use Rattle.hii_bytes.specs.Cause.{number_of}
use Rattle.ifr_opcodes.specs.Opcode.{number}
use Rattle.ifr_opcodes.specs.Forest.{Mark}
use Rattle.ifr_opcodes.proofs.OperatorLemmas.{takes_few}
use Rattle.ifr_expr.specs.code.Checked.{IsSized, AreSized}
use Rattle.ifr_expr.specs.Trees.{Tree, leaf, one, two, takes, need, Means}
use Rattle.ifr_expr.specs.Counting.{or_zero, wanted, Spell}
use Rattle.ifr_expr.specs.code.Counting.{after, counted_all}
use Rattle.ifr_expr.specs.Faults.{StandsBehind, IsShapeFault}
use Rattle.ifr_expr.proofs.CountLemmas.{ok, count_step, count_none, count_stays, count-append, after_few, after_many, after_some, spelled_count, meant, few_trees, with_leaf, with_one, with_two, last_off}

-- what is told of a count: its fault, or that it is not one value
abbrev pub told_by : ℕ → Result ℕ Fault → Option Fault
told_by at (Ok count) = if count == 1 then None else Some (record { cause = ExprShape; place = at })
told_by at (Err fault) = Some fault

counted_to : (marks : List Mark) (trees : List Tree) (op : Mark) (s : StandsBehind marks trees op) → counted_all (Ok 0) marks ≡ counted_all (after (length trees) op) s.behind
counted_to marks trees op s =
    ap (counted_all (Ok 0)) s.split
    ∙ count-append (Ok 0) s.before (op ∷ s.behind)
    ∙ ap (λ (c : Result ℕ Fault). counted_all c (op ∷ s.behind)) (spelled_count s.before trees s.spell)
    ∙ count_step (Ok (length trees)) op s.behind

stops : (at : ℕ) (marks : List Mark) (trees : List Tree) (op : Mark) (s : StandsBehind marks trees op) (fault : Fault) → after (length trees) op ≡ Err fault → told_by at (counted_all (Ok 0) marks) ≡ Some fault
stops at marks trees op s fault e =
    ap (told_by at) (counted_to marks trees op s ∙ ap (λ (c : Result ℕ Fault). counted_all c s.behind) e ∙ count_stays fault s.behind)

few_told : (at : ℕ) (marks : List Mark) (place : ℕ) (trees : List Tree) (op : Mark) → StandsBehind marks trees op → length trees < wanted op → place ≡ op.place
    → told_by at (counted_all (Ok 0) marks) ≡ Some (record { cause = ExprShape; place = place })
few_told at marks place trees op s few e =
    stops at marks trees op s (record { cause = ExprShape; place = op.place }) (after_few (length trees) op few) ∙ ap (λ (p : ℕ). Some (record { cause = ExprShape; place = p })) (sym e)

several_told : (at : ℕ) (marks : List Mark) (place : ℕ) (trees : List Tree) → Spell marks trees → 1 < length trees → place ≡ at
    → told_by at (counted_all (Ok 0) marks) ≡ Some (record { cause = ExprShape; place = place })
several_told at marks place trees s several e =
    ap (told_by at) (spelled_count marks trees s)
    ∙ ap (λ (b : Bool). cond {A = Option Fault} b None (Some (record { cause = ExprShape; place = at }))) (ne_eqb (length trees) 1 (λ same. omega arith))
    ∙ ap (λ (p : ℕ). Some (record { cause = ExprShape; place = p })) (sym e)

deep_told : (at : ℕ) (marks : List Mark) (place : ℕ) (trees : List Tree) (op : Mark) → StandsBehind marks trees op → 64 ≤ length trees → wanted op ≡ 0 → place ≡ op.place
    → told_by at (counted_all (Ok 0) marks) ≡ Some (record { cause = ExprDepth; place = place })
deep_told at marks place trees op s many none e =
    stops at marks trees op s (record { cause = ExprDepth; place = op.place }) (after_many (length trees) op (omega arith) (omega arith)) ∙ ap (λ (p : ℕ). Some (record { cause = ExprDepth; place = p })) (sym e)

-- each fault is the one that counting tells
pub fault_told : (at : ℕ) (marks : List Mark) (cause : Cause) (place : ℕ) → IsShapeFault at marks cause place → told_by at (counted_all (Ok 0) marks) ≡ Some (record { cause = cause; place = place })
fault_told at marks ExprShape place f = elim f [
  | inl (trees, op, s, few, e) ↦ few_told at marks place trees op s few e
  | inr (trees, s, several, e) ↦ several_told at marks place trees s several e
]
fault_told at marks ExprDepth place (trees, op, s, many, none, e) = deep_told at marks place trees op s many none e
fault_told at marks _ place f = absurd f

same_fault : (f g : Fault) → Some f ≡ Some g → f ≡ g
same_fault f g e = cc

-- so the one that is told is the least
pub least_shape : (at : ℕ) (marks : List Mark) (fault : Fault) → IsShapeFault at marks fault.cause fault.place → IsLeast (IsShapeFault at marks) fault
least_shape at marks fault told = record {
  told = told;
  least = λ cause place other.
      let same : fault ≡ record { cause = cause; place = place } = same_fault fault (record { cause = cause; place = place }) (sym (fault_told at marks fault.cause fault.place told) ∙ fault_told at marks cause place other) in
      inr (ap (λ (f : Fault). f.place) same, omega (arith, ap (λ (f : Fault). number_of f.cause) same));
}

-- opcodes that mean a tree within the bound have none
pub no_shape : (at : ℕ) (marks : List Mark) (tree : Tree) → Means marks tree → need tree ≤ 64 → HasNone (IsShapeFault at marks)
no_shape at marks tree m few cause place f =
    let none : told_by at (counted_all (Ok 0) marks) ≡ None = ap (told_by at) (spelled_count marks (tree ∷ []) (meant marks tree m few)) in
    let bad : ◌≡◌ {A = Option Fault} None (Some (record { cause = cause; place = place })) = sym none ∙ fault_told at marks cause place f in
    absurd cc

-- ---- counting over operators tells what they mean

pub record Grown (marks : List Mark) (count : ℕ) : Type 0 where
  pub trees : List Tree
  pub spell : Spell marks trees
  pub long : length trees ≡ count

-- an operator behind trees
pub pushed : (before : List Mark) (trees : List Tree) (op : Mark) (count : ℕ) → Spell before trees → IsSized op → wanted op ≤ length trees → count ≡ length trees - wanted op + 1 → count ≤ 64 → Grown (before ++ op ∷ []) count
pushed before trees op count s known enough is few = elim (takes_few (number op.op) known.operator) [
  | inl t ↦
      let w : wanted op ≡ 0 = ap or_zero t in
      record { trees = trees ++ leaf op ∷ []; spell = with_leaf before trees op s t (omega arith); long = omega (arith, length-append trees (leaf op ∷ [])) }
  | inr other ↦ elim other [ inl t ↦ push_one t | inr t ↦ push_two t ]
]
  where
    push_one : takes op ≡ Some 1 → Grown (before ++ op ∷ []) count
    push_one t =
        let w : wanted op ≡ 1 = ap or_zero t in
        let last = last_off trees (omega arith) in
        record {
          trees = last.0 ++ one op last.1 ∷ [];
          spell = with_one before last.0 last.1 op (subst (Spell before) last.2 s) t;
          long = omega (arith, length-append last.0 (one op last.1 ∷ []), length-append last.0 (last.1 ∷ []), ap (λ (l : List Tree). length l) last.2);
        }

    push_two : takes op ≡ Some 2 → Grown (before ++ op ∷ []) count
    push_two t =
        let w : wanted op ≡ 2 = ap or_zero t in
        let last = last_off trees (omega arith) in
        let size : length trees ≡ length last.0 + 1 = omega (arith, length-append last.0 (last.1 ∷ []), ap (λ (l : List Tree). length l) last.2) in
        let next = last_off last.0 (omega arith) in
        let all : trees ≡ next.0 ++ next.1 ∷ last.1 ∷ [] = last.2 ∙ ap (λ (l : List Tree). l ++ last.1 ∷ []) next.2 ∙ append_assoc next.0 (next.1 ∷ []) (last.1 ∷ []) in
        record {
          trees = next.0 ++ two op next.1 last.1 ∷ [];
          spell = with_two before next.0 next.1 last.1 op (subst (Spell before) all s) t;
          long = omega (arith, length-append next.0 (two op next.1 last.1 ∷ []), length-append next.0 (next.1 ∷ last.1 ∷ []), ap (λ (l : List Tree). length l) all);
        }

-- what a count says of opcodes
abbrev pub Says : ℕ → List Mark → Result ℕ Fault → Type 0
Says at marks (Ok count) = Grown marks count
Says at marks (Err fault) = IsShapeFault at marks fault.cause fault.place

pub says : (at : ℕ) (before : List Mark) (trees : List Tree) (ops : List Mark) → Spell before trees → AreSized ops → Says at (before ++ ops) (counted_all (Ok (length trees)) ops)
says at before trees [] s known = rw (append-nil before, count_none (Ok (length trees))) (record { trees = trees; spell = s; long = refl })
says at before trees (op ∷ ops) s known =
    let few : length trees ≤ 64 = omega (arith, few_trees trees, s.within) in
    elim (cases_lt (length trees) (wanted op)) [
      | inl short ↦
          subst (Says at (before ++ op ∷ ops)) (sym (count_step (Ok (length trees)) op ops ∙ ap (λ (c : Result ℕ Fault). counted_all c ops) (after_few (length trees) op short) ∙ count_stays _ ops))
          (inl (trees, op, record { before = before; behind = ops; split = refl; spell = s }, short, refl))
      | inr long ↦ elim (cases_lt 64 (length trees - wanted op + 1)) [
        | inl many ↦
            subst (Says at (before ++ op ∷ ops)) (sym (count_step (Ok (length trees)) op ops ∙ ap (λ (c : Result ℕ Fault). counted_all c ops) (after_many (length trees) op long many) ∙ count_stays _ ops))
            (trees, op, record { before = before; behind = ops; split = refl; spell = s }, omega arith, omega arith, refl)
        | inr fit ↦
            let grown = pushed before trees op (length trees - wanted op + 1) s known.0 long refl fit in
            subst (λ (l : List Mark). Says at l (counted_all (Ok (length trees)) (op ∷ ops))) (append_assoc before (op ∷ []) ops)
            (subst (Says at ((before ++ op ∷ []) ++ ops)) (sym (count_step (Ok (length trees)) op ops ∙ ap (λ (c : Result ℕ Fault). counted_all c ops) (after_some (length trees) op long fit ∙ ap ok (sym grown.long))))
            (says at (before ++ op ∷ []) grown.trees ops grown.spell known.1))
      ]
    ]

nothing : Spell [] []
nothing = record { spelled = refl; fitting = tt; within = omega arith }

-- what counting all says
pub says_all : (at : ℕ) (marks : List Mark) → AreSized marks → Says at marks (counted_all (Ok 0) marks)
says_all at marks known = says at [] [] marks nothing known
