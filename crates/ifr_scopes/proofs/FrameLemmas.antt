-- The questions on which an expression depends, name by name, over the expressions whose rules are gone into.
use Rattle.std.proofs.Common.{◌≡◌, ℕ, ◌+◌, ◌*◌, ◌<◌, ◌≤◌, max, Bool, true, false, cond, eqb, Option, Some, None, List, [], ◌∷◌, ◌++◌, append_assoc, length, map, reverse, refl, sym, ap, ◌∙◌, subst, arith, inl, inr}
use Rattle.std.specs.Prelude.{sum, option_map}
use Rattle.std.specs.List.{flat_map}
use Rattle.std.proofs.lemmas.Bool.{cases_Bool}
use Rattle.std.proofs.lemmas.Grind.{flat_map-append}
use Rattle.std.proofs.lemmas.List.{append-nil, reverse-append, length-append, length-reverse}
use Rattle.std.proofs.lemmas.List.Sums.{sum_by-cons}
use Rattle.ifr_opcodes.specs.declared.codes.TheConstants.{EQ_ID_VAL, EQ_ID_ID, EQ_ID_VAL_LIST, QUESTION_REF1, RULE_REF, THIS}
use Rattle.ifr_opcodes.specs.Fields.{eq_id_val_question, eq_id_id_first, eq_id_id_second, eq_id_val_list_question, question_ref_question, rule_ref_rule}
use Rattle.ifr_opcodes.specs.Forest.{Mark}
use Rattle.ifr_opcodes.specs.Opcode.{number}
use Rattle.ifr_expr.specs.Dependence.{own, ids_behind, rule_ids, dependence}
use Rattle.ifr_expr.specs.Meaning.{Rule}
use Rattle.ifr_expr.specs.code.Rules.{AreOrdered, named}
use Rattle.ifr_expr.specs.Support.{ids_of}
use Rattle.ifr_expr.specs.code.Names.{names_of, names_among, names_in}
use Rattle.ifr_expr.specs.code.NamesLeft.{names_left}
use Rattle.ifr_expr.specs.References.{references, references_among}
use Rattle.ifr_expr.specs.Trees.{Tree, post}
use Rattle.ifr_expr.specs.declared.names.Name.{Name}
use Rattle.ifr_expr.specs.declared.names.Name.TheVariants as name
use Rattle.ifr_expr.specs.declared.references.RuleReference.{RuleReference}
use Rattle.ifr_expr.proofs.DependenceLemmas.{found_ids, no_ids}
use Rattle.ifr_scopes.specs.code.Frames.{ids_by, frame_ids, depth_by, frame_depth, HaveRoom}
use Rattle.ifr_nodes.specs.Rules.{rule_sizes, size_over, greatest}
use Rattle.ifr_scopes.specs.declared.dependence.Frame.{Frame}
use Rattle.ifr_nodes.specs.declared.rules.RuleSize.{RuleSize}
use Rattle.ifr_scopes.proofs.NamedSizeLemmas.{AreShallow, found_size}

-- ---- the questions behind names are those behind opcodes

ids_back : (rules : List Rule) (this : ℕ) (ids : List ℕ) → flat_map (ids_by rules this) (map name.Question ids) ≡ ids
ids_back rules this [] = refl
ids_back rules this (id ∷ ids) = ap (λ (l : List ℕ). id ∷ l) (ids_back rules this ids)

ids_of_one : (rules : List Rule) (this : ℕ) (op : Mark) → flat_map (ids_by rules this) (names_of op) ≡ ids_behind (rule_ids rules) this op
ids_of_one rules this op = elim (cases_Bool (eqb (number op.op) RULE_REF)) [
  | inl is ↦ rw is (append-nil (rule_ids rules (rule_ref_rule op.op) op.place))
  | inr no_rule ↦ elim (cases_Bool (eqb (number op.op) THIS)) [
    | inl is ↦ rw (no_rule, is) (append-nil (own this))
    | inr other ↦ rw (no_rule, other) (ids_back rules this (ids_of op.op))
  ]
]

pub ids_of_names : (rules : List Rule) (this : ℕ) (ops : List Mark) → flat_map (ids_by rules this) (names_among ops) ≡ flat_map (ids_behind (rule_ids rules) this) ops
ids_of_names rules this [] = refl
ids_of_names rules this (op ∷ ops) =
    flat_map-append (ids_by rules this) (names_of op) (names_among ops) ∙ ap (λ (l : List ℕ). l ++ flat_map (ids_by rules this) (names_among ops)) (ids_of_one rules this op)
    ∙ ap (λ (l : List ℕ). ids_behind (rule_ids rules) this op ++ l) (ids_of_names rules this ops)

-- ---- how deep names are, and how many turns they take

abbrev depth_among : List Rule → List Name → ℕ
depth_among rules names = greatest (map (depth_by rules) names)

abbrev depths : List Rule → List RuleReference → ℕ
depths rules rs = greatest (map (λ r. (rule_sizes rules r.id r.place).depth) rs)

abbrev weights : List Rule → List RuleReference → ℕ
weights rules rs = sum (map (λ r. (rule_sizes rules r.id r.place).weight) rs)

-- for each opcode of the rules behind a name two turns are enough
abbrev turns_by : List Rule → Name → ℕ
turns_by rules (name.Question id) = 1
turns_by rules name.This = 1
turns_by rules (name.Rule r) = 2 + 2 * (rule_sizes rules r.id r.place).weight

abbrev turns_among : List Rule → List Name → ℕ
turns_among rules [] = 0
turns_among rules (n ∷ ns) = turns_by rules n + turns_among rules ns

-- and one for the end of each expression
abbrev pub turns : List Rule → List Frame → ℕ
turns rules [] = 0
turns rules (frame ∷ frames) = 1 + turns_among rules (names_left frame.names) + turns rules frames

depth_append : (rules : List Rule) (xs ys : List Name) → depth_among rules (xs ++ ys) ≡ max (depth_among rules xs) (depth_among rules ys)
depth_append rules [] ys = omega arith
depth_append rules (x ∷ xs) ys = omega (arith, depth_append rules xs ys)

turns_append : (rules : List Rule) (xs ys : List Name) → turns_among rules (xs ++ ys) ≡ turns_among rules xs + turns_among rules ys
turns_append rules [] ys = omega arith
turns_append rules (x ∷ xs) ys = omega (arith, turns_append rules xs ys)

questions_are_flat : (rules : List Rule) (ids : List ℕ) → (depth_among rules (map name.Question ids) ≡ 0) × (turns_among rules (map name.Question ids) ≡ length ids)
questions_are_flat rules [] = (refl, refl)
questions_are_flat rules (id ∷ ids) = let more = questions_are_flat rules ids in (omega (arith, more.0), omega (arith, more.1))

few_of : (a b d e : Bool) (x y z v w : ℕ) → length (cond a (x ∷ []) (cond b (y ∷ z ∷ []) (cond d (v ∷ []) (cond e (w ∷ []) [])))) ≤ 2
few_of true b d e x y z v w = omega arith
few_of false true d e x y z v w = omega arith
few_of false false true e x y z v w = omega arith
few_of false false false true x y z v w = omega arith
few_of false false false false x y z v w = omega arith

few_ids : (op : List ℕ) → length (ids_of op) ≤ 2
unfolding ids_of
few_ids op =
    few_of (eqb (number op) EQ_ID_VAL) (eqb (number op) EQ_ID_ID) (eqb (number op) EQ_ID_VAL_LIST) (eqb (number op) QUESTION_REF1) (eq_id_val_question op) (eq_id_id_first op) (eq_id_id_second op) (eq_id_val_list_question op) (question_ref_question op)

-- What the names of an opcode that is no reference to a rule come to.
other_names : (rules : List Rule) (op : Mark) → eqb (number op.op) RULE_REF ≡ false → (depth_among rules (names_of op) ≡ 0) × (turns_among rules (names_of op) ≤ 2)
other_names rules op no_rule = elim (cases_Bool (eqb (number op.op) THIS)) [
  | inl is ↦ rw (no_rule, is) (omega arith, omega arith)
  | inr other ↦
      let flat = questions_are_flat rules (ids_of op.op) in
      rw (no_rule, other) (flat.0, omega (arith, flat.1, few_ids op.op))
]

depth_of_names : (rules : List Rule) (ops : List Mark) → depth_among rules (names_among ops) ≡ depths rules (references_among ops)
depth_of_names rules [] = refl
depth_of_names rules (op ∷ ops) = elim (cases_Bool (eqb (number op.op) RULE_REF)) [
  | inl is ↦ rw is (ap (max (rule_sizes rules (rule_ref_rule op.op) op.place).depth) (depth_of_names rules ops))
  | inr no_rule ↦
      let flat = other_names rules op no_rule in
      let split = depth_append rules (names_of op) (names_among ops) in
      let rest : depth_among rules (names_among (op ∷ ops)) ≡ depths rules (references_among ops) = omega (arith, flat.0, split, depth_of_names rules ops) in
      rest ∙ rw no_rule refl
]

turns_of_names : (rules : List Rule) (ops : List Mark) → turns_among rules (names_among ops) ≤ 2 * (length ops + weights rules (references_among ops))
turns_of_names rules [] = omega arith
turns_of_names rules (op ∷ ops) = elim (cases_Bool (eqb (number op.op) RULE_REF)) [
  | inl is ↦
      let w : ℕ = (rule_sizes rules (rule_ref_rule op.op) op.place).weight in
      rw is (omega (arith, turns_of_names rules ops, sum_by-cons (λ (x : ℕ). x) w (map (λ r. (rule_sizes rules r.id r.place).weight) (references_among ops))))
  | inr no_rule ↦
      let flat = other_names rules op no_rule in
      let split = turns_append rules (names_of op) (names_among ops) in
      let few : turns_among rules (names_among (op ∷ ops)) ≤ 2 * (length (op ∷ ops) + weights rules (references_among ops)) = omega (arith, flat.1, split, turns_of_names rules ops) in
      subst (λ (rs : List RuleReference). turns_among rules (names_among (op ∷ ops)) ≤ 2 * (length (op ∷ ops) + weights rules rs)) (sym (no_reference op ops no_rule)) few
]
  where
    no_reference : (op : Mark) (ops : List Mark) → eqb (number op.op) RULE_REF ≡ false → references_among (op ∷ ops) ≡ references_among ops
    no_reference op ops no_rule = rw no_rule refl

-- ---- frames that come and go

-- the last is the one on top
pub on_top : (old below : List Frame) (frame : Frame) → old ≡ below ++ frame ∷ [] → reverse old ≡ frame ∷ reverse below
on_top old below frame e = ap reverse e ∙ reverse-append below (frame ∷ [])

abbrev pub ids : List Rule → List Frame → List ℕ
ids rules frames = flat_map (frame_ids rules) (reverse frames)

-- A frame goes on to its next name.
pub record GoesOn (rules : List Rule) (old below new : List Frame) (this : ℕ) (n : Name) : Type 0 where
  pub split : ids rules old ≡ ids_by rules this n ++ ids rules new
  pub room : HaveRoom rules (reverse new)
  pub within : depth_by rules n + length below ≤ 16
  pub fewer : turns rules (reverse old) ≡ turns_by rules n + turns rules (reverse new)

pub goes_on : (rules : List Rule) (old below new : List Frame) (frame next : Frame) (n : Name) → old ≡ below ++ frame ∷ [] → new ≡ below ++ next ∷ [] → next.this ≡ frame.this
    → names_left frame.names ≡ n ∷ names_left next.names → HaveRoom rules (reverse old) → GoesOn rules old below new frame.this n
goes_on rules old below new frame next n e f this steps room =
    let top = on_top old below frame e in
    let after = on_top new below next f in
    let have = subst (HaveRoom rules) top room in
    let deep : frame_depth rules frame ≡ max (depth_by rules n) (frame_depth rules next) = ap (depth_among rules) steps in
    let long = length-reverse below in
    let its : frame_ids rules frame ≡ ids_by rules frame.this n ++ frame_ids rules next =
    ap (flat_map (ids_by rules frame.this)) steps ∙ ap (λ (k : ℕ). ids_by rules frame.this n ++ flat_map (ids_by rules k) (names_left next.names)) (sym this) in
    record {
      split =
          ap (flat_map (frame_ids rules)) top ∙ ap (λ (l : List ℕ). l ++ ids rules below) its ∙ append_assoc (ids_by rules frame.this n) (frame_ids rules next) (ids rules below)
          ∙ ap (λ (l : List ℕ). ids_by rules frame.this n ++ l) (sym (ap (flat_map (frame_ids rules)) after));
      room = subst (HaveRoom rules) (sym after) (omega (arith, have.0, deep), have.1);
      within = omega (arith, have.0, deep, long);
      fewer = omega (arith, ap (turns rules) top, ap (turns rules) after, ap (turns_among rules) steps);
    }

-- ---- rules that are gone into

-- the rule of a tree
rule_of : (t : Tree) (found : Option Rule) → Some t ≡ option_map (λ r. r.tree) found → (r : Rule) × (found ≡ Some r) × (r.tree ≡ t)
rule_of t None e = absurd cc
rule_of t (Some r) e = (r, refl, cc)

no_rule_of : (found : Option Rule) → ◌≡◌ {A = Option Tree} None (option_map (λ r. r.tree) found) → found ≡ None
no_rule_of None e = refl
no_rule_of (Some r) e = absurd cc

-- A reference that names no rule is passed over.
pub passed_over : (rules : List Rule) (id place : ℕ) → ◌≡◌ {A = Option Tree} None (option_map (λ r. r.tree) (named rules id place)) → rule_ids rules id place ≡ []
passed_over rules id place e = no_ids rules id place (no_rule_of (named rules id place) e)

-- The rule that is named comes on top of the frame that names it.
pub record Enters (rules : List Rule) (below old new : List Frame) (r : RuleReference) : Type 0 where
  pub joined : rule_ids rules r.id r.place ++ ids rules old ≡ ids rules new
  pub room : HaveRoom rules (reverse new)
  pub fewer : turns rules (reverse new) < turns_by rules (name.Rule r) + turns rules (reverse old)

-- What is known of a rule that a reference names.
pub record IsNamed (rules : List Rule) (r : RuleReference) (t : Tree) : Type 0 where
  pub its_ids : rule_ids rules r.id r.place ≡ dependence rules 0 t
  pub its_size : rule_sizes rules r.id r.place ≡ size_over (rule_sizes rules) t

pub is_named : (rules : List Rule) (r : RuleReference) (t : Tree) → AreOrdered rules → Some t ≡ option_map (λ q. q.tree) (named rules r.id r.place) → IsNamed rules r t
is_named rules r t o e =
    let rule = rule_of t (named rules r.id r.place) e in
    record {
      its_ids = found_ids rules r.id r.place rule.0 o rule.1 ∙ ap (dependence rules 0) rule.2;
      its_size = found_size rules r.id r.place rule.0 o rule.1 ∙ ap (size_over (rule_sizes rules)) rule.2;
    }

-- there is room for it
pub fits_on : (rules : List Rule) (below old : List Frame) (frame : Frame) (r : RuleReference) (t : Tree) → old ≡ below ++ frame ∷ [] → depth_by rules (name.Rule r) + length below ≤ 16 → IsNamed rules r t → length old < 17
fits_on rules below old frame r t e within is = omega (arith, within, ap (λ (s : RuleSize). s.depth) is.its_size, ap (λ (l : List Frame). length l) e, length-append below (frame ∷ []))

pub enters : (rules : List Rule) (below old new : List Frame) (frame next : Frame) (r : RuleReference) (t : Tree) → old ≡ below ++ frame ∷ [] → new ≡ old ++ next ∷ [] → next.this ≡ 0 → names_left next.names ≡ names_in t
    → depth_by rules (name.Rule r) + length below ≤ 16 → IsNamed rules r t → HaveRoom rules (reverse old) → Enters rules below old new r
enters rules below old new frame next r t e f this names within is room =
    let top = on_top new old next f in
    let its : frame_ids rules next ≡ dependence rules 0 t =
    ap (flat_map (ids_by rules next.this)) names ∙ ap (λ (k : ℕ). flat_map (ids_by rules k) (names_in t)) this ∙ ids_of_names rules 0 (post t) in
    let deep : frame_depth rules next ≡ depths rules (references t) = ap (depth_among rules) names ∙ depth_of_names rules (post t) in
    let size = ap (λ (s : RuleSize). s.depth) is.its_size in
    let weight = ap (λ (s : RuleSize). s.weight) is.its_size in
    let long = ap (λ (l : List Frame). length l) e in
    record {
      joined = ap (λ (l : List ℕ). l ++ ids rules old) (is.its_ids ∙ sym its) ∙ sym (ap (flat_map (frame_ids rules)) top);
      room = subst (HaveRoom rules) (sym top) (omega (arith, within, deep, size, long, length-append below (frame ∷ []), length-reverse old), room);
      fewer = omega (arith, ap (turns rules) top, ap (turns_among rules) names, turns_of_names rules (post t), weight);
    }

-- ---- at the start there is one frame

names_shallow : (rules : List Rule) (names : List Name) → AreShallow rules → depth_among rules names ≤ 16
names_shallow rules [] all = omega arith
names_shallow rules (name.Question id ∷ names) all = omega (arith, names_shallow rules names all)
names_shallow rules (name.This ∷ names) all = omega (arith, names_shallow rules names all)
names_shallow rules (name.Rule r ∷ names) all = omega (arith, all r.id r.place, names_shallow rules names all)

pub first_room : (rules : List Rule) (frames : List Frame) (frame : Frame) → frames ≡ [] ++ frame ∷ [] → AreShallow rules → HaveRoom rules (reverse frames)
first_room rules frames frame e all = subst (HaveRoom rules) (sym (on_top frames [] frame e)) (omega (arith, names_shallow rules (names_left frame.names) all), tt)

pub first_ids : (rules : List Rule) (frames : List Frame) (frame : Frame) (t : Tree) → frames ≡ [] ++ frame ∷ [] → names_left frame.names ≡ names_in t → ids rules frames ≡ dependence rules frame.this t
first_ids rules frames frame t e names =
    ap (flat_map (frame_ids rules)) (on_top frames [] frame e) ∙ append-nil (frame_ids rules frame) ∙ ap (flat_map (ids_by rules frame.this)) names ∙ ids_of_names rules frame.this (post t)
