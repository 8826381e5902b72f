-- The first of all reasons is the one that decides.
use Rattle.std.proofs.Common.{◌≡◌, Bool, true, false, Option, Some, None, List, [], ◌∷◌, ◌++◌, drop, map, refl, sym, ap, ◌∙◌, inl, inr}
use Rattle.std.specs.Prelude.{MatchOption, filter, is_some, option_map}
use Rattle.std.specs.List.{find}
use Rattle.std.proofs.lemmas.Bool.{cases_Bool}
use Rattle.ifr_opcodes.specs.Fields.{is_read_only}
use Rattle.ifr_opcodes.specs.Forest.{Node}
use Rattle.ifr_nodes.specs.Guards.{guards}
use Rattle.ifr_nodes.specs.Locks.{first_lock, first_of_nodes, locks}
use Rattle.ifr_nodes.specs.Nodes.{is_question}
use Rattle.hii_values.specs.declared.denial.DenialKind.TheVariants.{GrayOutIf, Locked}
use Rattle.hii_questions.specs.Fields.{Asked, asked}
use Rattle.guard_policy.specs.Policy.{denied_by, fixed, fixed_itself, fixed_question, grays_out, hidden_among, hides, hiding, is_never_changed, or_else}
use Rattle.guard_policy.specs.World.{World}
use Rattle.guard_policy.specs.declared.denial.Denial.{Denial}
use Rattle.question_audit.specs.Reasons.{all_reasons, first_reason, further, guard_reasons, own_reasons}

first_append : (xs ys : List Denial) → first_reason (xs ++ ys) ≡ or_else (first_reason xs) (first_reason ys)
first_append [] ys = refl
first_append (x ∷ xs) ys = refl

first_filter : (f : Node → Denial) (p : Node → Bool) (ns : List Node) → first_reason (map f (filter p ns)) ≡ option_map f (find p ns)
first_filter f p [] = refl
first_filter f p (n ∷ ns) = elim (cases_Bool (p n)) [
  | inl is ↦ rw is refl
  | inr other ↦ rw other (first_filter f p ns)
]

first_node : (f : Node → Denial) (ns : List Node) → first_reason (map f ns) ≡ option_map f (first_of_nodes ns)
first_node f [] = refl
first_node f (n ∷ ns) = refl

first_own : (q : Asked) → first_reason (own_reasons q) ≡ fixed_question q
first_own q = elim (cases_Bool (is_read_only q.node.op)) [
  | inl is ↦ rw is refl
  | inr other ↦ rw other (elim (cases_Bool (is_never_changed q)) [
    | inl never ↦ rw never refl
    | inr some ↦ rw some refl
  ])
]

or_else_assoc : (a b c : Option Denial) → or_else (or_else a b) c ≡ or_else a (or_else b c)
or_else_assoc None b c = refl
or_else_assoc (Some x) b c = refl

first_guard : (w : World) (gs : List Node) → first_reason (guard_reasons w gs) ≡ or_else (hidden_among w gs) (option_map (denied_by GrayOutIf) (find (grays_out w) gs))
first_guard w gs =
    first_append (map hiding (filter (hides w) gs)) (map (denied_by GrayOutIf) (filter (grays_out w) gs))
    ∙ ap (λ (o : Option Denial). or_else o (first_reason (map (denied_by GrayOutIf) (filter (grays_out w) gs)))) (first_filter hiding (hides w) gs)
    ∙ ap (or_else (hidden_among w gs)) (first_filter (denied_by GrayOutIf) (grays_out w) gs)

pub first_is_verdict : (w : World) (n : Node) → is_question n ≡ true → first_reason (all_reasons w (asked w.nodes n)) ≡ fixed w n
first_is_verdict w n asks =
    let q = asked w.nodes n in
    let of_guards = guard_reasons w (guards n) in
    let of_locks = map (denied_by Locked) (locks w.nodes n) in
    let hidden = hidden_among w (guards n) in
    let grayed = option_map (denied_by GrayOutIf) (find (grays_out w) (guards n)) in
    let lock = option_map (denied_by Locked) (first_lock w.nodes n) in
    let itself : fixed_question q ≡ fixed_itself w.nodes n = rw asks refl in
    first_append (of_guards ++ of_locks) (own_reasons q)
    ∙ ap (λ (o : Option Denial). or_else o (first_reason (own_reasons q))) (first_append of_guards of_locks)
    ∙ ap (λ (o : Option Denial). or_else (or_else o (first_reason of_locks)) (first_reason (own_reasons q))) (first_guard w (guards n))
    ∙ ap (λ (o : Option Denial). or_else (or_else (or_else hidden grayed) o) (first_reason (own_reasons q))) (first_node (denied_by Locked) (locks w.nodes n))
    ∙ ap (λ (o : Option Denial). or_else o (first_reason (own_reasons q))) (or_else_assoc hidden grayed lock)
    ∙ ap (or_else (or_else hidden (or_else grayed lock))) (first_own q ∙ itself)

-- ---- reasons that are found node by node

-- the next is one
pub reason_next : (f : Node → Denial) (p : Node → Bool) (left rest : List Node) (n : Node) → left ≡ n ∷ rest → p n ≡ true → map f (filter p left) ≡ f n ∷ map f (filter p rest)
reason_next f p left rest n e is = ap (λ (l : List Node). map f (filter p l)) e ∙ rw is refl

-- or it is none
pub reason_passed : (f : Node → Denial) (p : Node → Bool) (left rest : List Node) (n : Node) → left ≡ n ∷ rest → p n ≡ false → map f (filter p rest) ≡ map f (filter p left)
reason_passed f p left rest n e other = sym (ap (λ (l : List Node). map f (filter p l)) e ∙ rw other refl)

-- ---- all but the first

-- what is left behind the first
pub behind_first : (first : Option Denial) (old new : List Denial) → MatchOption first ((old ≡ []) × (new ≡ [])) (λ denial. old ≡ denial ∷ new) → new ≡ further old
behind_first None old new (none, nothing) = nothing ∙ sym (ap (drop 1) none)
behind_first (Some denial) old new steps = sym (ap (drop 1) steps)

-- where none is there, there is none
pub no_first : (first : Option Denial) (old new : List Denial) → is_some first ≡ false → MatchOption first ((old ≡ []) × (new ≡ [])) (λ denial. old ≡ denial ∷ new) → old ≡ []
no_first None old new e (none, nothing) = none
no_first (Some denial) old new e steps = absurd cc

-- all reasons, kind by kind
pub reasons_there : (w : World) (q : Asked) (hiding_guards graying_guards : List Node) (locked own : List Denial) → hiding_guards ≡ guards q.node → graying_guards ≡ guards q.node → locked ≡ map (denied_by Locked) (locks w.nodes q.node)
    → own ≡ own_reasons q → (map hiding (filter (hides w) hiding_guards) ++ map (denied_by GrayOutIf) (filter (grays_out w) graying_guards)) ++ locked ++ own ≡ all_reasons w q
reasons_there w q hiding_guards graying_guards locked own e f g h = rw (e, f, g, h) refl
