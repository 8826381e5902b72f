-- What no command moves stays.
use Rattle.std.proofs.Common.{◌≡◌, ℕ, zero, suc, ◌==◌, ◌&&◌, Bool, true, false, Option, Some, None, List, [], ◌∷◌, ◌++◌, append_assoc, map, filter, refl, sym, ap, subst, ◌∙◌, inl, inr, arith}
use Rattle.std.specs.Prelude.{◌⊎◌, if◌then◌else◌, is_some, length, nat_le}
use Rattle.std.specs.List.{AllByRecursion, Contains, find, list_any}
use Rattle.std.proofs.lemmas.Bool.{cases_Bool, cond-true, cond-false, eqb-true, eq-eqb, and_from, and_parts, or_cases, or_left, or_right}
use Rattle.std.proofs.lemmas.List.Elements.{Contains-append_cases, Contains-append_left, Contains-append_right}
use Rattle.ifr_opcodes.specs.declared.codes.TheConstants.{DISABLE_IF, GRAY_OUT_IF, SUPPRESS_IF}
use Rattle.ifr_opcodes.specs.Fields.{question_id}
use Rattle.ifr_opcodes.specs.Forest.{Ancestor, Node, node_at}
use Rattle.ifr_opcodes.specs.Opcode.{number}
use Rattle.ifr_opcodes.specs.Reading.{tree_of}
use Rattle.ifr_opcodes.specs.Rows.{is_among}
use Rattle.ifr_expr.specs.Values.{holds}
use Rattle.ifr_expr.proofs.DependenceLemmas.{depends}
use Rattle.ifr_nodes.specs.Accepted.{IsAccepted}
use Rattle.ifr_nodes.specs.Guards.{ancestors, guards, is_guard, nodes_on}
use Rattle.ifr_nodes.specs.NodeExpressions.{expression_tree}
use Rattle.ifr_nodes.specs.Nodes.{is_question, nodes_of, this_of}
use Rattle.ifr_nodes.specs.Locks.{locks}
use Rattle.ifr_nodes.specs.Rules.{rules_among}
use Rattle.ifr_nodes.specs.code.Checked.{IsNodeOf}
use Rattle.ifr_nodes.proofs.PlaceLemmas.{is_found}
use Rattle.ifr_nodes.proofs.ScopeLemmas.{ancestor_node}
use Rattle.ifr_nodes.proofs.ViewLemmas.{contains_found, further}
use Rattle.hii_varstore.specs.Stores.{StoreMap}
use Rattle.hii_values.specs.declared.denial.DenialKind.TheVariants.{GrayOutIf, Locked}
use Rattle.hii_questions.specs.Answers.{answers}
use Rattle.hii_questions.specs.Fields.{Asked, asked}
use Rattle.guard_policy.specs.Conditions.{condition_ids}
use Rattle.guard_policy.specs.Policy.{denied_by, fixed, grays_out, hides, hiding, is_removed, suppresses}
use Rattle.guard_policy.specs.World.{World, is_disabling, is_met_over, removed_at, world_over}
use Rattle.guard_policy.specs.laws.Support.{AnswersAgree}
use Rattle.guard_policy.specs.declared.denial.Denial.{Denial}
use Rattle.question_audit.specs.QuestionLines.{is_constant, is_constant_at, is_constant_guard, names_none}
use Rattle.question_audit.specs.Reasons.{all_reasons, first_reason, guard_reasons, own_reasons}
use Rattle.question_audit.proofs.ReasonLemmas.{first_is_verdict}
use Rattle.session_steps.specs.State.{State, world_of, world_with}
use Rattle.unlock_audit.specs.Asking.{asking}
use Rattle.unlock_audit.specs.Moves.{moves}
use Rattle.unlock_audit.specs.Tries.{Try, begun_over, commands, is_answered, longer, made, opens, write}
use Rattle.unlock_audit.specs.Unlock.{Answer, answer_with, driver, final_reason, is_final, is_of_opcode, more, needs_new_run, never, none, unfound, unlock_by, unlock_unless}
use Rattle.unlock_audit.specs.laws.Never.{Forbids, NeverOpens}

-- ---- elements of lists

first_or : {X : Type 0} (x : X) (xs : List X) (y : X) → Contains (x ∷ xs) y → (x ≡ y) ⊎ Contains xs y
first_or x xs y (zero, lt, e) = inl e
first_or x xs y (suc k, lt, e) = inr (k, omega (arith, lt), e)

none_in : {X : Type 0} (x : X) → Contains [] x → ⊥
none_in x (k, lt, e) = omega (arith, lt)

passing : {X : Type 0} (p : X → Bool) (xs : List X) (x : X) → Contains (filter p xs) x → Contains xs x × (p x ≡ true)
passing p [] x c = absurd (none_in x c)
passing p (y ∷ ys) x c = elim (cases_Bool (p y)) [
  | inl takes ↦ elim (first_or y (filter p ys) x (subst (λ l. Contains l x) (cond-true (p y) (y ∷ filter p ys) (filter p ys) takes) c)) [
    | inl same ↦ ((0, omega arith, same), ap p (sym same) ∙ takes)
    | inr behind ↦ let its = passing p ys x behind in (further y ys x its.0, its.1)
  ]
  | inr leaves ↦ let its = passing p ys x (subst (λ l. Contains l x) (cond-false (p y) (y ∷ filter p ys) (filter p ys) leaves) c) in (further y ys x its.0, its.1)
]

filtered : {X : Type 0} (p : X → Bool) (xs : List X) (x : X) → Contains xs x → p x ≡ true → Contains (filter p xs) x
filtered p [] x c passes = c
filtered p (y ∷ ys) x c passes = elim (cases_Bool (p y)) [
  | inl takes ↦ subst (λ l. Contains l x) (sym (cond-true (p y) (y ∷ filter p ys) (filter p ys) takes)) (elim (first_or y ys x c) [
    | inl same ↦ (0, omega arith, same)
    | inr behind ↦ further y (filter p ys) x (filtered p ys x behind passes)
  ])
  | inr leaves ↦ elim (first_or y ys x c) [
    | inl same ↦ let bad : false ≡ true = sym leaves ∙ ap p same ∙ passes in absurd cc
    | inr behind ↦ subst (λ l. Contains l x) (sym (cond-false (p y) (y ∷ filter p ys) (filter p ys) leaves)) (filtered p ys x behind passes)
  ]
]

of_map : {X Y : Type 0} (f : X → Y) (xs : List X) (y : Y) → Contains (map f xs) y → (x : X) × Contains xs x × (f x ≡ y)
of_map f [] y c = absurd (none_in y c)
of_map f (x ∷ xs) y c = elim (first_or (f x) (map f xs) y c) [
  | inl same ↦ (x, (0, omega arith, refl), same)
  | inr behind ↦ let its = of_map f xs y behind in (its.0, further x xs its.0 its.1, its.2)
]

to_map : {X Y : Type 0} (f : X → Y) (xs : List X) (x : X) → Contains xs x → Contains (map f xs) (f x)
to_map f [] x c = absurd (none_in x c)
to_map f (y ∷ ys) x c = elim (first_or y ys x c) [
  | inl same ↦ (0, omega arith, ap f same)
  | inr behind ↦ further (f y) (map f ys) (f x) (to_map f ys x behind)
]

-- what is told of those that pass a test is told of those that pass another, where these pass it
kept : {X Y : Type 0} (f : X → Y) (p q : X → Bool) (xs : List X) (y : Y) → Contains (map f (filter p xs)) y → ((x : X) → Contains xs x → p x ≡ true → f x ≡ y → q x ≡ true) → Contains (map f (filter q xs)) y
kept f p q xs y c follows =
    let its = of_map f (filter p xs) y c in
    let passes = passing p xs its.0 its.1 in
    subst (Contains (map f (filter q xs))) its.2 (to_map f (filter q xs) its.0 (filtered q xs its.0 passes.0 (follows its.0 passes.0 passes.1 its.2)))

found_in : {X : Type 0} (p : X → Bool) (xs : List X) (x : X) → find p xs ≡ Some x → Contains xs x × (p x ≡ true)
found_in p [] x e = absurd cc
found_in p (y ∷ ys) x e = elim (cases_Bool (p y)) [
  | inl is ↦ let same : y ≡ x = cc (rw is at e) in ((0, omega arith, same), ap p (sym same) ∙ is)
  | inr not ↦ let its = found_in p ys x (rw not at e) in (further y ys x its.0, its.1)
]

any_in : {X : Type 0} (p : X → Bool) (xs : List X) → list_any p xs ≡ true → (x : X) × Contains xs x × (p x ≡ true)
any_in p [] e = absurd cc
any_in p (y ∷ ys) e = elim (or_cases (p y) (list_any p ys) e) [
  | inl is ↦ (y, (0, omega arith, refl), is)
  | inr later ↦ let its = any_in p ys later in (its.0, further y ys its.0 its.1, its.2)
]

in_any : {X : Type 0} (p : X → Bool) (xs : List X) (x : X) → Contains xs x → p x ≡ true → list_any p xs ≡ true
in_any p [] x c is = absurd (none_in x c)
in_any p (y ∷ ys) x c is = elim (first_or y ys x c) [
  | inl same ↦ or_left (p y) (list_any p ys) (ap p same ∙ is)
  | inr behind ↦ or_right (p y) (list_any p ys) (in_any p ys x behind is)
]

of_all : {X : Type 0} (P : X → Type 0) (xs : List X) (x : X) → AllByRecursion P xs → Contains xs x → P x
of_all P [] x all c = absurd (none_in x c)
of_all P (y ∷ ys) x all c = elim (first_or y ys x c) [
  | inl same ↦ subst P same all.0
  | inr behind ↦ of_all P ys x all.1 behind
]

-- ---- the guards of a node are the nodes at their places

around_nodes : (bytes : List ℕ) (n : Node) (before path : List Ancestor) → IsAccepted bytes → IsNodeOf bytes n → n.path ≡ before ++ path → AllByRecursion (IsNodeOf bytes) (nodes_on before path)
around_nodes bytes n before [] accepted is e = tt
around_nodes bytes n before (a ∷ path) accepted is e =
    let found = ancestor_node bytes n before path a accepted.checked.spelled is e in
    let same : found.0 ≡ record { place = a.place; op = a.op; path = before; children = a.children } =
    ap (λ (b : Ancestor). record { place = b.place; op = b.op; path = found.0.path; children = b.children }) found.2 ∙ ap (λ (p : List Ancestor). record { place = a.place; op = a.op; path = p; children = a.children }) found.3 in
    (subst (IsNodeOf bytes) same found.1, around_nodes bytes n (before ++ a ∷ []) path accepted is (e ∙ sym (append_assoc before (a ∷ []) path)))

guard_is_node : (bytes : List ℕ) (n g : Node) → IsAccepted bytes → IsNodeOf bytes n → Contains (guards n) g → IsNodeOf bytes g
guard_is_node bytes n g accepted is c =
    of_all (IsNodeOf bytes) (ancestors n) g (around_nodes bytes n [] n.path accepted is refl) (passing (λ g. is_guard (number g.op)) (ancestors n) g c).0

same_node : (bytes : List ℕ) (g h : Node) → IsNodeOf bytes g → IsNodeOf bytes h → g.place ≡ h.place → g ≡ h
same_node bytes g h ig ih same = let both : Some g ≡ Some h = sym ig ∙ ap (node_at (nodes_of bytes)) same ∙ ih in cc

-- ---- a condition that names no question holds over all stores, or over none

no_id : (ids : List ℕ) → names_none ids ≡ true → ids ≡ []
no_id [] e = refl
no_id (id ∷ ids) e = absurd cc

holds_still : (ns : List Node) (stores others : StoreMap) (g : Node) → is_constant_guard ns g ≡ true → is_met_over ns stores g ≡ is_met_over ns others g
holds_still ns stores others g constant =
    ap holds (depends (rules_among ns) (answers ns stores) (answers ns others) (this_of g) (expression_tree g)
    (subst (AnswersAgree ns stores others) (sym (no_id (condition_ids ns g) constant)) tt))

-- ---- so that it is removed, hides and grays out over all

removed_still : (bytes : List ℕ) (stores others : StoreMap) (g : Node) → IsAccepted bytes → IsNodeOf bytes g → is_constant_guard (nodes_of bytes) g ≡ true
    → is_among g.place (removed_at (nodes_of bytes) stores) ≡ true → is_among g.place (removed_at (nodes_of bytes) others) ≡ true
removed_still bytes stores others g accepted is constant e =
    let ns = nodes_of bytes in
    let at = any_in (λ m. m == g.place) (removed_at ns stores) e in
    let node = of_map (λ n. n.place) (filter (is_disabling ns stores) ns) at.0 at.1 in
    let disabling = passing (is_disabling ns stores) ns node.0 node.1 in
    let same_place : node.0.place ≡ g.place = node.2 ∙ eqb-true at.0 g.place at.2 in
    let same : node.0 ≡ g = same_node bytes node.0 g (is_found bytes (tree_of bytes) node.0 accepted.checked.spelled disabling.0) is same_place in
    let still : is_disabling ns others g ≡ true = ap (λ b. number g.op == DISABLE_IF && b) (holds_still ns others stores g constant) ∙ subst (λ m. is_disabling ns stores m ≡ true) same disabling.1 in
    in_any (λ m. m == g.place) (removed_at ns others) g.place (to_map (λ n. n.place) (filter (is_disabling ns others) ns) g (filtered (is_disabling ns others) ns g (contains_found ns g.place g is) still)) (eq-eqb g.place g.place refl)

module _ (bytes : List ℕ) (n : Node) (removed gone : List ℕ) (stores others : StoreMap) (accepted : IsAccepted bytes) (is : IsNodeOf bytes n)
    (stays : (g : Node) → IsNodeOf bytes g → is_constant_guard (nodes_of bytes) g ≡ true → is_among g.place removed ≡ true → is_among g.place gone ≡ true) where
  abbrev ns : List Node
  ns = nodes_of bytes

  abbrev w : World
  w = world_over ns removed stores

  abbrev v : World
  v = world_over ns gone others

  hides_still : (g : Node) → IsNodeOf bytes g → is_constant_guard ns g ≡ true → hides w g ≡ true → hides v g ≡ true
  hides_still g at constant e = elim (or_cases (is_removed removed g) (suppresses w g) e) [
    | inl first ↦
        let parts = and_parts (number g.op == DISABLE_IF) (is_among g.place removed) first in
        or_left (is_removed gone g) (suppresses v g) (and_from (number g.op == DISABLE_IF) (is_among g.place gone) parts.0 (stays g at constant parts.1))
    | inr second ↦ or_right (is_removed gone g) (suppresses v g) (ap (λ b. number g.op == SUPPRESS_IF && b) (holds_still ns others stores g constant) ∙ second)
  ]

  grays_still : (g : Node) → is_constant_guard ns g ≡ true → grays_out w g ≡ true → grays_out v g ≡ true
  grays_still g constant e = ap (λ b. number g.op == GRAY_OUT_IF && b) (holds_still ns others stores g constant) ∙ e

  -- the guard at the place of a reason that stays, which is no opcode's own, names no question
  constant_of : (reason : Denial) (g : Node) → Contains (guards n) g → g.place ≡ reason.place → is_of_opcode reason.kind ≡ false → is_final ns n reason ≡ true → is_constant_guard ns g ≡ true
  constant_of reason g c same other final = elim (or_cases (is_of_opcode reason.kind) (is_constant ns n (Some reason)) final) [
    | inl opcode ↦ let bad : false ≡ true = sym other ∙ opcode in absurd cc
    | inr constant ↦
        let h = any_in (is_constant_at ns reason.place) (guards n) constant in
        let parts = and_parts (h.0.place == reason.place) (is_constant_guard ns h.0) h.2 in
        let one = same_node bytes h.0 g (guard_is_node bytes n h.0 accepted is h.1) (guard_is_node bytes n g accepted is c) (eqb-true h.0.place reason.place parts.0 ∙ sym same) in
        subst (λ (m : Node). is_constant_guard ns m ≡ true) one parts.1
  ]

  hiding_other : (g : Node) → is_of_opcode (hiding g).kind ≡ false
  hiding_other g = elim (cases_Bool (number g.op == DISABLE_IF)) [
    | inl e ↦ rw e refl
    | inr e ↦ rw e refl
  ]

  hiding_kept : (reason : Denial) → is_final ns n reason ≡ true → Contains (map hiding (filter (hides w) (guards n))) reason → Contains (map hiding (filter (hides v) (guards n))) reason
  hiding_kept reason final c =
      kept hiding (hides w) (hides v) (guards n) reason c
      (λ g within e same.
      hides_still g (guard_is_node bytes n g accepted is within)
      (constant_of reason g within (ap (λ (d : Denial). d.place) same) (ap (λ (d : Denial). is_of_opcode d.kind) (sym same) ∙ hiding_other g) final) e)

  graying_kept : (reason : Denial) → is_final ns n reason ≡ true → Contains (map (denied_by GrayOutIf) (filter (grays_out w) (guards n))) reason
      → Contains (map (denied_by GrayOutIf) (filter (grays_out v) (guards n))) reason
  graying_kept reason final c =
      kept (denied_by GrayOutIf) (grays_out w) (grays_out v) (guards n) reason c
      (λ g within e same. grays_still g (constant_of reason g within (ap (λ (d : Denial). d.place) same) (ap (λ (d : Denial). is_of_opcode d.kind) (sym same)) final) e)

  guards_stay : (reason : Denial) → is_final ns n reason ≡ true → Contains (guard_reasons w (guards n)) reason → Contains (guard_reasons v (guards n)) reason
  guards_stay reason final c =
      let hiding_v = map hiding (filter (hides v) (guards n)) in
      let graying_v = map (denied_by GrayOutIf) (filter (grays_out v) (guards n)) in
      elim (Contains-append_cases (map hiding (filter (hides w) (guards n))) (map (denied_by GrayOutIf) (filter (grays_out w) (guards n))) reason c) [
        | inl hides_it ↦ Contains-append_left hiding_v graying_v reason (hiding_kept reason final hides_it)
        | inr grays_it ↦ Contains-append_right hiding_v graying_v reason (graying_kept reason final grays_it)
      ]

  reason_stays : (reason : Denial) → is_final ns n reason ≡ true → Contains (all_reasons w (asked ns n)) reason → Contains (all_reasons v (asked ns n)) reason
  reason_stays reason final c =
      let locked = map (denied_by Locked) (locks ns n) in
      let own = own_reasons (asked ns n) in
      elim (Contains-append_cases (guard_reasons w (guards n) ++ locked) own reason c) [
        | inl before ↦ Contains-append_left (guard_reasons v (guards n) ++ locked) own reason (elim (Contains-append_cases (guard_reasons w (guards n)) locked reason before) [
          | inl of_guards ↦ Contains-append_left (guard_reasons v (guards n)) locked reason (guards_stay reason final of_guards)
          | inr lock ↦ Contains-append_right (guard_reasons v (guards n)) locked reason lock
        ])
        | inr other ↦ Contains-append_right (guard_reasons v (guards n) ++ locked) own reason other
      ]

-- ---- a reason among others forbids

some_first : (rs : List Denial) (r : Denial) → Contains rs r → is_some (first_reason rs) ≡ true
some_first [] r c = absurd (none_in r c)
some_first (x ∷ xs) r c = refl

forbids : (w : World) (n : Node) (reason : Denial) → is_question n ≡ true → Contains (all_reasons w (asked w.nodes n)) reason → Forbids w n reason
forbids w n reason question c = (c, ap is_some (sym (first_is_verdict w n question)) ∙ some_first (all_reasons w (asked w.nodes n)) reason c)

-- ---- `never` comes of a reason that stays

unfound_other : (b c : Bool) (reason : Denial) → (if b then more else if c then none else driver) ≡ never reason → ⊥
unfound_other true c reason e = absurd cc
unfound_other false true reason e = absurd cc
unfound_other false false reason e = absurd cc

searched_other : (again : Bool) (otherwise : Answer) (o : Option Try) (reason : Denial) → (otherwise ≡ never reason → ⊥) → answer_with again otherwise o ≡ never reason → ⊥
searched_other again otherwise None reason not e = not e
searched_other again otherwise (Some (commands list)) reason not e = absurd cc
searched_other again otherwise (Some (write m)) reason not e = absurd cc

unless_never : (s : State) (most : ℕ) (q : Asked) (v reason : Denial) (final : Option Denial) → (unlock_unless s most q v final).answer ≡ never reason → final ≡ Some reason
unless_never s most q v reason (Some other) e = let same : other ≡ reason = cc in ap (λ (d : Denial). Some d) same
unless_never s most q v reason None e =
    let a = asking (nodes_of s.ifr) q.node in
    let ms = moves (nodes_of s.ifr) a in
    let again = needs_new_run s q in
    let its = made again s (question_id q.node.op) most ms in
    let reached = nat_le most (length its) in
    absurd (searched_other again (unfound s ms reached) (find (opens again s (question_id q.node.op)) its) reason (unfound_other reached (list_any (is_answered s) (longer ms [])) reason) e)

by_never : (s : State) (most : ℕ) (q : Asked) (reason : Denial) (v : Option Denial) → (unlock_by s most q v).answer ≡ never reason → final_reason s q ≡ Some reason
by_never s most q reason None e = absurd cc
by_never s most q reason (Some v) e = unless_never s most q v reason (final_reason s q) e

pub never_opens : NeverOpens
never_opens list number image language s most n reason o is question e stores =
    let ns = nodes_of s.ifr in
    let q = asked ns n in
    let accepted = o.browsable.accepted in
    let its = found_in (is_final ns n) (all_reasons (world_of s) q) reason (by_never s most q reason (fixed (world_of s) n) e) in
    let here = reason_stays s.ifr n s.removed s.removed s.working stores accepted is (λ g at constant gone. gone) reason its.1 its.0 in
    let anew = reason_stays s.ifr n s.removed (removed_at ns stores) s.working stores accepted is
    (λ g at constant gone. removed_still s.ifr s.working stores g accepted at constant (subst (λ (r : List ℕ). is_among g.place r ≡ true) o.removed gone)) reason its.1 its.0 in
    (forbids (world_with s stores) n reason question here, forbids (world_of (begun_over s stores)) n reason question anew)
