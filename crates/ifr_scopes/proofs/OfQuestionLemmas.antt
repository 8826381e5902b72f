-- What stands in the scope of a question of an accepted package are the nodes whose innermost question has its id, where this
-- is not 0: a question may have the id 0 again.
use Rattle.std.proofs.Common.{◌≡◌, ℕ, zero, suc, Bool, true, false, Option, Some, None, List, [], ◌∷◌, ◌++◌, append_assoc, append-nil, refl, sym, ap, ◌∙◌, subst, arith, inl, inr, ◌⊎◌}
use Rattle.std.specs.Prelude.{◌==◌, ◌&&◌, ◌||◌, not, Contains, filter}
use Rattle.std.specs.List.{last_or, list_any}
use Rattle.std.proofs.Math.Bool.{and-true, or-true}
use Rattle.std.proofs.lemmas.Bool.{cases_Bool, cond-true, and_from, and_parts, eq-eqb, eqb-true, not_from_false, false≢true}
use Rattle.std.proofs.lemmas.List.Elements.{All-contains, All-contains_itself, All-filter, filter_passes, filter-append, Contains-append_left, Contains-append_right}
use Rattle.hii_bytes.specs.code.FirstFaults.{Rise}
use Rattle.hii_bytes.specs.declared.cause.Cause.TheVariants.{DuplicateQuestion}
use Rattle.ifr_opcodes.specs.Fields.{question_id}
use Rattle.ifr_opcodes.specs.Forest.{Ancestor, Node, below}
use Rattle.ifr_opcodes.specs.Opcode.{number}
use Rattle.ifr_opcodes.specs.Rows.{is_condition_number, is_question_number}
use Rattle.ifr_nodes.specs.Accepted.{IsAccepted}
use Rattle.ifr_nodes.specs.Guards.{is_guard}
use Rattle.ifr_nodes.specs.Nodes.{nodes_of, is_question, of_question, questions_among, id_or_0, this_of}
use Rattle.ifr_nodes.specs.ReferenceFaults.{Ranked, ranked, has_question_id, has_reference_fault}
use Rattle.ifr_nodes.proofs.ViewLemmas.{further}
use Rattle.ifr_index.proofs.BehindPlaceLemmas.{apart, rise_rest}
use Rattle.ifr_index.proofs.IndexLemmas.{nodes_rise}
use Rattle.ifr_index.proofs.InsideLemmas.{holder, split_node}
use Rattle.ifr_index.proofs.OptionsOfLemmas.{filters}
use Rattle.ifr_scopes.proofs.ThisLemmas.{this_below}

-- ---- lists

any_there : (p : Node → Bool) (ns : List Node) (n : Node) → Contains ns n → p n ≡ true → list_any p ns ≡ true
any_there p [] n (k, lt, e) is = absurd (omega arith)
any_there p (m ∷ ns) n (zero, lt, e) is = let same : m ≡ n = e in rw (ap p same ∙ is) refl
any_there p (m ∷ ns) n (suc k, lt, e) is = ap (λ (b : Bool). p m || b) (any_there p ns n (k, omega arith, e) is) ∙ or-true (p m)

none_passes : (p : Node → Bool) (ns : List Node) → ((n : Node) → Contains ns n → p n ≡ true → ⊥) → filter p ns ≡ []
none_passes p [] none = refl
none_passes p (n ∷ ns) none = elim (cases_Bool (p n)) [
  | inl is ↦ absurd (none n (0, omega arith, refl) is)
  | inr other ↦ rw other (none_passes p ns (λ m w. none m (further n ns m w)))
]

last_there : (found : Option Ancestor) (path : List Ancestor) (a : Ancestor) → last_or found path ≡ Some a → (found ≡ Some a) ⊎ Contains path a
last_there found [] a e = inl e
last_there found (b ∷ path) a e = elim (last_there (Some b) path a e) [
  | inl own ↦ let same : b ≡ a = cc own in inr (0, omega arith, same)
  | inr later ↦ inr (further b path a later)
]

-- the innermost question on a path
question_on : (path : List Ancestor) (a : Ancestor) → last_or None (questions_among path) ≡ Some a → Contains path a × (is_question_number (number a.op) ≡ true)
question_on path a e = elim (last_there None (questions_among path) a e) [
  | inl none ↦ absurd cc
  | inr there ↦
      let asks : Ancestor → Bool = λ b. is_question_number (number b.op) in (
        All-contains (λ (b : Ancestor). Contains path b) (filter asks path) a (All-filter asks (λ (b : Ancestor). Contains path b) path (All-contains_itself path)) there,
        All-contains (λ (b : Ancestor). asks b ≡ true) (filter asks path) a (filter_passes asks path) there,
      )
]

-- ---- no two questions have one id

-- no question among ranked nodes has the id of one before it
abbrev NoneAgain : List Node → List Node → List Node → Type 0
NoneAgain all before ns = (r : Ranked) → Contains (ranked before ns) r → has_reference_fault all r DuplicateQuestion ≡ true → ⊥

-- a question that has an id
record HasId (id : ℕ) (n : Node) : Type 0 where
  asks : is_question n ≡ true
  is : question_id n.op ≡ id

again : (all before ns : List Node) (id : ℕ) (q n : Node) → NoneAgain all before ns → (id == 0) ≡ false → HasId id q → HasId id n → Contains before q → Contains ns n → ⊥
again all before [] id q n none named h i v (k, lt, e) = omega arith
again all before (m ∷ ns) id q n none named h i v (zero, lt, e) =
    let same : m ≡ n = e in
    let one : question_id m.op ≡ id = ap (λ (p : Node). question_id p.op) same ∙ i.is in
    let earlier : list_any (has_question_id (question_id m.op)) before ≡ true =
    any_there (has_question_id (question_id m.op)) before q v (and_from (is_question q) (question_id q.op == question_id m.op) h.asks (eq-eqb (question_id q.op) (question_id m.op) (h.is ∙ sym one))) in
    none (record { before = before; node = m }) (0, omega arith, refl)
    (and_from (is_question m) _ (ap is_question same ∙ i.asks) (and_from (not (question_id m.op == 0)) _ (not_from_false (question_id m.op == 0) (ap (λ (k : ℕ). k == 0) one ∙ named)) earlier))
again all before (m ∷ ns) id q n none named h i v (suc k, lt, e) =
    again all (before ++ m ∷ []) ns id q n (λ r w. none r (further (record { before = before; node = m }) (ranked (before ++ m ∷ []) ns) r w)) named h i (Contains-append_left before (m ∷ []) q v) (k, omega arith, e)

one_id : (all before ns : List Node) (id : ℕ) (q n : Node) → NoneAgain all before ns → (id == 0) ≡ false → HasId id q → HasId id n → Contains ns q → Contains ns n → q ≡ n
one_id all before [] id q n none named h i (k, lt, e) w = absurd (omega arith)
one_id all before (m ∷ ns) id q n none named h i (zero, lt, e) (zero, lt', e') = let one : m ≡ q = e in let other : m ≡ n = e' in sym one ∙ other
one_id all before (m ∷ ns) id q n none named h i (zero, lt, e) (suc k, lt', e') =
    absurd (again all (before ++ m ∷ []) ns id q n (λ r w. none r (further (record { before = before; node = m }) (ranked (before ++ m ∷ []) ns) r w)) named h i (Contains-append_right before (m ∷ []) q (0, omega arith, e)) (k, omega arith, e'))
one_id all before (m ∷ ns) id q n none named h i (suc j, lt, e) (zero, lt', e') =
    absurd (again all (before ++ m ∷ []) ns id n q (λ r w. none r (further (record { before = before; node = m }) (ranked (before ++ m ∷ []) ns) r w)) named i h (Contains-append_right before (m ∷ []) n (0, omega arith, e')) (j, omega arith, e))
one_id all before (m ∷ ns) id q n none named h i (suc j, lt, e) (suc k, lt', e') =
    one_id all (before ++ m ∷ []) ns id q n (λ r w. none r (further (record { before = before; node = m }) (ranked (before ++ m ∷ []) ns) r w)) named h i (j, omega arith, e) (k, omega arith, e')

pub one_question : (bytes : List ℕ) (q n : Node) → IsAccepted bytes → Contains (nodes_of bytes) q → Contains (nodes_of bytes) n → is_question q ≡ true → is_question n ≡ true → question_id q.op ≡ question_id n.op → (question_id n.op == 0) ≡ false → q ≡ n
one_question bytes q n accepted v w asks also same named =
    one_id (nodes_of bytes) [] (nodes_of bytes) (question_id n.op) q n (λ r there fault. accepted.referred DuplicateQuestion r.node.place (inr (r, there, refl, fault))) named (record { asks = asks; is = same }) (record { asks = also; is = refl }) v w

-- ---- the nodes in a question's scope

-- What has the id of a question stands in its scope.
pub below_of_this : (bytes : List ℕ) (m n : Node) → IsAccepted bytes → Contains (nodes_of bytes) m → is_question m ≡ true → (question_id m.op == 0) ≡ false → Contains (nodes_of bytes) n → this_of n ≡ question_id m.op → Contains (below m) n
below_of_this bytes m n accepted within asks named there e = go (last_or None (questions_among n.path)) refl
  where
    go : (o : Option Ancestor) → last_or None (questions_among n.path) ≡ o → Contains (below m) n
    go None is = absurd (false≢true (sym named ∙ eq-eqb (question_id m.op) 0 (sym e ∙ ap id_or_0 is)))
    go (Some a) is =
        let on = question_on n.path a is in
        let h = holder bytes n a there on.0 in
        let also : is_question h.node ≡ true = ap (λ (b : Ancestor). is_question_number (number b.op)) h.is ∙ on.1 in
        let id : question_id h.node.op ≡ question_id m.op = ap (λ (b : Ancestor). question_id b.op) h.is ∙ sym (ap id_or_0 is) ∙ e in
        subst (λ (q : Node). Contains (below q) n) (one_question bytes h.node m accepted h.within within also asks id named) h.below

pub of_question_by_id : (bytes : List ℕ) (m : Node) (which : Node → Bool) → IsAccepted bytes → Contains (nodes_of bytes) m → is_question m ≡ true → (question_id m.op == 0) ≡ false
    → filter (λ n. which n && (this_of n == question_id m.op)) (nodes_of bytes) ≡ of_question which m
of_question_by_id bytes m which accepted within asks named =
    let ns = nodes_of bytes in
    let checked = accepted.checked in
    let place : Node → ℕ = λ n. n.place in
    let test : Node → Bool = λ n. which n && (this_of n == question_id m.op) in
    let split = split_node bytes m within in
    let front = split.before ++ m ∷ [] in
    let parts : ns ≡ front ++ (below m ++ split.after) = split.parts ∙ sym (append_assoc split.before (m ∷ []) (below m ++ split.after)) in
    let rise : Rise place 4 (front ++ (below m ++ split.after)) = subst (Rise place 4) parts (nodes_rise bytes checked.spelled) in
    let inner : (n : Node) → Contains (front ++ (below m ++ split.after)) n → test n ≡ true → Contains (below m) n =
    λ n w is. below_of_this bytes m n accepted within asks named (subst (λ (l : List Node). Contains l n) (sym parts) w) (eqb-true (this_of n) (question_id m.op) (and_parts (which n) (this_of n == question_id m.op) is).1) in
    let before : filter test front ≡ [] = none_passes test front (λ n w is. apart place 4 front (below m ++ split.after) n rise w
    (Contains-append_left (below m) split.after n (inner n (Contains-append_left front (below m ++ split.after) n w) is))) in
    let behind : filter test split.after ≡ [] = none_passes test split.after (λ n w is. apart place 4 (below m) split.after n (rise_rest place 4 front (below m ++ split.after) rise)
    (inner n (Contains-append_right front (below m ++ split.after) n (Contains-append_right (below m) split.after n w)) is) w) in
    let same : filter test (below m) ≡ filter which (below m) = filters test which (below m) (λ n w. ap (λ (b : Bool). which n && b) (eq-eqb (this_of n) (question_id m.op) (this_below bytes m n checked within asks w)) ∙ and-true (which n)) in
    ap (filter test) parts ∙ filter-append test front (below m ++ split.after) ∙ ap (λ (l : List Node). l ++ filter test (below m ++ split.after)) before
    ∙ filter-append test (below m) split.after ∙ ap (λ (l : List Node). filter test (below m) ++ l) behind ∙ append-nil (filter test (below m)) ∙ same
    ∙ sym (cond-true (is_question m) (filter which (below m)) [] asks)

-- Its conditions, and the guards in its scope, are those of its id.
pub conditions_by_id : (bytes : List ℕ) (m : Node) → IsAccepted bytes → Contains (nodes_of bytes) m → is_question m ≡ true → (question_id m.op == 0) ≡ false
    → filter (λ n. is_condition_number (number n.op) && (this_of n == question_id m.op)) (nodes_of bytes) ≡ of_question (λ n. is_condition_number (number n.op)) m
conditions_by_id bytes m accepted within asks named = of_question_by_id bytes m (λ n. is_condition_number (number n.op)) accepted within asks named

pub guards_by_id : (bytes : List ℕ) (m : Node) → IsAccepted bytes → Contains (nodes_of bytes) m → is_question m ≡ true → (question_id m.op == 0) ≡ false
    → filter (λ n. is_guard (number n.op) && (this_of n == question_id m.op)) (nodes_of bytes) ≡ of_question (λ n. is_guard (number n.op)) m
guards_by_id bytes m accepted within asks named = of_question_by_id bytes m (λ n. is_guard (number n.op)) accepted within asks named
