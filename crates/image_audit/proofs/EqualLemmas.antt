-- Nothing is told of equal stores, and of no others.
use Rattle.std.proofs.Common.{◌≡◌, ◌∙◌, ◌+◌, ◌==◌, ◌&&◌, not, ◌++◌, ◌∷◌, ℕ, Bool, true, false, List, [], Option, None, Some, nat_eq, map, length, ap, ap₂, arith, refl, sym, inl, inr, subst, option_map}
use Rattle.std.specs.Prelude.{filter}
use Rattle.std.specs.Cmp.Lexicographic.{pointwise}
use Rattle.std.specs.List.{AllByRecursion, IsDistinct, filter_map, find, flat_map}
use Rattle.std.proofs.lemmas.Bool.{cases_Bool, eq-eqb, eqb-true}
use Rattle.ifr_opcodes.specs.Forest.{Node}
use Rattle.ifr_nodes.specs.Nodes.{is_store}
use Rattle.ifr_scopes.specs.Stores.{store_id, store_size}
use Rattle.hii_varstore.specs.Layout.{Shape, size_of}
use Rattle.hii_varstore.specs.StoreNodes.{IsStoreFault, declared_buffer, layout_of}
use Rattle.hii_varstore.specs.Stores.{Store, StoreMap, are_same_bytes, buffer_of, bytes_of, shape_of}
use Rattle.hii_varstore.proofs.WriteLemmas.{sizes}
use Rattle.hii_varstore.specs.declared.buffer.Buffer.{Buffer}
use Rattle.hii_values.specs.Denials.{kind_name}
use Rattle.hii_questions.specs.Changes.{field_bytes, holds_others}
use Rattle.hii_questions.specs.Fields.{Asked, questions}
use Rattle.guard_policy.specs.Policy.{fixed}
use Rattle.guard_policy.specs.declared.denial.Denial.{Denial}
use Rattle.hii_bytes.specs.Faults.{HasNone}
use Rattle.question_audit.specs.Audited.{Audited}
use Rattle.image_audit.proofs.DistinctLemmas.{stores_differ}
use Rattle.audit_json.specs.declared.telling.Telling.TheVariants.{Lines, Objects}
use Rattle.audit_json.specs.declared.telling.Telling.{Telling}
use Rattle.question_audit.specs.QuestionLines.{word_where}
use Rattle.image_audit.specs.Difference.{are_other_verdicts, bytes_told, decides_otherwise, difference_told, gaps_told, held_runs, run_told, runs_told, value_told_as, values_told, verdicts_told}

front_nil : (xs ys : List ℕ) → xs ++ ys ≡ [] → xs ≡ []
front_nil [] ys none = refl
front_nil (x ∷ xs) ys none = absurd cc

behind_nil : (xs ys : List ℕ) → xs ++ ys ≡ [] → ys ≡ []
behind_nil [] ys none = none
behind_nil (x ∷ xs) ys none = absurd cc

-- ---- runs

some_told : (telling : Telling) (ns : List Node) (store at : ℕ) (xs ys rest : List ℕ) → run_told telling ns store at xs ys ++ rest ≡ [] → ⊥
some_told Lines ns store at xs ys rest none = let bad = none in absurd cc
some_told Objects ns store at xs ys rest none = let bad = none in absurd cc

module _ (telling : Telling) (ns : List Node) (store : ℕ) where
  same_runs : (inside : Bool) (at : ℕ) (xs : List ℕ) → runs_told telling ns store inside at xs xs ≡ []
  same_runs inside at [] = refl
  same_runs inside at (x ∷ xs) = let e : (x == x) ≡ true = eq-eqb x x refl in rw e (same_runs false (at + 1) xs)

  some_run : (at : ℕ) (xs ys rest : List ℕ) → run_told telling ns store at xs ys ++ rest ≡ [] → ⊥
  some_run at xs ys rest none = some_told telling ns store at xs ys rest none

  no_runs : (at : ℕ) (xs ys : List ℕ) → length xs ≡ length ys → runs_told telling ns store false at xs ys ≡ [] → xs ≡ ys
  no_runs at [] [] size none = refl
  no_runs at [] (y ∷ ys) size none = absurd (omega (arith, size))
  no_runs at (x ∷ xs) [] size none = absurd (omega (arith, size))
  no_runs at (x ∷ xs) (y ∷ ys) size none = elim (cases_Bool (x == y)) [
    | inl e ↦ ap₂ (λ (h : ℕ) (t : List ℕ). h ∷ t) (eqb-true x y e) (no_runs (at + 1) xs ys (omega (arith, size)) (rw e at none))
    | inr e ↦
        let first = run_told telling ns store at (x ∷ xs) (y ∷ ys) in
        let some = subst (λ (b : Bool). word_where (not b && not false) first ++ runs_told telling ns store (not b) (at + 1) xs ys ≡ []) e none in
        absurd (some_run at (x ∷ xs) (y ∷ ys) (runs_told telling ns store true (at + 1) xs ys) some)
  ]

  same_held : (held : Option (List ℕ)) → held_runs telling ns store held held ≡ []
  same_held None = refl
  same_held (Some xs) = same_runs false 0 xs

same_bytes_text : (telling : Telling) (ns all : List Node) (m : StoreMap) → flat_map (λ n. held_runs telling all (store_id n.op) (bytes_of m (store_id n.op)) (bytes_of m (store_id n.op))) ns ≡ []
same_bytes_text telling [] all m = refl
same_bytes_text telling (n ∷ ns) all m = rw (same_held telling all (store_id n.op) (bytes_of m (store_id n.op))) (same_bytes_text telling ns all m)

-- ---- tests

none_pass : {X : Type 0} (test : X → Bool) → ((x : X) → test x ≡ false) → (xs : List X) → filter test xs ≡ []
none_pass test fails [] = refl
none_pass test fails (x ∷ xs) = rw (fails x) (none_pass test fails xs)

same_list : (xs : List ℕ) → pointwise nat_eq xs xs ≡ true
same_list [] = refl
same_list (x ∷ xs) = rw (eq-eqb x x refl) (same_list xs)

same_is : (held : Option (List ℕ)) → are_same_bytes held held ≡ true
same_is None = refl
same_is (Some xs) = same_list xs

same_verdict : (denied : Option Denial) → are_other_verdicts denied denied ≡ false
same_verdict None = refl
same_verdict (Some denial) = rw (same_list (kind_name denial.kind), eq-eqb denial.place denial.place refl) refl

-- of each question that differs there is a line
no_values : (telling : Telling) (a b : Audited) (qs : List Asked) → flat_map (value_told_as telling a b) qs ≡ [] → qs ≡ []
no_values telling a b [] none = refl
no_values Lines a b (q ∷ qs) none = let bad = none in absurd cc
no_values Objects a b (q ∷ qs) none = let bad = none in absurd cc

pub same_told : (telling : Telling) (a : Audited) → difference_told telling a a ≡ []
same_told telling a =
    let qs = questions a.world.nodes in
    let values : filter (holds_others a.stores a.stores) qs ≡ [] = none_pass (holds_others a.stores a.stores) (λ q. ap not (same_is (field_bytes a.stores q.field))) qs in
    let verdicts : filter (decides_otherwise a a) qs ≡ [] = none_pass (decides_otherwise a a) (λ q. same_verdict (fixed a.world q.node)) qs in
    rw (values, verdicts, same_bytes_text telling (filter is_store a.world.nodes) a.world.nodes a.stores) refl

-- ---- stores

module _ (telling : Telling) (all : List Node) (one other : StoreMap) where
  abbrev line : Node → List ℕ
  line n = held_runs telling all (store_id n.op) (bytes_of one (store_id n.op)) (bytes_of other (store_id n.op))

  -- no line is told of a store that holds bytes
  none_of_buffer : (ns : List Node) → flat_map line ns ≡ [] → (id : ℕ) (b : Buffer) → find (λ (b : Buffer). b.id == id) (filter_map declared_buffer ns) ≡ Some b
      → held_runs telling all id (bytes_of one id) (bytes_of other id) ≡ []
  none_of_buffer [] none id b found = let bad : ◌≡◌ {A = Option Buffer} None (Some b) = found in cc
  none_of_buffer (n ∷ ns) none id b found = go (none_of_buffer ns (behind_nil (line n) (flat_map line ns) none) id b) (store_size n.op) refl
    where
      go : (find (λ (b : Buffer). b.id == id) (filter_map declared_buffer ns) ≡ Some b → held_runs telling all id (bytes_of one id) (bytes_of other id) ≡ []) → (size : Option ℕ) → store_size n.op ≡ size
          → held_runs telling all id (bytes_of one id) (bytes_of other id) ≡ []
      go later None e = later (rw e at found)
      go later (Some size) e = elim (cases_Bool (store_id n.op == id)) [
        | inl same ↦ subst (λ (i : ℕ). held_runs telling all i (bytes_of one i) (bytes_of other i) ≡ []) (eqb-true (store_id n.op) id same) (front_nil (line n) (flat_map line ns) none)
        | inr apart ↦ later (rw (e, apart) at found)
      ]

-- stores of one layout that differ in no byte hold the same
same_held_bytes : (telling : Telling) (ns : List Node) (one other : StoreMap) → shape_of one ≡ layout_of ns → shape_of other ≡ layout_of ns → bytes_told telling ns one other ≡ [] → (id : ℕ) → bytes_of one id ≡ bytes_of other id
same_held_bytes telling ns one other laid other_laid none id = go (bytes_of one id) (bytes_of other id) refl refl
  where
    size : size_of (layout_of ns) id ≡ option_map (λ (bytes : List ℕ). length bytes) (bytes_of one id)
    size = ap (λ (shape : Shape). size_of shape id) (sym laid) ∙ sizes one id

    other_size : size_of (layout_of ns) id ≡ option_map (λ (bytes : List ℕ). length bytes) (bytes_of other id)
    other_size = ap (λ (shape : Shape). size_of shape id) (sym other_laid) ∙ sizes other id

    there : (xs ys : List ℕ) → bytes_of one id ≡ Some xs → bytes_of other id ≡ Some ys → length xs ≡ length ys → (found : Option Buffer)
        → find (λ (b : Buffer). b.id == id) (layout_of ns).buffers ≡ found → option_map (λ (b : Buffer). b.size) found ≡ Some (length xs) → xs ≡ ys
    there xs ys here now as_long None is has = let bad : ◌≡◌ {A = Option ℕ} None (Some (length xs)) = has in cc
    there xs ys here now as_long (Some b) is has =
        no_runs telling ns id 0 xs ys as_long (rw (here, now) at (none_of_buffer telling ns one other (filter is_store ns) none id b is))

    go : (x y : Option (List ℕ)) → bytes_of one id ≡ x → bytes_of other id ≡ y → bytes_of one id ≡ bytes_of other id
    go None None here now = here ∙ sym now
    go None (Some ys) here now = let bad : ◌≡◌ {A = Option ℕ} None (Some (length ys)) = sym (rw here at size) ∙ (rw now at other_size) in cc
    go (Some xs) None here now = let bad : ◌≡◌ {A = Option ℕ} None (Some (length xs)) = sym (rw now at other_size) ∙ (rw here at size) in cc
    go (Some xs) (Some ys) here now =
        let a : size_of (layout_of ns) id ≡ Some (length xs) = rw here at size in
        let b : size_of (layout_of ns) id ≡ Some (length ys) = rw now at other_size in
        let both : Some (length xs) ≡ Some (length ys) = sym a ∙ b in
        let as_long : length xs ≡ length ys = cc in
        here ∙ ap (λ (l : List ℕ). Some l) (there xs ys here now as_long (find (λ (b : Buffer). b.id == id) (layout_of ns).buffers) refl a) ∙ sym now

-- so do lists of stores with different ids
abbrev held_in : List Store → ℕ → Option (List ℕ)
held_in ss id = option_map (λ (s : Store). s.bytes) (find (λ (s : Store). s.id == id) ss)

none_later : (ss : List Store) (i : ℕ) → AllByRecursion (λ y. nat_eq i y ≡ false) (map (λ (b : Buffer). b.id) (map buffer_of ss)) → held_in ss i ≡ None
none_later [] i apart = refl
none_later (s ∷ ss) i apart =
    let other : (s.id == i) ≡ false = elim (cases_Bool (s.id == i)) [
      | inl same ↦ let bad : true ≡ false = sym (eq-eqb i s.id (sym (eqb-true s.id i same))) ∙ apart.0 in cc
      | inr e ↦ e
    ] in
    rw other (none_later ss i apart.1)

same_stores : (ss ts : List Store) → map buffer_of ss ≡ map buffer_of ts → IsDistinct nat_eq (map (λ (b : Buffer). b.id) (map buffer_of ss)) → ((id : ℕ) → held_in ss id ≡ held_in ts id) → ss ≡ ts
unfolding IsDistinct
same_stores [] [] laid apart same = refl
same_stores [] (t ∷ ts) laid apart same = absurd cc
same_stores (s ∷ ss) [] laid apart same = absurd cc
same_stores (s ∷ ss) (t ∷ ts) laid apart same =
    let first : buffer_of s ≡ buffer_of t = cc in
    let later : map buffer_of ss ≡ map buffer_of ts = cc in
    let ids : s.id ≡ t.id = ap (λ (b : Buffer). b.id) first in
    let here : held_in (s ∷ ss) s.id ≡ Some s.bytes = rw (eq-eqb s.id s.id refl) refl in
    let there : held_in (t ∷ ts) s.id ≡ Some t.bytes = rw (eq-eqb t.id s.id (sym ids)) refl in
    let both : Some s.bytes ≡ Some t.bytes = sym here ∙ same s.id ∙ there in
    let bytes : s.bytes ≡ t.bytes = cc in
    let none = none_later ss s.id apart.0 in
    let none_there = none_later ts s.id (subst (λ (bs : List Buffer). AllByRecursion (λ y. nat_eq s.id y ≡ false) (map (λ (b : Buffer). b.id) bs)) later apart.0) in
    let rest : (id : ℕ) → held_in ss id ≡ held_in ts id = λ id. elim (cases_Bool (s.id == id)) [
      | inl e ↦ subst (λ (i : ℕ). held_in ss i ≡ held_in ts i) (eqb-true s.id id e) (none ∙ sym none_there)
      | inr e ↦ let f : (t.id == id) ≡ false = ap (λ (i : ℕ). i == id) (sym ids) ∙ e in rw (e, f) at (same id)
    ] in
    ap₂ (λ (x : Store) (xs : List Store). x ∷ xs) (ap₂ (λ (i : ℕ) (b : List ℕ). record { id = i; bytes = b }) ids bytes) (same_stores ss ts later apart.1 rest)

pub told_same : (telling : Telling) (a b : Audited) → shape_of a.stores ≡ layout_of a.world.nodes → shape_of b.stores ≡ layout_of a.world.nodes → HasNone (IsStoreFault a.world.nodes)
    → difference_told telling a b ≡ [] → a.stores ≡ b.stores
told_same telling a b laid other_laid apart none =
    let ns = a.world.nodes in
    let qs = questions ns in
    let front = front_nil (values_told telling a b ++ gaps_told telling ns a.stores b.stores) (verdicts_told telling a b) none in
    let values = no_values telling a b (filter (holds_others a.stores b.stores) qs) (front_nil (values_told telling a b) (gaps_told telling ns a.stores b.stores) front) in
    let gaps = rw values at (behind_nil (values_told telling a b) (gaps_told telling ns a.stores b.stores) front) in
    let held = same_held_bytes telling ns a.stores b.stores laid other_laid gaps in
    let shapes = laid ∙ sym other_laid in
    let distinct = stores_differ ns apart in
    let stores = same_stores a.stores.stores b.stores.stores (ap (λ (s : Shape). s.buffers) shapes)
    (subst (λ (s : Shape). IsDistinct nat_eq (map (λ (b : Buffer). b.id) s.buffers)) (sym laid) distinct) held in
    ap₂ (λ (g : List ℕ) (ss : List Store). record { guid = g; stores = ss }) (ap (λ (s : Shape). s.guid) shapes) stores
