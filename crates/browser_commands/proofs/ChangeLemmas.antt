-- Questions whose fields hold other bytes than when they were last submitted.
use Rattle.std.proofs.Common.{Bor, ◌≡◌, ℕ, map, ◌+◌, ◌≤◌, Bool, true, false, cond, Option, Some, None, option_map, List, [], ◌∷◌, ◌++◌, length, inl, inr, refl, sym, ap, ◌∙◌, arith, append-nil, IsSome}
use Rattle.std.specs.Prelude.{◌&&◌, not, Contains, filter, slice_range, option_copied, IsSomeAnd, MatchOption}
use Rattle.std.specs.List.{flat_map}
use Rattle.std.proofs.lemmas.Bool.{and_right, cases_Bool, eqb-false}
use Rattle.std.proofs.lemmas.List.{length-map}
use Rattle.std.proofs.lemmas.Simd.{map-map}
use Rattle.std.proofs.lemmas.List.Edits.{length-between}
use Rattle.std.proofs.lemmas.List.Folds.{flat_map-map}
use Rattle.std.proofs.lemmas.Slice.Eq.{bytes_eq-Decides}
use Rattle.hii_bytes.specs.Faults.{HasNone}
use Rattle.ifr_opcodes.specs.Fields.{question_id}
use Rattle.ifr_opcodes.specs.Forest.{Node}
use Rattle.ifr_nodes.specs.Nodes.{nodes_of, is_question}
use Rattle.ifr_nodes.proofs.ViewLemmas.{further}
use Rattle.hii_varstore.specs.Stores.{StoreMap, are_same_bytes, shape_of, bytes_of, bytes_of_field}
use Rattle.hii_varstore.specs.code.Ranges.{HasRange, IsCut}
use Rattle.hii_varstore.proofs.WriteLemmas.{sizes}
use Rattle.hii_varstore.specs.StoreNodes.{layout_of}
use Rattle.hii_questions.specs.Changes.{field_bytes, holds_others}
use Rattle.hii_questions.specs.Fields.{Field, Asked, asked, field_of, questions}
use Rattle.hii_questions.specs.Faults.{IsQuestionFault}
use Rattle.hii_questions.specs.code.Ids.{ids_of}
use Rattle.hii_questions.specs.code.LyingIn.{LiesIn, LieIn}
use Rattle.hii_questions.proofs.LawLemmas.{holds_fields}
use Rattle.session_steps.specs.State.{State}
use Rattle.session_steps.specs.Opening.{layout_in, IsBrowsable}
use Rattle.session_steps.specs.Step.{is_other, is_changed, changed, commit}
use Rattle.session_steps.specs.Texts.{count_text, changed_text}

-- no byte of a range that lies in the bytes is cut off
uncut : (bytes : Option (List ℕ)) (offset width : ℕ) → IsSomeAnd (option_map length bytes) (λ size. offset + width ≤ size)
    → IsCut width (option_map (λ (bs : List ℕ). slice_range bs offset (offset + width)) bytes) → ⊥
uncut None offset width range cut = absurd range
uncut (Some bs) offset width range cut = eqb-false _ _ cut (length-between bs offset (offset + width) range ∙ omega arith)

pub uncut_range : (m : StoreMap) (id offset width : ℕ) → HasRange (shape_of m) id offset width → IsCut width (bytes_of_field m id offset width) → ⊥
uncut_range m id offset width range = uncut (bytes_of m id) offset width (rw (sizes m id) at range)

-- what is found of a range that a store has
pub is_there : (m : StoreMap) (id offset at width : ℕ) (found : Option (Bor (List ℕ))) → HasRange (shape_of m) id offset width → at ≡ offset
    → MatchOption found (IsCut width (bytes_of_field m id at width)) (λ bytes. (bytes_of_field m id at width ≡ Some bytes.now) × (length bytes.now ≡ width)) → IsSome found
is_there m id offset at width None range same told = absurd (uncut_range m id offset width range (rw same at told))
is_there m id offset at width (Some bytes) range same told = refl

-- the bytes of a question's field are in its store
pub in_store : (m : StoreMap) (q : Asked) (field : Field) → LiesIn (shape_of m) q → q.field ≡ Some field → IsCut field.width (bytes_of_field m field.store field.offset field.width) → ⊥
in_store m q field lies has = uncut_range m field.store field.offset field.width (lies field has)

-- what is found of the field of a question are its bytes
pub whole_field : (m : StoreMap) (q : Asked) (field : Field) (offset : ℕ) (found : Option (Bor (List ℕ))) → LiesIn (shape_of m) q → q.field ≡ Some field → offset ≡ field.offset
    → MatchOption found (IsCut field.width (bytes_of_field m field.store offset field.width)) (λ bytes. (bytes_of_field m field.store offset field.width ≡ Some bytes.now) × (length bytes.now ≡ field.width))
    → option_copied found ≡ field_bytes m q.field
whole_field m q field offset None lies has same told = absurd (in_store m q field lies has (rw same at told))
whole_field m q field offset (Some bytes) lies has same told = rw has (sym (rw same at told.0))

-- ---- all questions

lie_among : (all ns : List Node) → HasNone (IsQuestionFault all) → ((n : Node) → Contains ns n → Contains all n) → LieIn (layout_of all) (map (asked all) (filter is_question ns))
lie_among all [] none within = tt
lie_among all (n ∷ ns) none within = elim (cases_Bool (is_question n)) [
  | inl is ↦ rw is ((λ field e. holds_fields all n field none (within n (0, omega arith, refl)) is e), lie_among all ns none (λ m c. within m (further n ns m c)))
  | inr other ↦ rw other (lie_among all ns none (λ m c. within m (further n ns m c)))
]

-- the field of each question lies in its store
pub fields_lie : (ifr : List ℕ) → IsBrowsable ifr → LieIn (layout_in ifr) (questions (nodes_of ifr))
fields_lie ifr b = lie_among (nodes_of ifr) (nodes_of ifr) b.questions (λ n c. c)

-- the field of a question holds other bytes than when it was last submitted
abbrev pub is_other_field : State → Asked → Bool
is_other_field s q = holds_others s.committed s.working q

pick : (b : Bool) (q : Asked) (qs : List Asked) (ns : List Node) → map (λ q. q.node) qs ≡ ns → map (λ q. q.node) (cond b (q ∷ qs) qs) ≡ cond b (q.node ∷ ns) ns
pick true q qs ns e = ap (λ (l : List Node). q.node ∷ l) e
pick false q qs ns e = e

one_more : (s : State) (n : Node) (ns : List Node) (asks : Bool)
    → map (λ q. q.node) (filter (is_other_field s) (map (asked (nodes_of s.ifr)) (filter is_question ns))) ≡ filter (is_changed s) ns
    → map (λ q. q.node) (filter (is_other_field s) (map (asked (nodes_of s.ifr)) (cond asks (n ∷ filter is_question ns) (filter is_question ns)))) ≡ cond (asks && is_other s n) (n ∷ filter (is_changed s) ns) (filter (is_changed s) ns)
one_more s n ns true e = pick (is_other s n) (asked (nodes_of s.ifr) n) (filter (is_other_field s) (map (asked (nodes_of s.ifr)) (filter is_question ns))) (filter (is_changed s) ns) e
one_more s n ns false e = e

-- the questions whose fields do are the changed ones
others : (s : State) (ns : List Node) → map (λ q. q.node) (filter (is_other_field s) (map (asked (nodes_of s.ifr)) (filter is_question ns))) ≡ filter (is_changed s) ns
others s [] = refl
others s (n ∷ ns) = one_more s n ns (is_question n) (others s ns)

pub changed_is : (s : State) → map (λ q. q.node) (filter (is_other_field s) (questions (nodes_of s.ifr))) ≡ changed s
changed_is s = others s (nodes_of s.ifr)

-- ---- their texts

-- the ids of the questions that have changed
changed_ids : (s : State) → ids_of (filter (is_other_field s) (questions (nodes_of s.ifr))) ≡ map (λ n. question_id n.op) (changed s)
changed_ids s =
    sym (map-map (λ (n : Node). question_id n.op) (λ (q : Asked). q.node) (filter (is_other_field s) (questions (nodes_of s.ifr))))
    ∙ ap (map (λ (n : Node). question_id n.op)) (changed_is s)

-- how many they are, and a line for each
pub told : (s : State) (ids : List ℕ) → ids ≡ ids_of (filter (is_other_field s) (questions (nodes_of s.ifr))) → count_text (length ids) ++ flat_map changed_text ids ≡ (commit s).text
told s ids are =
    let id : Node → ℕ = λ n. question_id n.op in
    ap (λ (l : List ℕ). count_text (length l) ++ flat_map changed_text l) (are ∙ changed_ids s)
    ∙ ap (λ (n : ℕ). count_text n ++ flat_map changed_text (map id (changed s))) (length-map (changed s) id)
    ∙ ap (λ (l : List ℕ). count_text (length (changed s)) ++ l) (flat_map-map changed_text id (changed s))

-- ---- where the stores are those that were last submitted

same_bytes : (bytes : Option (List ℕ)) → are_same_bytes bytes bytes ≡ true
same_bytes None = refl
same_bytes (Some bytes) = (bytes_eq-Decides bytes bytes).1 refl

unchanged : (s : State) → s.committed ≡ s.working → (n : Node) → is_changed s n ≡ false
unchanged s same n =
    let field = field_of (nodes_of s.ifr) n in
    and_right (is_question n) (is_other s n) (ap (λ (m : StoreMap). not (are_same_bytes (field_bytes m field) (field_bytes s.working field))) same ∙ ap not (same_bytes (field_bytes s.working field)))

none_passes : (p : Node → Bool) (ns : List Node) → ((n : Node) → p n ≡ false) → filter p ns ≡ []
none_passes p [] none = refl
none_passes p (n ∷ ns) none = rw (none n) (none_passes p ns none)

-- no question has changed, so a submit tells none, and leaves the state
pub none_told : (s : State) → s.committed ≡ s.working → count_text 0 ≡ (commit s).text
none_told s same = rw (none_passes (is_changed s) (nodes_of s.ifr) (unchanged s same)) (sym (append-nil (count_text 0)))

pub nothing_submitted : (s : State) → s.committed ≡ s.working → s ≡ (commit s).state
nothing_submitted s same = ap (λ (m : StoreMap). record s { committed = m }) same
