-- The questions of a package, read one after the other.
use Rattle.std.proofs.Common.{◌≡◌, ◌⊎◌, ℕ, ◌+◌, ◌<◌, ◌^◌, Bool, true, false, ◌==◌, ◌&&◌, if◌then◌else◌, Option, Some, None, List, [], ◌∷◌, ◌++◌, map, length, length-append, refl, sym, ap, ◌∙◌, inl, inr, arith}
use Rattle.std.specs.Prelude.{filter, option_map, Result, Ok, Err, MatchResult, is_some}
use Rattle.std.specs.List.{cons_option, find, filter_map, list_any}
use Rattle.std.proofs.lemmas.Bool.{cases_Bool, cond-false, cond-true}
use Rattle.std.proofs.lemmas.List.{append-nil, length-map, map-append}
use Rattle.std.proofs.lemmas.List.Elements.{filter-append}
use Rattle.hii_bytes.specs.Faults.{out_of_memory}
use Rattle.hii_bytes.specs.declared.cause.Fault.{Fault}
use Rattle.hii_bytes.specs.declared.id_table.IdEntry.{IdEntry}
use Rattle.ifr_opcodes.specs.Fields.{question_id, question_store, question_offset}
use Rattle.ifr_opcodes.specs.Forest.{Mark, Node}
use Rattle.ifr_nodes.specs.Accepted.{IsAccepted}
use Rattle.ifr_nodes.specs.code.Checked.{node_in}
use Rattle.ifr_nodes.specs.Nodes.{is_question, is_store, nodes_of, options}
use Rattle.ifr_scopes.specs.Stores.{store_id, store_size}
use Rattle.hii_varstore.specs.Layout.{Shape, size_of}
use Rattle.hii_varstore.specs.StoreNodes.{declared_buffer, layout_of}
use Rattle.hii_values.specs.Types.{is_password}
use Rattle.hii_questions.specs.Fields.{Asked, Field, asked_at, field_at, field_in, field_width, questions}
use Rattle.hii_questions.specs.Faults.{parts_of, is_known, lacks_store, is_field_outside, is_past}
use Rattle.hii_questions.specs.code.Entries.{entry_view}
use Rattle.hii_questions.specs.code.FaultTells.{TellsFault, first_part_fault, first_option_fault, reaches_past}
use Rattle.hii_questions.specs.code.Ids.{ids_from}
use Rattle.hii_questions.specs.declared.entry.QuestionEntry.{QuestionEntry}
use Rattle.hii_questions.proofs.EntryLemmas.{few_questions}
use Rattle.hii_questions.proofs.FaultLemmas.{question_told}

-- ---- a store with bytes is there

some_mapped : {X Y : Type 0} (f : X → Y) (o : Option X) → is_some (option_map f o) ≡ true → is_some o ≡ true
some_mapped f None is = is
some_mapped f (Some x) is = refl

and_none : (b : Bool) → (b && false) ≡ false
and_none true = refl
and_none false = refl

buffer_known : (stores : List Node) (id : ℕ) → is_some (find (λ b. b.id == id) (filter_map declared_buffer stores)) ≡ true → list_any (λ s. store_id s.op == id) stores ≡ true
buffer_known [] id is = is
buffer_known (s ∷ stores) id is = elim (cases_Bool (store_id s.op == id)) [
  | inl here ↦ rw here refl
  | inr other ↦ rw other (buffer_known stores id (later (store_size s.op) is other))
]
  where
    later : (size : Option ℕ) → is_some (find (λ b. b.id == id) (cons_option (option_map (λ size. record { id = store_id s.op; size = size }) size) (filter_map declared_buffer stores))) ≡ true
        → (store_id s.op == id) ≡ false → is_some (find (λ b. b.id == id) (filter_map declared_buffer stores)) ≡ true
    later None is other = is
    later (Some size) is other = rw other at is

-- a question whose store holds bytes lacks none
pub size_known : (ns : List Node) (n : Node) → is_some (size_of (layout_of ns) (question_store n.op)) ≡ true → lacks_store (is_known ns) n ≡ false
size_known ns n is = rw (buffer_known (filter is_store ns) (question_store n.op) (some_mapped _ _ is)) (and_none _)

-- nor does one that names no store
pub none_lacked : (known : ℕ → Bool) (n : Node) → question_store n.op ≡ 0 → lacks_store known n ≡ false
none_lacked known n none = rw none refl

-- ---- the first fault of a question

no_field : (f : Field) → ◌≡◌ {A = Option Field} (Some f) None → ⊥
no_field f e = cc

pub options_told : (shape : Shape) (known : ℕ → Bool) (q : Asked) (r : Result (Unit {0}) Fault) → lacks_store known q.node ≡ false → is_field_outside shape q.field ≡ false
    → TellsFault (first_option_fault q.node (options q.node)) r
    → MatchResult r (λ _. first_part_fault shape known (parts_of q) ≡ None) (λ fault. (fault ≡ out_of_memory) ⊎ (first_part_fault shape known (parts_of q) ≡ Some fault))
options_told shape known q r there inside told = go r (question_told shape known q r (rw (there, inside) refl) told)
  where
    go : (r : Result (Unit {0}) Fault) → TellsFault (first_part_fault shape known (parts_of q)) r
        → MatchResult r (λ _. first_part_fault shape known (parts_of q) ≡ None) (λ fault. (fault ≡ out_of_memory) ⊎ (first_part_fault shape known (parts_of q) ≡ Some fault))
    go (Ok done) none = none
    go (Err fault) some = inr some

-- the field of a question lies in the store that it names
stored : (f : Field) (store offset : ℕ) (held width : Option ℕ) → Some f ≡ field_in store offset held width → f.store ≡ store
stored f store offset None width e = absurd (no_field f e)
stored f store offset (Some size) None e = absurd (no_field f e)
stored f store offset (Some size) (Some width) e = elim (cases_Bool (store == 0)) [
  | inl none ↦ absurd (no_field f (rw none at e))
  | inr some ↦
      let same : Some f ≡ Some record { store = store; offset = offset; width = width } = rw some at e in
      let is : f ≡ record { store = store; offset = offset; width = width } = cc in
      ap (λ (g : Field). g.store) is
]

pub outside_is : (shape : Shape) (q : Asked) (size : Option ℕ) → size ≡ size_of shape (question_store q.node.op) → q ≡ asked_at shape q.node → reaches_past q.field size ≡ is_field_outside shape q.field
outside_is shape q size sized is = go q.field (ap (λ (a : Asked). a.field) is)
  where
    go : (field : Option Field) → field ≡ field_at shape q.node → reaches_past field size ≡ is_field_outside shape field
    go None e = refl
    go (Some f) e =
        let store = stored f (question_store q.node.op) (question_offset q.node.op) (size_of shape (question_store q.node.op)) (field_width q.node) e in
        ap (is_past f) (sized ∙ ap (size_of shape) (sym store))

-- ---- one question more

-- what the opcode of a statement tells of it
pub is_asked : (asks : Bool) (found wanted : Mark) → Some found ≡ (if asks then Some wanted else None) → (asks ≡ true) × (found ≡ wanted)
is_asked true found wanted e = (refl, cc)
is_asked false found wanted e = absurd cc

pub is_not_asked : (asks : Bool) (wanted : Mark) → ◌≡◌ {A = Option Mark} None (if asks then Some wanted else None) → asks ≡ false
is_not_asked true wanted e = absurd cc
is_not_asked false wanted e = refl

-- a statement that is a question is the first that is left
pub question_steps : (shape : Shape) (n : Node) (left rest : List Node) → is_question n ≡ true → left ≡ n ∷ rest
    → map (asked_at shape) (filter is_question left) ≡ asked_at shape n ∷ map (asked_at shape) (filter is_question rest)
question_steps shape n left rest asks steps = ap (map (asked_at shape)) (ap (filter is_question) steps ∙ cond-true (is_question n) (n ∷ filter is_question rest) (filter is_question rest) asks)

-- the number of one question more
ids_more : (k : ℕ) (qs : List Asked) (q : Asked) → ids_from k (qs ++ q ∷ []) ≡ ids_from k qs ++ record { id = question_id q.node.op; number = k + length qs } ∷ []
ids_more k [] q = ap (λ (m : ℕ). record { id = question_id q.node.op; number = m } ∷ []) (omega arith)
ids_more k (p ∷ qs) q =
    ap (λ (l : List IdEntry). record { id = question_id p.node.op; number = k } ∷ l)
    (ids_more (k + 1) qs q ∙ ap (λ (m : ℕ). ids_from (k + 1) qs ++ record { id = question_id q.node.op; number = m } ∷ []) (omega arith))

pub numbers_more : (ifr : List ℕ) (es : List QuestionEntry) (e : QuestionEntry) (n : Node) (ids : List IdEntry) (id number : ℕ) → ids ≡ ids_from 0 (map (entry_view ifr) es) → node_in ifr e.place ≡ n
    → id ≡ question_id n.op → number ≡ length es → ids ++ record { id = id; number = number } ∷ [] ≡ ids_from 0 (map (entry_view ifr) (es ++ e ∷ []))
numbers_more ifr es e n ids id number so_far here named counted =
    let count : number ≡ 0 + length (map (entry_view ifr) es) = omega (arith, counted, length-map es (entry_view ifr)) in
    let last : ◌≡◌ {A = IdEntry} (record { id = id; number = number }) (record { id = question_id (entry_view ifr e).node.op; number = 0 + length (map (entry_view ifr) es) }) =
    λ i. record { id = (named ∙ ap (λ (m : Node). question_id m.op) (sym here)) i; number = count i } in
    ap (λ (l : List IdEntry). l ++ record { id = id; number = number } ∷ []) so_far
    ∙ ap (λ (x : IdEntry). ids_from 0 (map (entry_view ifr) es) ++ x ∷ []) last
    ∙ sym (ids_more 0 (map (entry_view ifr) es) (entry_view ifr e)) ∙ ap (ids_from 0) (sym (map-append (entry_view ifr) es (e ∷ [])))

-- the questions so far are no more than all
pub few_so_far : (ifr : List ℕ) (es : List QuestionEntry) (left : List Asked) → IsAccepted ifr → map (entry_view ifr) es ++ left ≡ questions (nodes_of ifr)
    → length es < 2 ^ 32
few_so_far ifr es left accepted e = omega (arith, ap length e, length-append (map (entry_view ifr) es) left, length-map es (entry_view ifr), few_questions ifr accepted)

-- the passwords among one question more
module _ (ifr : List ℕ) (es : List QuestionEntry) (e : QuestionEntry) (n : Node) (ps : List QuestionEntry) (so_far : ps ≡ filter (λ x. is_password (node_in ifr x.place)) es) (here : node_in ifr e.place ≡ n) where
  abbrev secret : QuestionEntry → Bool
  secret x = is_password (node_in ifr x.place)

  pub secret_more : is_password n ≡ true → ps ++ e ∷ [] ≡ filter (λ x. is_password (node_in ifr x.place)) (es ++ e ∷ [])
  secret_more is =
      let last : filter secret (e ∷ []) ≡ e ∷ [] = cond-true (secret e) (e ∷ []) [] (ap is_password here ∙ is) in
      ap (λ (l : List QuestionEntry). l ++ e ∷ []) so_far ∙ ap (λ (l : List QuestionEntry). filter secret es ++ l) (sym last) ∙ sym (filter-append secret es (e ∷ []))

  pub secret_same : is_password n ≡ false → ps ≡ filter (λ x. is_password (node_in ifr x.place)) (es ++ e ∷ [])
  secret_same other =
      let last : filter secret (e ∷ []) ≡ [] = cond-false (secret e) (e ∷ []) [] (ap is_password here ∙ other) in
      so_far ∙ sym (append-nil (filter secret es)) ∙ ap (λ (l : List QuestionEntry). filter secret es ++ l) (sym last) ∙ sym (filter-append secret es (e ∷ []))
