-- The statements of a form that give a default are found among the forms, statements and options behind it.
use Rattle.std.proofs.Common.{◌≡◌, ℕ, Bool, true, false, cond, nat_lt, List, [], ◌∷◌, length, map, refl, sym, ap, ◌∙◌, subst, inl, inr, arith}
use Rattle.std.specs.Prelude.{◌==◌, not, Contains, filter}
use Rattle.std.specs.List.{take_while}
use Rattle.std.proofs.lemmas.Bool.{cases_Bool, cond-true, cond-false}
use Rattle.std.proofs.lemmas.List.Elements.{All-head, All-tail}
use Rattle.std.proofs.lemmas.List.Sums.{take_while-cons}
use Rattle.hii_bytes.specs.code.FirstFaults.{Rise}
use Rattle.ifr_opcodes.specs.declared.codes.TheConstants.{FORM}
use Rattle.ifr_opcodes.specs.Forest.{Node}
use Rattle.ifr_opcodes.specs.Rows.{is_statement_number}
use Rattle.ifr_nodes.specs.Checked.{IsChecked}
use Rattle.ifr_nodes.specs.Nodes.{nodes_of}
use Rattle.ifr_nodes.specs.code.Checked.{node_in}
use Rattle.ifr_nodes.proofs.ViewLemmas.{further, node_in_place}
use Rattle.ifr_index.specs.code.Giving.{is_giving, gives_at, AreGiving}
use Rattle.ifr_index.specs.code.Index.{is_indexed}
use Rattle.ifr_index.specs.code.Tables.{IsEntry, AreEntries, kept_entry, places_of}
use Rattle.ifr_index.specs.declared.index.Entry.{Entry}
use Rattle.ifr_index.proofs.BehindPlaceLemmas.{entries_behind}
use Rattle.ifr_index.proofs.GivingFacts.{gives_states}
use Rattle.ifr_index.proofs.IndexLemmas.{nodes_rise, table_rises}
use Rattle.ifr_index.proofs.KindLemmas.{is_kept, stated}
use Rattle.ifr_index.proofs.OptionsOfLemmas.{behind_it}
use Rattle.ifr_index.proofs.PathLemmas.{kept}
use Rattle.ifr_scopes.proofs.StatementsOfLemmas.{all_behind, first_statements}

abbrev no_form : Entry → Bool
no_form one = not (one.code == FORM)

-- the nodes of those that come before the next form
abbrev pub first_giving : List ℕ → List Entry → List Node
first_giving bytes its = map (λ one. node_in bytes one.place) (filter (gives_at bytes) (take_while no_form its))

-- ---- one of them

-- The first that is left gives a default.
place_gives : (bytes : List ℕ) (its : List Entry) (place : ℕ) (places : List ℕ) → AreGiving bytes its (place ∷ places) → is_giving (node_in bytes place) ≡ true
place_gives bytes [] place places are = absurd cc
place_gives bytes (one ∷ its) place places are = elim (cases_Bool (gives_at bytes one)) [
  | inl is ↦ let same : place ≡ one.place = cc (rw is at are) in ap (λ (p : ℕ). is_giving (node_in bytes p)) same ∙ is
  | inr other ↦ place_gives bytes its place places (rw other at are)
]

pub is_there : (bytes : List ℕ) (first : Entry) (its : List Entry) (place : ℕ) (places : List ℕ) → first.place ≡ place → AreGiving bytes its (place ∷ places) → gives_at bytes first ≡ true
is_there bytes first its place places same are = ap (λ (p : ℕ). is_giving (node_in bytes p)) same ∙ place_gives bytes its place places are

-- Of another place than the first that is left is what gives none.
other_there : (bytes : List ℕ) (first : Entry) (rest : List Entry) (place : ℕ) (places : List ℕ) → (first.place ≡ place → ⊥) → AreGiving bytes (first ∷ rest) (place ∷ places) → gives_at bytes first ≡ false
other_there bytes first rest place places other are = elim (cases_Bool (gives_at bytes first)) [
  | inl is ↦ let same : place ≡ first.place = cc (rw is at are) in absurd (other (sym same))
  | inr plain ↦ plain
]

-- ---- what is left

pub left_behind : (bytes : List ℕ) (first : Entry) (its rest : List Entry) (place : ℕ) (places : List ℕ) → its ≡ first ∷ rest → first.place ≡ place → AreGiving bytes its (place ∷ places) → AreGiving bytes rest places
left_behind bytes first its rest place places e same are =
    let is = is_there bytes first its place places same are in
    let both : place ∷ places ≡ cond (gives_at bytes first) (first.place ∷ map (λ (one : Entry). one.place) (filter (gives_at bytes) rest)) (map (λ (one : Entry). one.place) (filter (gives_at bytes) rest)) = subst (λ (l : List Entry). AreGiving bytes l (place ∷ places)) e are ∙ told first rest in
    cc (both ∙ cond-true (gives_at bytes first) _ _ is)
  where
    told : (one : Entry) (its : List Entry) → map (λ (one : Entry). one.place) (filter (gives_at bytes) (one ∷ its)) ≡ cond (gives_at bytes one) (one.place ∷ map (λ (one : Entry). one.place) (filter (gives_at bytes) its)) (map (λ (one : Entry). one.place) (filter (gives_at bytes) its))
    told one its = elim (cases_Bool (gives_at bytes one)) [ inl is ↦ rw is refl | inr other ↦ rw other refl ]

pub still_giving : (bytes : List ℕ) (first : Entry) (its rest : List Entry) (place : ℕ) (places : List ℕ) → its ≡ first ∷ rest → (first.place ≡ place → ⊥) → AreGiving bytes its (place ∷ places) → AreGiving bytes rest (place ∷ places)
still_giving bytes first its rest place places e other are =
    let now : AreGiving bytes (first ∷ rest) (place ∷ places) = subst (λ (l : List Entry). AreGiving bytes l (place ∷ places)) e are in
    let plain = other_there bytes first rest place places other now in
    now ∙ rw plain refl

-- nothing, where none is left in the package
none_giving : (bytes : List ℕ) (its : List Entry) → AreGiving bytes its [] → first_giving bytes its ≡ []
none_giving bytes [] are = refl
none_giving bytes (one ∷ its) are = elim (cases_Bool (gives_at bytes one)) [
  | inl is ↦ let bad : [] ≡ one.place ∷ map (λ (e : Entry). e.place) (filter (gives_at bytes) its) = rw is at are in absurd cc
  | inr other ↦
      let later = none_giving bytes its (rw other at are) in
      ap (λ (l : List Entry). map (λ (e : Entry). node_in bytes e.place) (filter (gives_at bytes) l)) (take_while-cons no_form one its) ∙ elim (cases_Bool (no_form one)) [
        | inl on ↦ rw (on, other) later
        | inr end ↦ rw end refl
      ]
]

pub none_left : (bytes : List ℕ) (its : List Entry) (places : List ℕ) → length places ≡ 0 → AreGiving bytes its places → first_giving bytes its ≡ []
none_left bytes its [] none are = none_giving bytes its are
none_left bytes its (place ∷ places) none are = absurd (omega (arith, none))

-- or before the next form
pub form_ends : (bytes : List ℕ) (first : Entry) (its rest : List Entry) → its ≡ first ∷ rest → (first.code == FORM) ≡ true → first_giving bytes its ≡ []
form_ends bytes first its rest e form =
    ap (first_giving bytes) e ∙ ap (λ (l : List Entry). map (λ (e : Entry). node_in bytes e.place) (filter (gives_at bytes) l)) (take_while-cons no_form first rest ∙ cond-false (no_form first) _ _ (ap not form))

on_it : (bytes : List ℕ) (first : Entry) (its rest : List Entry) → its ≡ first ∷ rest → (first.code == FORM) ≡ false
    → first_giving bytes its ≡ map (λ (e : Entry). node_in bytes e.place) (filter (gives_at bytes) (first ∷ take_while no_form rest))
on_it bytes first its rest e plain =
    ap (first_giving bytes) e ∙ ap (λ (l : List Entry). map (λ (e : Entry). node_in bytes e.place) (filter (gives_at bytes) l)) (take_while-cons no_form first rest ∙ cond-true (no_form first) _ _ (ap not plain))

pub first_given : (bytes : List ℕ) (first : Entry) (its rest : List Entry) (place : ℕ) (places : List ℕ) → its ≡ first ∷ rest → (first.code == FORM) ≡ false → first.place ≡ place → AreGiving bytes its (place ∷ places)
    → first_giving bytes its ≡ node_in bytes first.place ∷ first_giving bytes rest
first_given bytes first its rest place places e plain same are =
    let is = is_there bytes first its place places same are in
    on_it bytes first its rest e plain ∙ rw is refl

pub first_passed : (bytes : List ℕ) (first : Entry) (its rest : List Entry) (place : ℕ) (places : List ℕ) → its ≡ first ∷ rest → (first.code == FORM) ≡ false → (first.place ≡ place → ⊥) → AreGiving bytes its (place ∷ places)
    → first_giving bytes its ≡ first_giving bytes rest
first_passed bytes first its rest place places e plain other are =
    let is = other_there bytes first rest place places other (subst (λ (l : List Entry). AreGiving bytes l (place ∷ places)) e are) in
    on_it bytes first its rest e plain ∙ rw is refl

-- ---- of a form

-- among the entries of nodes
giving_again : (bytes : List ℕ) (all ns : List Node) → IsChecked bytes → ((n : Node) → Contains ns n → Contains (nodes_of bytes) n)
    → places_of is_giving ns ≡ map (λ (one : Entry). one.place) (filter (gives_at bytes) (map (kept_entry all) (filter is_indexed ns)))
giving_again bytes all [] checked within = refl
giving_again bytes all (n ∷ ns) checked within =
    let later = giving_again bytes all ns checked (λ m w. within m (further n ns m w)) in
    let itself : is_giving (node_in bytes n.place) ≡ is_giving n = ap is_giving (node_in_place bytes n checked.spelled (within n (0, omega arith, refl))) in
    elim (cases_Bool (is_giving n)) [
      | inl is ↦ rw (is, is_kept n (gives_states n is), itself ∙ is) (ap (λ (l : List ℕ). n.place ∷ l) later)
      | inr other ↦ elim (cases_Bool (is_indexed n)) [
        | inl there ↦ rw (other, there, itself ∙ other) later
        | inr out ↦ rw (other, out) later
      ]
    ]

pub giving_behind : (bytes : List ℕ) (q : Node) (places : List ℕ) → IsChecked bytes → places ≡ filter (λ p. nat_lt q.place p) (places_of is_giving (nodes_of bytes)) → AreGiving bytes (all_behind bytes q) places
giving_behind bytes q places checked e =
    let behind : Node → Bool = λ n. nat_lt q.place n.place in
    e ∙ entries_behind is_giving (λ n. n.place) (λ (p : ℕ). p) (λ n. refl) q.place (nodes_of bytes)
    ∙ giving_again bytes (nodes_of bytes) (filter behind (nodes_of bytes)) checked (λ n w. kept behind (nodes_of bytes) n w)
    ∙ ap (λ (l : List Entry). map (λ (one : Entry). one.place) (filter (gives_at bytes) l)) (sym (behind_it bytes q))

-- The places of those that give rise.
pub giving_rises : (bytes : List ℕ) → IsChecked bytes → Rise (λ (p : ℕ). p) 4 (places_of is_giving (nodes_of bytes))
giving_rises bytes checked = table_rises is_giving (λ n. n.place) (λ (p : ℕ). p) (λ n. refl) 4 (nodes_of bytes) (nodes_rise bytes checked.spelled)

-- Those that come first are the statements that give.
pub giving_stated : (bytes : List ℕ) (its : List Entry) → AreEntries bytes its → first_giving bytes its ≡ filter is_giving (first_statements bytes its)
giving_stated bytes [] are = refl
giving_stated bytes (one ∷ its) are =
    let later = giving_stated bytes its (All-tail (λ e. IsEntry bytes e) one its are) in
    let shown : List Entry → List Node = λ l. map (λ (e : Entry). node_in bytes e.place) (filter (gives_at bytes) l) in
    let next = take_while-cons no_form one its in
    ap shown next ∙ among later ∙ sym (ap (λ (l : List Entry). filter is_giving (stated bytes l)) next)
  where
    coded : gives_at bytes one ≡ true → is_statement_number one.code ≡ true
    coded is = ap is_statement_number (All-head (λ e. IsEntry bytes e) one its are).code ∙ gives_states (node_in bytes one.place) is

    among : first_giving bytes its ≡ filter is_giving (first_statements bytes its)
        → map (λ (e : Entry). node_in bytes e.place) (filter (gives_at bytes) (cond (no_form one) (one ∷ take_while no_form its) [])) ≡ filter is_giving (stated bytes (cond (no_form one) (one ∷ take_while no_form its) []))
    among later = elim (cases_Bool (no_form one)) [
      | inr end ↦ rw end refl
      | inl on ↦ elim (cases_Bool (gives_at bytes one)) [
        | inl is ↦ rw (on, is, coded is, is) (ap (λ (l : List Node). node_in bytes one.place ∷ l) later)
        | inr other ↦ elim (cases_Bool (is_statement_number one.code)) [
          | inl states ↦ rw (on, other, states, other) later
          | inr plain ↦ rw (on, other, plain) later
        ]
      ]
    ]
