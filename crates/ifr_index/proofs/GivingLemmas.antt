-- The statements that give a default are found node by node.
use Rattle.std.proofs.Common.{◌≡◌, ℕ, ◌+◌, Bool, true, false, cond, nat_lt, Option, Some, None, List, [], ◌∷◌, ◌++◌, append_assoc, append-nil, refl, sym, ap, ◌∙◌, subst, inl, inr, arith}
use Rattle.std.specs.Prelude.{◌||◌, ◌&&◌, Contains, filter}
use Rattle.std.specs.List.{list_any}
use Rattle.std.proofs.lemmas.Bool.{cases_Bool, lt-ltb, false≢true}
use Rattle.std.proofs.lemmas.List.Elements.{Contains-append_cases, Contains-append_right}
use Rattle.hii_bytes.specs.code.FirstFaults.{Rise}
use Rattle.ifr_opcodes.specs.Opcode.{number}
use Rattle.ifr_opcodes.specs.Forest.{Node, below}
use Rattle.ifr_opcodes.proofs.StatementLemmas.{question_is_statement}
use Rattle.ifr_nodes.specs.Checked.{IsChecked}
use Rattle.ifr_nodes.specs.Nodes.{nodes_of, is_question, is_statement}
use Rattle.ifr_nodes.proofs.ViewLemmas.{further}
use Rattle.ifr_index.specs.code.Giving.{gives_default, is_giving, added, added_by, last_behind}
use Rattle.ifr_index.specs.code.Tables.{places_of}
use Rattle.ifr_index.proofs.BehindPlaceLemmas.{HasBefore, apart, behind_one, none_before, past, rise_rest}
use Rattle.ifr_index.proofs.GivingFacts.{giving_question}
use Rattle.ifr_index.proofs.IndexLemmas.{nodes_rise}
use Rattle.ifr_index.proofs.InsideLemmas.{behind_node}
use Rattle.ifr_index.proofs.OptionFacts.{behind_question, not_below, question_there}
use Rattle.ifr_index.proofs.OptionsOfLemmas.{is_after, passes}

-- ---- what gives a default before the next statement

abbrev opens : List Node → Bool
opens [] = false
opens (n ∷ ns) = cond (is_statement n) false (gives_default n || opens ns)

-- where a statement stands before each that gives one, none does so before the next statement
none_opens : (low : ℕ) (ns : List Node) → Rise (λ (n : Node). n.place) low ns → ((n : Node) → Contains ns n → gives_default n ≡ true → is_statement n ≡ false → HasBefore is_statement ns n) → opens ns ≡ false
none_opens low [] r before = refl
none_opens low (n ∷ ns) r before = elim (cases_Bool (is_statement n)) [
  | inl states ↦ rw states refl
  | inr plain ↦ elim (cases_Bool (gives_default n)) [
    | inl gave ↦ absurd (none_before is_statement low n ns r (before n (0, omega arith, refl) gave plain))
    | inr other ↦ rw (plain, other) (none_opens (n.place + 1) ns r.1 (λ m w gave unstated. past is_statement n m ns plain (before m (further n ns m w) gave unstated)))
  ]
]

-- no statement is among the first
opens_through : (its others : List Node) → ((n : Node) → Contains its n → is_statement n ≡ false) → opens others ≡ false → opens (its ++ others) ≡ list_any gives_default its
opens_through [] others plain none = none
opens_through (n ∷ its) others plain none =
    rw (plain n (0, omega arith, refl)) (ap (λ (b : Bool). gives_default n || b) (opens_through its others (λ m w. plain m (further n its m w)) none))

-- ---- behind a statement

opens_question : (bytes : List ℕ) (q : Node) → IsChecked bytes → Contains (nodes_of bytes) q → is_question q ≡ true → opens (filter (λ m. nat_lt q.place m.place) (nodes_of bytes)) ≡ list_any gives_default (below q)
opens_question bytes q checked within asks =
    let ns = nodes_of bytes in
    let place : Node → ℕ = λ m. m.place in
    let b = behind_node bytes q checked.spelled within in
    let states : is_statement q ≡ true = question_is_statement (number q.op) asks in
    let before : (n : Node) → Contains b.others n → gives_default n ≡ true → is_statement n ≡ false → HasBefore is_statement b.others n = λ n w gave plain.
    let after = is_after bytes q n (subst (λ (l : List Node). Contains l n) (sym b.parts) (Contains-append_right (below q) b.others n w)) in
    let h = giving_question bytes n checked after.within gave plain in
    elim (question_there bytes q n checked within states after.less h) [
      | inl itself ↦ absurd (apart place _ (below q) b.others n b.rise (subst (λ (m : Node). Contains (below m) n) itself h.below) w)
      | inr behind ↦
          let there : Contains (below q ++ b.others) h.question = subst (λ (l : List Node). Contains l h.question) b.parts (passes (λ m. nat_lt q.place m.place) ns h.question h.within (lt-ltb q.place h.question.place behind)) in
          let stated : is_statement h.question ≡ true = question_is_statement (number h.question.op) h.asks in
          elim (Contains-append_cases (below q) b.others h.question there) [
            | inl inner ↦ absurd (not_below bytes q h.question checked within asks stated inner)
            | inr v ↦ record { other = h.question; within = v; is = stated; less = behind_question bytes n checked h }
          ]
    ] in
    let none : opens b.others ≡ false = none_opens _ b.others (rise_rest place _ (below q) b.others b.rise) before in
    ap opens b.parts ∙ opens_through (below q) b.others (λ n w. elim (cases_Bool (is_statement n)) [
      | inl stated ↦ absurd (not_below bytes q n checked within asks stated w)
      | inr plain ↦ plain
    ]) none

opens_other : (bytes : List ℕ) (m : Node) → IsChecked bytes → Contains (nodes_of bytes) m → is_statement m ≡ true → is_question m ≡ false → opens (filter (λ p. nat_lt m.place p.place) (nodes_of bytes)) ≡ false
opens_other bytes m checked within states other =
    let ns = nodes_of bytes in
    let b = behind_node bytes m checked.spelled within in
    let all = below m ++ b.others in
    let before : (n : Node) → Contains all n → gives_default n ≡ true → is_statement n ≡ false → HasBefore is_statement all n = λ n w gave plain.
    let after = is_after bytes m n (subst (λ (l : List Node). Contains l n) (sym b.parts) w) in
    let h = giving_question bytes n checked after.within gave plain in
    elim (question_there bytes m n checked within states after.less h) [
      | inl itself ↦ absurd (false≢true (sym other ∙ ap is_question (sym itself) ∙ h.asks))
      | inr behind ↦ record {
        other = h.question;
        within = subst (λ (l : List Node). Contains l h.question) b.parts (passes (λ p. nat_lt m.place p.place) ns h.question h.within (lt-ltb m.place h.question.place behind));
        is = question_is_statement (number h.question.op) h.asks;
        less = behind_question bytes n checked h;
      }
    ] in
    ap opens b.parts ∙ none_opens _ all b.rise before

-- whether a statement gives one, as far as the nodes behind it tell
gives_is : (bytes : List ℕ) (n : Node) → IsChecked bytes → Contains (nodes_of bytes) n → (is_statement n && (gives_default n || opens (filter (λ m. nat_lt n.place m.place) (nodes_of bytes)))) ≡ is_giving n
unfolding is_giving
gives_is bytes n checked within = elim (cases_Bool (is_statement n)) [
  | inl states ↦ elim (cases_Bool (is_question n)) [
    | inl asks ↦ rw (states, asks) (ap (λ (b : Bool). gives_default n || b) (opens_question bytes n checked within asks))
    | inr other ↦ rw (states, other) (ap (λ (b : Bool). gives_default n || b) (opens_other bytes n checked within states other))
  ]
  | inr plain ↦ rw plain refl
]

-- ---- what is added

-- the place of a statement that waits
waits : (q : ℕ) (ns : List Node) → added_by (Some q) ns ≡ cond (opens ns) (q ∷ []) [] ++ added_by None ns
unfolding added_by
waits q [] = refl
waits q (n ∷ ns) = elim (cases_Bool (is_statement n)) [
  | inl states ↦ rw states refl
  | inr plain ↦ elim (cases_Bool (gives_default n)) [
    | inl gave ↦ rw (plain, gave) refl
    | inr other ↦ rw (plain, other) (waits q ns)
  ]
]

first_added : (n : Node) (ns : List Node) → added_by None (n ∷ ns) ≡ cond (is_statement n && (gives_default n || opens ns)) (n.place ∷ []) [] ++ added_by None ns
unfolding added_by
first_added n ns = elim (cases_Bool (is_statement n)) [
  | inl states ↦ elim (cases_Bool (gives_default n)) [
    | inl gave ↦ rw (states, gave) refl
    | inr other ↦ rw (states, other) (waits n.place ns)
  ]
  | inr plain ↦ elim (cases_Bool (gives_default n)) [
    | inl gave ↦ rw (plain, gave) refl
    | inr other ↦ rw (plain, other) refl
  ]
]

added_from : (bytes : List ℕ) (before ns : List Node) → IsChecked bytes → nodes_of bytes ≡ before ++ ns → added_by None ns ≡ places_of is_giving ns
unfolding added_by
added_from bytes before [] checked e = refl
added_from bytes before (n ∷ ns) checked e =
    let place : Node → ℕ = λ m. m.place in
    let within : Contains (nodes_of bytes) n = subst (λ (l : List Node). Contains l n) (sym e) (Contains-append_right before (n ∷ ns) n (0, omega arith, refl)) in
    let rise = subst (Rise place 4) e (nodes_rise bytes checked.spelled) in
    let behind : filter (λ m. nat_lt n.place m.place) (nodes_of bytes) ≡ ns = ap (filter (λ m. nat_lt n.place m.place)) e ∙ behind_one place 4 before n ns rise in
    let told : (is_statement n && (gives_default n || opens ns)) ≡ is_giving n = ap (λ (l : List Node). is_statement n && (gives_default n || opens l)) (sym behind) ∙ gives_is bytes n checked within in
    let later = added_from bytes (before ++ n ∷ []) ns checked (e ∙ sym (append_assoc before (n ∷ []) ns)) in
    first_added n ns ∙ ap (λ (b : Bool). cond b (n.place ∷ []) [] ++ added_by None ns) told ∙ ap (λ (l : List ℕ). cond (is_giving n) (n.place ∷ []) [] ++ l) later ∙ kept
  where
    kept : cond (is_giving n) (n.place ∷ []) [] ++ places_of is_giving ns ≡ places_of is_giving (n ∷ ns)
    kept = elim (cases_Bool (is_giving n)) [
      | inl is ↦ rw is refl
      | inr other ↦ rw other refl
    ]

-- ---- the table

-- These are the places that the nodes before those that are left have added.
abbrev pub HasAdded : List Node → List ℕ → Option ℕ → List Node → Type 0
HasAdded ns places last left = places ++ added_by last left ≡ added_by None ns

pub none_added : (ns : List Node) (places : List ℕ) (left : List Node) → places ≡ [] → left ≡ ns → HasAdded ns places None left
none_added ns places left bare all = ap (λ (l : List ℕ). l ++ added_by None left) bare ∙ ap (added_by None) all

pub added_next : (ns : List Node) (places more : List ℕ) (last next : Option ℕ) (n : Node) (left : List Node) → HasAdded ns places last (n ∷ left) → more ≡ places ++ added last n → next ≡ last_behind last n → HasAdded ns more next left
unfolding added_by
added_next ns places more last next n left has put behind =
    ap (λ (l : List ℕ). l ++ added_by next left) put ∙ ap (λ (o : Option ℕ). (places ++ added last n) ++ added_by o left) behind ∙ append_assoc places (added last n) (added_by (last_behind last n) left) ∙ has

pub all_added : (bytes : List ℕ) (places : List ℕ) (last : Option ℕ) (left : List Node) → IsChecked bytes → HasAdded (nodes_of bytes) places last left → left ≡ [] → places ≡ places_of is_giving (nodes_of bytes)
unfolding added_by
all_added bytes places last left checked has ended =
    sym (append-nil places) ∙ sym (ap (λ (l : List Node). places ++ added_by last l) ended) ∙ has ∙ added_from bytes [] (nodes_of bytes) checked refl
