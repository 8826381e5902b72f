-- The questions of a package and their options stand one after the other.
use Rattle.std.proofs.Common.{◌≡◌, ℕ, ◌+◌, ◌≤◌, Bool, true, false, List, [], ◌∷◌, ◌++◌, map, length, refl, sym, ap, subst, ◌∙◌, arith, lit≤, inl, inr}
use Rattle.std.specs.Prelude.{Contains, filter}
use Rattle.std.specs.List.{flat_map}
use Rattle.std.proofs.lemmas.Bool.{cases_Bool, false≢true}
use Rattle.std.proofs.lemmas.Grind.{flat_map-append}
use Rattle.std.proofs.lemmas.List.Elements.{filter-append, Contains-append_left, Contains-append_right}
use Rattle.hii_bytes.specs.code.FirstFaults.{AreAll, Rise}
use Rattle.hii_bytes.specs.declared.cause.Cause.{Cause}
use Rattle.hii_bytes.specs.declared.cause.Cause.TheVariants.{UnknownVarstore, FieldOutside, OptionRange, MixedOptions}
use Rattle.ifr_opcodes.specs.Forest.{Forest, none, node, flat, AreNodes, Ancestor, Node, nodes_at, below}
use Rattle.ifr_opcodes.specs.Reading.{tree_of}
use Rattle.ifr_opcodes.proofs.ForestLemmas.{takes}
use Rattle.ifr_nodes.specs.Accepted.{IsAccepted}
use Rattle.ifr_nodes.specs.Nodes.{nodes_of, is_question, is_option, options}
use Rattle.ifr_nodes.proofs.PlaceLemmas.{Within, nodes_within}
use Rattle.ifr_nodes.proofs.ViewLemmas.{further}
use Rattle.hii_questions.proofs.ApartLemmas.{no_question_below}
use Rattle.hii_varstore.specs.Layout.{Shape}
use Rattle.hii_questions.specs.Fields.{Asked, asked_at}
use Rattle.hii_questions.specs.Faults.{QuestionPart, itself, option, place_of, has_question_fault, parts_of}
use Rattle.hii_questions.specs.code.Causes.{question_causes}

among : (shape : Shape) (known : ℕ → Bool) (p : QuestionPart) (cause : Cause) → has_question_fault shape known p cause ≡ true → Contains question_causes cause
among shape known p UnknownVarstore h = (0, omega arith, refl)
among shape known p FieldOutside h = (1, omega arith, refl)
among shape known p OptionRange h = (2, omega arith, refl)
among shape known p MixedOptions h = (3, omega arith, refl)
among shape known (itself q) _ h = absurd (false≢true h)
among shape known (option q o) _ h = absurd (false≢true h)

pub all_causes : (shape : Shape) (known : ℕ → Bool) → AreAll (has_question_fault shape known) question_causes
all_causes shape known = record { rise = (lit≤ tt, (lit≤ tt, (lit≤ tt, (lit≤ tt, tt)))); all = among shape known }

-- a question and its options
abbrev with_options : Node → List Node
with_options q = q ∷ options q

abbrev heads : List Node → List Node
heads ns = flat_map with_options (filter is_question ns)

heads_append : (xs ys : List Node) → heads (xs ++ ys) ≡ heads xs ++ heads ys
heads_append xs ys = ap (flat_map with_options) (filter-append is_question xs ys) ∙ flat_map-append with_options (filter is_question xs) (filter is_question ys)

heads_question : (n : Node) (ns : List Node) → is_question n ≡ true → heads (n ∷ ns) ≡ n ∷ (filter is_option (below n) ++ heads ns)
heads_question n ns is =
    let first : filter is_question (n ∷ ns) ≡ n ∷ filter is_question ns = rw is refl in
    let own : options n ≡ filter is_option (below n) = rw is refl in
    ap (flat_map with_options) first ∙ ap (λ (l : List Node). n ∷ (l ++ heads ns)) own

heads_other : (n : Node) (ns : List Node) → is_question n ≡ false → heads (n ∷ ns) ≡ heads ns
heads_other n ns other = rw other refl

pub lower : (ns : List Node) (low high low' high' : ℕ) → Within low high ns → low' ≤ low → high ≤ high' → Within low' high' ns
lower [] low high low' high' w l h = omega arith
lower (n ∷ ns) low high low' high' w l h = (omega (arith, w.0), lower ns (n.place + 1) high (n.place + 1) high' w.1 (omega arith) h)

both_within : (xs ys : List Node) (low mid high : ℕ) → Within low mid xs → Within mid high ys → Within low high (xs ++ ys)
both_within [] ys low mid high u v = lower ys mid high low high v u (omega arith)
both_within (x ∷ xs) ys low mid high u v = (u.0, both_within xs ys (x.place + 1) mid high u.1 v)

pub some_within : (p : Node → Bool) (ns : List Node) (low high : ℕ) → Within low high ns → Within low high (filter p ns)
some_within p [] low high w = w
some_within p (n ∷ ns) low high w = elim (cases_Bool (p n)) [
  | inl here ↦ rw here (w.0, some_within p ns (n.place + 1) high w.1)
  | inr other ↦ rw other (lower (filter p ns) (n.place + 1) high low high (some_within p ns (n.place + 1) high w.1) (omega (arith, w.0)) (omega arith))
]

-- no question stands in the scope of another
abbrev AreApart : List Node → Type 0
AreApart ns = (q : Node) → Contains ns q → is_question q ≡ true → filter is_question (below q) ≡ []

heads_within : (f : Forest) (at : ℕ) (path : List Ancestor) → AreNodes f → AreApart (nodes_at at path f) → Within at (at + length (flat f)) (heads (nodes_at at path f))
heads_within none at path h apart = omega arith
heads_within (node op children rest) at path h apart =
    let size = takes op children rest h in
    let long : 2 ≤ length op = h.0.whole.long in
    let past = at + length (flat (node op children none)) in
    let high = at + length (flat (node op children rest)) in
    let n : Node = record { place = at; op = op; path = path; children = children } in
    let inner = nodes_at (at + length op) (path ++ record { place = at; op = op; children = children } ∷ []) children in
    let after = nodes_at past path rest in
    let later : Within past high (heads after) =
    lower (heads after) past (past + length (flat rest)) past high (heads_within rest past path h.1.1 (λ q k is. apart q (Contains-append_right (n ∷ inner) after q k) is)) (omega arith) (omega (arith, size.1)) in
    elim (cases_Bool (is_question n)) [
      | inl is ↦
          let bare : filter is_question inner ≡ [] = apart n (0, omega arith, refl) is in
          let own : Within (at + 1) past (filter is_option inner) =
          some_within is_option inner (at + 1) past (lower inner (at + length op) (at + length op + length (flat children)) (at + 1) past
          (nodes_within children (at + length op) (path ++ record { place = at; op = op; children = children } ∷ []) h.1.0) (omega arith) (omega (arith, size.0))) in
          let split : heads (inner ++ after) ≡ heads after = heads_append inner after ∙ ap (λ (l : List Node). flat_map with_options l ++ heads after) bare in
          let whole : heads (n ∷ (inner ++ after)) ≡ n ∷ (filter is_option inner ++ heads after) =
          heads_question n (inner ++ after) is ∙ ap (λ (l : List Node). n ∷ (filter is_option inner ++ l)) split in
          subst (Within at high) (sym whole) (omega arith, both_within (filter is_option inner) (heads after) (at + 1) past high own later)
      | inr other ↦
          let own : Within at past (heads inner) =
          lower (heads inner) (at + length op) (at + length op + length (flat children)) at past
          (heads_within children (at + length op) (path ++ record { place = at; op = op; children = children } ∷ []) h.1.0 (λ q k is. apart q (Contains-append_left (n ∷ inner) after q (further n inner q k)) is)) (omega arith) (omega (arith, size.0)) in
          let whole : heads (n ∷ (inner ++ after)) ≡ heads inner ++ heads after = heads_other n (inner ++ after) other ∙ heads_append inner after in
          subst (Within at high) (sym whole) (both_within (heads inner) (heads after) at past high own later)
    ]

rise_options : (q : Asked) (os more : List Node) (ps : List QuestionPart) (low high : ℕ) → Within low high (os ++ more) → ((l : ℕ) → Within l high more → Rise place_of l ps) → Rise place_of low (map (option q) os ++ ps)
rise_options q [] more ps low high w rest = rest low w
rise_options q (o ∷ os) more ps low high w rest = (w.0, rise_options q os more ps (o.place + 1) high w.1 rest)

rise_parts : (shape : Shape) (qs : List Node) (low high : ℕ) → Within low high (flat_map with_options qs) → Rise place_of low (flat_map parts_of (map (asked_at shape) qs))
rise_parts shape [] low high w = tt
rise_parts shape (q ∷ qs) low high w =
    (w.0, rise_options (asked_at shape q) (options q) (flat_map with_options qs) (flat_map parts_of (map (asked_at shape) qs)) (q.place + 1) high w.1 (λ l v. rise_parts shape qs l high v))

pub parts_rise : (bytes : List ℕ) (shape : Shape) → IsAccepted bytes → Rise place_of 4 (flat_map parts_of (map (asked_at shape) (filter is_question (nodes_of bytes))))
parts_rise bytes shape accepted =
    let f = tree_of bytes in
    rise_parts shape (filter is_question (nodes_of bytes)) 4 (4 + length (flat f))
    (heads_within f 4 [] accepted.checked.spelled.are_nodes (λ q k is. no_question_below bytes q accepted.checked k is))
