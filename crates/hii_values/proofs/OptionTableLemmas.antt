-- Options by their values.
use Rattle.std.proofs.Common.{◌≡◌, ℕ, suc, ◌+◌, ◌-◌, ◌≤◌, Bool, true, false, not, ◌||◌, Some, None, List, ℤ, pos, negsuc, w64, rules, [], ◌∷◌, ◌++◌, length, get_or, take, drop, map, filter, refl, sym, ap, subst, ◌∙◌, arith, inl, inr, is_eq, is_le, is_lt, length-drop, length-append, length-take, take-append-drop}
use Rattle.std.specs.Prelude.{All, ◌==◌, if◌then◌else◌, is_some, slice_get, slice_range, unsigned_abs}
use Rattle.std.specs.List.{AllAdjacentBelow, list_any}
use Rattle.std.specs.List.Sorted.{IsPartitionPoint, IsPermutation, IsStableByKey}
use Rattle.std.specs.Cmp.{nat_cmp_total}
use Rattle.std.specs.Int.{FitsUnsigned}
use Rattle.std.specs.Ordering.{nat_cmp}
use Rattle.std.proofs.lemmas.Bool.Decides.{nat_tests}
use Rattle.std.proofs.lemmas.Map.Keys.{le_from_is_le}
use Rattle.std.proofs.Math.Seq.{drop-append_seam, take-append_seam, take-length}
use Rattle.std.proofs.lemmas.Bool.{and_from, and_parts, cases_Bool, le-leb, ne_eqb}
use Rattle.std.proofs.lemmas.List.{drop-append-le, take-append-le}
use Rattle.std.proofs.lemmas.Option.{slice_get-get_or}
use Rattle.std.proofs.lemmas.Slice.{take-put_mid}
use borrow.Rule.Slice.PartMut.{put_mid, post_of}
use Rattle.std.proofs.lemmas.List.Elements.{All-cons, All-filter, All-map, All-nil, All-push, All-tail}
use Rattle.std.proofs.lemmas.List.Sorted.{All-permutation, IsPermutation-refl}
use Rattle.hii_bytes.specs.Numbers.{number_in}
use Rattle.hii_bytes.proofs.NumberLemmas.{number_in-append, number_in-drop}
use Rattle.ifr_opcodes.specs.Fields.{option_kind, option_value, type_width}
use Rattle.ifr_opcodes.specs.Forest.{Mark, Node, below, node_at}
use Rattle.ifr_opcodes.specs.Opcode.{stated_length}
use Rattle.ifr_opcodes.specs.Reading.{tree_of}
use Rattle.ifr_opcodes.specs.code.Marks.{mark, mark_at}
use Rattle.ifr_opcodes.specs.declared.codes.TheConstants.{ONE_OF_OPTION}
use Rattle.ifr_opcodes.specs.declared.kinds.TheConstants.{TYPE_BOOLEAN}
use Rattle.ifr_opcodes.proofs.FieldLemmas.{number_of_byte}
use Rattle.ifr_nodes.specs.Accepted.{IsAccepted}
use Rattle.ifr_nodes.specs.Nodes.{nodes_of, is_option, is_question, options}
use Rattle.ifr_nodes.specs.code.Checked.{IsAt, IsNodeOf, has_node, node_in, or_empty}
use Rattle.ifr_nodes.proofs.NodeFactLemmas.{has_fields, option_numeric, past_front}
use Rattle.ifr_nodes.proofs.PlaceLemmas.{found_place, stands_at}
use Rattle.ifr_nodes.proofs.ViewLemmas.{some_there}
use Rattle.ifr_nodes.proofs.WalkLemmas.{marked_node}
use Rattle.ifr_scopes.specs.code.Parts.{has_option}
use Rattle.hii_values.specs.Inputs.{is_offered, offered}
use Rattle.hii_values.specs.Types.{option_values}
use Rattle.hii_values.specs.code.OptionPlaces.{AreOptions, AreWithValue, IsByValue, ValuesRise, has_value, has_value_at, is_up_to, number_of_kind, value_at}
use Rattle.hii_values.specs.code.OptionTables.{HoldsOptions, IsBlock, KeepsOptions}
use Rattle.hii_values.specs.declared.option_table.OptionBlock.{OptionBlock}
use Rattle.hii_values.proofs.OptionLemmas.{options_are_nodes}
use Rattle.hii_values.proofs.OrderLemmas.{filter_mapped, found_between, kept_at}

-- the node where one stands
found_there : (bytes : List ℕ) (place : ℕ) → has_node bytes place ≡ true → (n : Node) × (node_at (nodes_of bytes) place ≡ Some n) × (node_in bytes place ≡ n)
unfolding node_in
found_there bytes place there = let found = some_there (node_at (nodes_of bytes) place) there in (found.0, found.1, ap or_empty found.1)

-- its opcode is read at its place
marked_there : (bytes : List ℕ) (place : ℕ) → IsAccepted bytes → has_node bytes place ≡ true → ((node_in bytes place).place ≡ place) × (mark_at bytes place ≡ mark (node_in bytes place))
marked_there bytes place accepted there =
    let spells = accepted.checked.spelled in
    let found = found_there bytes place there in
    let here : found.0.place ≡ place = found_place (nodes_of bytes) place found.0 found.1 in
    let marked : mark_at bytes place ≡ mark found.0 = ap (mark_at bytes) (sym here) ∙ marked_node bytes found.0 (stands_at bytes (tree_of bytes) place found.0 spells found.1) in
    (ap (λ (n : Node). n.place) found.2 ∙ here, marked ∙ ap mark (sym found.2))

-- The value at the place of an option is that of the option.
pub value_there : (bytes : List ℕ) (place : ℕ) → IsAccepted bytes → has_option bytes place ≡ true → value_at bytes place ≡ option_value (node_in bytes place).op
value_there bytes place accepted there =
    let checked = accepted.checked in
    let parts = and_parts (has_node bytes place) (is_option (node_in bytes place)) there in
    let op = (node_in bytes place).op in
    let marked = marked_there bytes place accepted parts.0 in
    let at : IsAt bytes place op = record { there = parts.0; placed = marked.0; opcode = refl } in
    let has = has_fields bytes place op ONE_OF_OPTION checked at parts.1 in
    let sized : 6 + type_width (option_kind op) ≤ length op = past_front 6 _ _ has.sized in
    let numeric : option_kind op ≤ TYPE_BOOLEAN = option_numeric bytes place op checked at parts.1 in
    let rest = drop place bytes in
    let more = drop (stated_length rest) rest in
    let front : take (stated_length rest) rest ≡ op = ap (λ (m : Mark). m.op) marked.1 in
    let split : rest ≡ op ++ more = sym (take-append-drop (stated_length rest) rest) ∙ ap (λ l. l ++ more) front in
    let long : place + length op ≤ length bytes = omega (arith, ap length split, length-append op more, length-drop place bytes, sized) in
    let moved : (offset width : ℕ) → offset + width ≤ length op → number_in bytes (place + offset) width ≡ number_in op offset width = λ offset width within.
    sym (number_in-drop bytes place offset width) ∙ ap (λ l. number_in l offset width) split ∙ number_in-append op more offset width within in
    let kind : slice_get bytes (place + 5) ≡ Some (option_kind op) =
    slice_get-get_or bytes (place + 5) 0 (omega (arith, long, sized)) ∙ ap Some (number_of_byte bytes (place + 5) ∙ moved 5 1 (omega (arith, sized))) in
    let within : place + 6 + type_width (option_kind op) ≤ length bytes = omega (arith, long, sized) in
    ap (number_of_kind bytes (place + 6)) kind ∙ rw (le-leb (option_kind op) TYPE_BOOLEAN numeric, le-leb (place + 6 + type_width (option_kind op)) (length bytes) within) (moved 6 (type_width (option_kind op)) sized)

-- ---- places by value

is_eq-nat_cmp : (a b : ℕ) → is_eq (nat_cmp a b) ≡ (a == b)
is_eq-nat_cmp a b = grind (arith, nat_tests)

not_above : (a b : ℕ) → true ≡ is_le (nat_cmp a b) → is_lt (nat_cmp b a) ≡ false
not_above a b h = let up : a ≤ b = le_from_is_le a b (sym h) in grind (arith, nat_tests)

ties_for : (bytes : List ℕ) (value : ℕ) → ◌≡◌ {A = ℕ → Bool} (λ p. is_eq (nat_cmp (value_at bytes p) value)) (has_value_at bytes value)
ties_for bytes value = λ i p. is_eq-nat_cmp (value_at bytes p) value i

-- a stable sort by the values at places
pub sorted_by_value : (bytes old new : List ℕ) → IsPermutation old new → ValuesRise bytes new → IsStableByKey (value_at bytes) nat_cmp old new → IsByValue bytes old new
sorted_by_value bytes old new shuffled rise stable = record {
  shuffled = shuffled;
  rise = rise;
  kept = λ value. ap (λ p. filter p new) (sym (ties_for bytes value)) ∙ kept_at nat_cmp_total (value_at bytes) value old new shuffled stable ∙ ap (λ p. filter p old) (ties_for bytes value);
}

-- places that are so as they stand
pub so_already : (bytes places : List ℕ) → AllAdjacentBelow (λ p q. true ≡ is_le (nat_cmp (value_at bytes p) (value_at bytes q))) places (length places) → IsByValue bytes places places
so_already bytes places up =
    let rise : ValuesRise bytes places = λ k d low high. not_above (value_at bytes (get_or places k d)) (value_at bytes (get_or places (k + 1) d)) (up k d (omega (arith, high))) in
    record { shuffled = IsPermutation-refl places; rise = rise; kept = λ value. refl }

-- those of a value stand between two points
pub found_with : (bytes : List ℕ) (value : ℕ) (places rest : List ℕ) (from count : ℕ) → rest ≡ drop from places
    → IsPartitionPoint (λ p. is_lt (nat_cmp (value_at bytes p) value) ≡ true) (λ p. is_lt (nat_cmp (value_at bytes p) value) ≡ false) places from
    → IsPartitionPoint (λ p. is_up_to bytes value p ≡ true) (λ p. is_up_to bytes value p ≡ false) rest count
    → take count rest ≡ filter (has_value_at bytes value) places
found_with bytes value places rest from count is below within =
    found_between nat_cmp_total (value_at bytes) value places rest from count is below within ∙ ap (λ p. filter p places) (ties_for bytes value)

-- ---- the options of a question and their places

all_pass : (p : Node → Bool) (ns : List Node) → All (λ n. p n ≡ true) (filter p ns)
all_pass p [] = All-nil (λ n. p n ≡ true)
all_pass p (n ∷ ns) = elim (cases_Bool (p n)) [
  | inl passes ↦ rw passes (All-cons (λ n. p n ≡ true) n (filter p ns) passes (all_pass p ns))
  | inr fails ↦ rw fails (all_pass p ns)
]

-- an option of a package
record IsOptionOf (bytes : List ℕ) (o : Node) : Type 0 where
  node : IsNodeOf bytes o
  is : is_option o ≡ true

pub node_of_place : (bytes : List ℕ) (o : Node) → IsNodeOf bytes o → node_in bytes o.place ≡ o
unfolding node_in
node_of_place bytes o is = ap or_empty is

option_there : (bytes : List ℕ) (o : Node) → IsOptionOf bytes o → has_option bytes o.place ≡ true
option_there bytes o of = and_from (has_node bytes o.place) (is_option (node_in bytes o.place)) (ap is_some of.node) (ap is_option (node_of_place bytes o of.node) ∙ of.is)

all_options : (q : Node) → All (λ o. is_option o ≡ true) (options q)
all_options q = elim (cases_Bool (is_question q)) [
  | inl asks ↦ rw asks (all_pass is_option (below q))
  | inr none ↦ rw none (All-nil (λ o. is_option o ≡ true))
]

are_options_of : (bytes : List ℕ) (q : Node) → IsAccepted bytes → IsNodeOf bytes q → All (IsOptionOf bytes) (options q)
are_options_of bytes q accepted is = λ i d lt. record { node = options_are_nodes bytes q accepted.checked.spelled is i d lt; is = all_options q i d lt }

module _ (bytes : List ℕ) (accepted : IsAccepted bytes) where
  same_value : (value : ℕ) (o : Node) → IsOptionOf bytes o → has_value_at bytes value o.place ≡ has_value value o
  same_value value o of = ap (λ (v : ℕ). v == value) (value_there bytes o.place accepted (option_there bytes o of) ∙ ap (λ (n : Node). option_value n.op) (node_of_place bytes o of.node))

  same_values : (value : ℕ) (os : List Node) → All (IsOptionOf bytes) os → filter (λ (o : Node). has_value_at bytes value o.place) os ≡ filter (has_value value) os
  same_values value [] all = refl
  same_values value (o ∷ os) all =
      let rest = same_values value os (All-tail (IsOptionOf bytes) o os all) in
      elim (cases_Bool (has_value value o)) [
        | inl has ↦ rw (same_value value o (all 0 o (omega arith)), has) (ap (λ l. o ∷ l) rest)
        | inr other ↦ rw (same_value value o (all 0 o (omega arith)), other) rest
      ]

  same_nodes : (os : List Node) → All (IsOptionOf bytes) os → map (node_in bytes) (map (λ (o : Node). o.place) os) ≡ os
  same_nodes [] all = refl
  same_nodes (o ∷ os) all =
      ap (λ (n : Node). n ∷ map (node_in bytes) (map (λ (o : Node). o.place) os)) (node_of_place bytes o (all 0 o (omega arith)).node)
      ∙ ap (λ (l : List Node). o ∷ l) (same_nodes os (All-tail (IsOptionOf bytes) o os all))

  -- The places of the options of a question by value tell of each value which options have it.
  pub by_value : (q : Node) (sorted : List ℕ) → IsNodeOf bytes q → IsByValue bytes (map (λ (o : Node). o.place) (options q)) sorted → KeepsOptions bytes q sorted
  by_value q sorted is by =
      let os = options q in
      let all = are_options_of bytes q accepted is in
      let there : AreOptions bytes (map (λ (o : Node). o.place) os) = All-map (λ p. has_option bytes p ≡ true) (λ (o : Node). o.place) os (λ i d lt. option_there bytes _ (all i d lt)) in
      record {
        rise = by.rise;
        with = λ value. record {
          there = All-filter (has_value_at bytes value) (λ p. has_option bytes p ≡ true) sorted (All-permutation (λ p. has_option bytes p ≡ true) _ sorted by.shuffled there);
          nodes =
              ap (map (node_in bytes)) (by.kept value ∙ filter_mapped (λ (o : Node). o.place) (has_value_at bytes value) os ∙ ap (map (λ (o : Node). o.place)) (same_values value os all))
              ∙ same_nodes (filter (has_value value) os) (All-filter (has_value value) (IsOptionOf bytes) os all);
        };
      }

-- ---- blocks of places

slice_kept : (xs ys : List ℕ) (first end : ℕ) → first ≤ end → end ≤ length xs → slice_range (xs ++ ys) first end ≡ slice_range xs first end
slice_kept xs ys first end le within =
    ap (take (end - first)) (drop-append-le first xs ys (omega arith)) ∙ take-append-le (end - first) (drop first xs) ys (omega (arith, length-drop first xs))

slice_behind : (xs ys : List ℕ) → slice_range (xs ++ ys) (length xs) (length xs + length ys) ≡ ys
slice_behind xs ys =
    let count : length xs + length ys - length xs ≡ length ys = omega arith in
    rw count (ap (take (length ys)) (drop-append_seam xs ys) ∙ take-length ys)

-- places of which those behind some are in another order
pub tail_replaced : (xs old own new more : List ℕ) (first count : ℕ) → xs ≡ old ++ own → first ≡ length old → length new ≡ length own → count ≡ length xs
    → take count (put_mid first (length xs - first) xs new ++ more) ≡ old ++ new
tail_replaced xs old own new more first count is begins same counted =
    let long : length xs ≡ length old + length own = ap length is ∙ length-append old own in
    let part = length xs - first in
    let rest = post_of first part xs in
    let whole : count ≤ length (put_mid first part xs new) =
    omega (arith, length-append (take first xs) (new ++ rest), length-append new rest, length-take first xs, long, begins, same, counted) in
    take-append-le count (put_mid first part xs new) more whole ∙ take-put_mid first part xs new count (omega (arith, long, begins, same, counted)) (omega (arith, long, begins))
    ∙ ap (λ l. l ++ new) (ap (take first) is ∙ rw begins (take-append_seam old own))

pub tail_is : (xs old own : List ℕ) (first : ℕ) → xs ≡ old ++ own → first ≡ length old → take (length xs - first) (drop first xs) ≡ own
tail_is xs old own first is begins =
    let rest : drop first xs ≡ own = ap (drop first) is ∙ ap (λ n. drop n (old ++ own)) begins ∙ drop-append_seam old own in
    let count : length xs - first ≡ length own = omega (arith, ap length is, length-append old own, begins) in
    rw (rest, count) (take-length own)

longer : (bytes old more : List ℕ) (b : OptionBlock) → IsBlock bytes old b → IsBlock bytes (old ++ more) b
longer bytes old more b is = record {
  ordered = is.ordered;
  within = omega (arith, is.within, length-append old more);
  keeps = subst (KeepsOptions bytes (node_in bytes b.question)) (sym (slice_kept old more b.first b.end is.ordered is.within)) is.keeps;
}

-- A further question has a block behind the others.
pub one_block_more : (bytes : List ℕ) (blocks : List OptionBlock) (old sorted : List ℕ) (b : OptionBlock) → HoldsOptions bytes blocks old → KeepsOptions bytes (node_in bytes b.question) sorted
    → b.first ≡ length old → b.end ≡ length old + length sorted → HoldsOptions bytes (blocks ++ b ∷ []) (old ++ sorted)
one_block_more bytes blocks old sorted b holds keeps first end = record {
  accepted = holds.accepted;
  each =
      All-push (λ b. IsBlock bytes (old ++ sorted) b) blocks b (λ i d lt. longer bytes old sorted _ (holds.each i d lt)) (record {
        ordered = omega (arith, first, end);
        within = omega (arith, end, length-append old sorted);
        keeps = subst (KeepsOptions bytes (node_in bytes b.question)) (sym (rw (first, end) (slice_behind old sorted))) keeps;
      });
}

-- ---- whether an option has a value

abbrev pub has_one : List Node → Bool
has_one [] = false
has_one (o ∷ os) = true

pub one_filtered : (value : ℕ) (os : List Node) → list_any (λ o. option_value o.op == value) os ≡ has_one (filter (λ o. option_value o.op == value) os)
one_filtered value [] = refl
one_filtered value (o ∷ os) = elim (cases_Bool (option_value o.op == value)) [
  | inl same ↦ rw same refl
  | inr other ↦ rw other (one_filtered value os)
]

offered_by : (value : ℕ) (os : List Node) → is_offered (option_values os) value ≡ list_any (λ o. option_value o.op == value) os
offered_by value [] = refl
offered_by value (o ∷ os) = ap (λ b. (option_value o.op == value) || b) (offered_by value os)

one_mapped : (bytes : List ℕ) (places : List ℕ) → has_one (map (node_in bytes) places) ≡ not (length places == 0)
one_mapped bytes [] = refl
one_mapped bytes (p ∷ ps) = rw (ne_eqb (suc (length ps)) 0 (λ e. omega arith)) refl

-- One has it where a place is found.
pub offered_where_found : (bytes : List ℕ) (q : Node) (value : ℕ) (places : List ℕ) → AreWithValue bytes q value places → is_offered (option_values (options q)) value ≡ not (length places == 0)
offered_where_found bytes q value places are = offered_by value (options q) ∙ one_filtered value (options q) ∙ ap has_one (sym are.nodes) ∙ one_mapped bytes places

-- A number that is a value is offered where an option has this value.
pub offered_as : (values : List ℕ) (number : ℤ) (value : ℕ) → FitsUnsigned w64 number → value ≡ unsigned_abs number → offered values number ≡ (if is_offered values value then Some value else None)
offered_as values (pos n) value fits is = rw is refl
offered_as values (negsuc n) value fits is = absurd (search rules)
