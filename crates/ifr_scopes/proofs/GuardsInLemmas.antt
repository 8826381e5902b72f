-- The guards in the scope of a question are the first of those behind its place, up to its end.
use Rattle.std.proofs.Common.{◌≡◌, ℕ, Bool, true, false, cond, nat_lt, List, [], ◌∷◌, ◌++◌, map, refl, sym, ap, ◌∙◌, subst, inl, inr, arith}
use Rattle.std.specs.Prelude.{◌&&◌, Contains, filter}
use Rattle.std.specs.List.{take_while}
use Rattle.std.proofs.lemmas.Bool.{cases_Bool, eq-eqb, lt-ltb, le-ltb, false≢true}
use Rattle.std.proofs.lemmas.List.{map-append}
use Rattle.std.proofs.lemmas.List.Elements.{All-same, All-filter, filter-append, Contains-append_right}
use Rattle.ifr_opcodes.specs.Fields.{question_id}
use Rattle.ifr_opcodes.specs.Opcode.{number}
use Rattle.ifr_opcodes.specs.Forest.{Node, below}
use Rattle.ifr_opcodes.specs.Reading.{tree_of}
use Rattle.ifr_nodes.specs.Checked.{IsChecked}
use Rattle.ifr_nodes.specs.Guards.{is_guard}
use Rattle.ifr_nodes.specs.Nodes.{nodes_of, end_of, is_question, of_question, this_of}
use Rattle.ifr_nodes.specs.code.Checked.{IsNodeOf, node_in}
use Rattle.ifr_nodes.proofs.BehindLemmas.{below_or_behind}
use Rattle.ifr_nodes.proofs.ViewLemmas.{below_within, contains_found}
use Rattle.ifr_index.specs.code.Tables.{AreGuardEntries, IsGuardEntry, begin_in, guard_entry, guard_table, inner_guard}
use Rattle.ifr_index.specs.declared.index.GuardEntry.{GuardEntry}
use Rattle.ifr_index.proofs.BehindPlaceLemmas.{apart, entries_behind, front, no_front}
use Rattle.ifr_index.proofs.EntryLemmas.{all_guards_kept, nodes_again}
use Rattle.ifr_index.proofs.InsideLemmas.{behind_node}
use Rattle.ifr_index.proofs.OptionFacts.{between}
use Rattle.ifr_index.proofs.OptionsOfLemmas.{is_after}
use Rattle.ifr_index.proofs.PathLemmas.{kept}
use Rattle.ifr_scopes.proofs.ThisLemmas.{this_below}

abbrev guarding : Node → Bool
guarding n = is_guard (number n.op)

abbrev entry : List ℕ → Node → GuardEntry
entry bytes n = guard_entry (inner_guard (nodes_of bytes) n.path) n

-- the guards behind a node
abbrev pub guards_behind : List ℕ → Node → List GuardEntry
guards_behind bytes m = filter (λ one. nat_lt m.place one.place) (guard_table (nodes_of bytes))

pub are_behind : (bytes : List ℕ) (m : Node) (its : List GuardEntry) → IsChecked bytes → its ≡ guards_behind bytes m → AreGuardEntries bytes its
are_behind bytes m its checked e =
    All-same (IsGuardEntry bytes) its _ e (All-filter (λ (one : GuardEntry). nat_lt m.place one.place) (IsGuardEntry bytes) (guard_table (nodes_of bytes)) (all_guards_kept bytes checked.spelled))

-- those of some nodes
abbrev entries : List ℕ → List Node → List GuardEntry
entries bytes ns = map (entry bytes) (filter guarding ns)

behind_it : (bytes : List ℕ) (m : Node) → guards_behind bytes m ≡ entries bytes (filter (λ n. nat_lt m.place n.place) (nodes_of bytes))
behind_it bytes m = entries_behind guarding (entry bytes) (λ (one : GuardEntry). one.place) (λ n. refl) m.place (nodes_of bytes)

-- Those behind a node are those below it, and then others, which stand behind its end.
record AreSplit (bytes : List ℕ) (m : Node) : Type 0 where
  others : List Node
  parts : guards_behind bytes m ≡ entries bytes (below m) ++ entries bytes others
  past : (n : Node) → Contains others n → nat_lt n.place (end_of m) ≡ false

split : (bytes : List ℕ) (m : Node) → IsChecked bytes → Contains (nodes_of bytes) m → AreSplit bytes m
split bytes m checked within =
    let b = behind_node bytes m checked.spelled within in
    record {
      others = b.others;
      parts = behind_it bytes m ∙ ap (entries bytes) b.parts ∙ ap (map (entry bytes)) (filter-append guarding (below m) b.others) ∙ map-append (entry bytes) (filter guarding (below m)) (filter guarding b.others);
      past = λ n w.
          let after = is_after bytes m n (subst (λ (l : List Node). Contains l n) (sym b.parts) (Contains-append_right (below m) b.others n w)) in
          elim (below_or_behind (tree_of bytes) 4 [] m n checked.spelled.are_nodes within after.within after.less) [
            | inl inner ↦ absurd (apart (λ (p : Node). p.place) _ (below m) b.others n b.rise inner w)
            | inr behind ↦ le-ltb n.place (end_of m) behind
          ];
    }

-- the nodes of those before a place
abbrev pub first_guards : List ℕ → ℕ → List GuardEntry → List Node
first_guards bytes ends its = map (λ one. node_in bytes one.place) (take_while (λ one. nat_lt one.place ends) its)

up_to_end : (bytes : List ℕ) (m : Node) → IsChecked bytes → Contains (nodes_of bytes) m → first_guards bytes (end_of m) (guards_behind bytes m) ≡ filter guarding (below m)
up_to_end bytes m checked within =
    let s = split bytes m checked within in
    let before : GuardEntry → Bool = λ one. nat_lt one.place (end_of m) in
    let none : take_while before (entries bytes s.others) ≡ [] = no_front guarding (entry bytes) before s.others (λ n w is. s.past n w) in
    let inner : take_while before (guards_behind bytes m) ≡ entries bytes (below m) =
    ap (take_while before) s.parts ∙ front guarding (entry bytes) before (below m) (entries bytes s.others) (λ n w is. lt-ltb n.place (end_of m) (between bytes m n checked within w).before) none in
    ap (map (λ (one : GuardEntry). node_in bytes one.place)) inner
    ∙ nodes_again bytes (λ (one : GuardEntry). one.place) guarding (entry bytes) (below m) (λ n. refl) checked.spelled (λ n w. below_within (tree_of bytes) 4 [] m n within w)

-- none stands before the place that it is behind
none_up_to : (bytes : List ℕ) (m : Node) → first_guards bytes m.place (guards_behind bytes m) ≡ []
none_up_to bytes m =
    let before : GuardEntry → Bool = λ one. nat_lt one.place m.place in
    ap (map (λ (one : GuardEntry). node_in bytes one.place)) (ap (take_while before) (behind_it bytes m)
    ∙ no_front guarding (entry bytes) before (filter (λ n. nat_lt m.place n.place) (nodes_of bytes)) (λ n w is. le-ltb n.place m.place (omega (arith, (is_after bytes m n w).less))))

-- A question has no guard below it if the first behind it has another id.
none_below : (bytes : List ℕ) (m : Node) → IsChecked bytes → Contains (nodes_of bytes) m → is_question m ≡ true → begin_in (question_id m.op) (guards_behind bytes m) ≡ false → filter guarding (below m) ≡ []
none_below bytes m checked within asks other = go (filter guarding (below m)) refl
  where
    s : AreSplit bytes m
    s = split bytes m checked within

    go : (ns : List Node) → filter guarding (below m) ≡ ns → filter guarding (below m) ≡ []
    go [] e = e
    go (n ∷ ns) e =
        let inner : Contains (below m) n = kept guarding (below m) n (subst (λ (l : List Node). Contains l n) (sym e) (0, omega arith, refl)) in
        let first : guards_behind bytes m ≡ entry bytes n ∷ (map (entry bytes) ns ++ entries bytes s.others) = s.parts ∙ ap (λ (l : List Node). map (entry bytes) l ++ entries bytes s.others) e in
        absurd (false≢true (sym other ∙ ap (begin_in (question_id m.op)) first ∙ eq-eqb (this_of n) (question_id m.op) (this_below bytes m n checked within asks inner)))

pub guards_kept : (bytes : List ℕ) (m : Node) (ends : ℕ) (its : List GuardEntry) → IsChecked bytes → IsNodeOf bytes m → its ≡ guards_behind bytes m
    → ends ≡ cond (is_question m && begin_in (question_id m.op) its) (end_of m) m.place → first_guards bytes ends its ≡ of_question guarding m
guards_kept bytes m ends its checked is e there =
    let within = contains_found (nodes_of bytes) m.place m is in
    let named = begin_in (question_id m.op) (guards_behind bytes m) in
    let at : ends ≡ cond (is_question m && named) (end_of m) m.place = there ∙ ap (λ (l : List GuardEntry). cond (is_question m && begin_in (question_id m.op) l) (end_of m) m.place) e in
    ap (first_guards bytes ends) e ∙ ap (λ (p : ℕ). first_guards bytes p (guards_behind bytes m)) at ∙ elim (cases_Bool (is_question m)) [
      | inl asks ↦ elim (cases_Bool named) [
        | inl may ↦ rw (asks, may) (up_to_end bytes m checked within)
        | inr other ↦ rw (asks, other) (none_up_to bytes m ∙ sym (none_below bytes m checked within asks other))
      ]
      | inr plain ↦ rw plain (none_up_to bytes m)
    ]
