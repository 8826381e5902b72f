-- The statements of a form are those among the forms, statements and options behind it, up to the next form.
use Rattle.std.proofs.Common.{◌≡◌, ℕ, ◌+◌, Bool, true, false, nat_lt, List, [], ◌∷◌, ◌++◌, map, refl, sym, ap, ◌∙◌, subst, inl, inr, arith}
use Rattle.std.specs.Prelude.{◌==◌, not, Contains, filter}
use Rattle.std.specs.List.{take_while}
use Rattle.std.proofs.lemmas.Bool.{cases_Bool, cond-true, lt-ltb}
use Rattle.std.proofs.lemmas.List.{append-nil, map-append}
use Rattle.std.proofs.lemmas.List.Elements.{filter-append, Contains-append_cases, Contains-append_right}
use Rattle.std.proofs.lemmas.List.Sums.{take_while-cons}
use Rattle.hii_bytes.specs.code.FirstFaults.{Rise}
use Rattle.ifr_opcodes.specs.declared.codes.TheConstants.{FORM}
use Rattle.ifr_opcodes.specs.Forest.{Node, below}
use Rattle.ifr_opcodes.specs.Reading.{tree_of}
use Rattle.ifr_opcodes.specs.Rows.{is_statement_number}
use Rattle.ifr_nodes.specs.Checked.{IsChecked}
use Rattle.ifr_nodes.specs.code.Checked.{IsNodeOf, node_in}
use Rattle.ifr_index.specs.code.Index.{is_indexed}
use Rattle.ifr_index.specs.code.Tables.{kept_entry, entry_table}
use Rattle.ifr_nodes.specs.Nodes.{nodes_of, is_form, is_statement, statements}
use Rattle.ifr_index.specs.declared.index.Entry.{Entry}
use Rattle.ifr_index.proofs.BehindPlaceLemmas.{HasBefore, all_front, apart, none_before, past, rise_rest}
use Rattle.ifr_scopes.proofs.FormFacts.{behind_form, form_there, no_form_below, statement_form}
use Rattle.ifr_index.proofs.InsideLemmas.{behind_node}
use Rattle.ifr_index.proofs.KindLemmas.{again, stated}
use Rattle.ifr_index.proofs.OptionsOfLemmas.{behind_it, is_after, passes}
use Rattle.ifr_nodes.proofs.ViewLemmas.{below_within, contains_found, further}

-- whether one is no form
abbrev no_form : Entry → Bool
no_form one = not (one.code == FORM)

abbrev states : Entry → Bool
states one = is_statement_number one.code

-- the nodes of the statements that come before the next form
abbrev pub first_statements : List ℕ → List Entry → List Node
first_statements bytes its = stated bytes (take_while no_form its)

-- what is kept behind a node
abbrev pub all_behind : List ℕ → Node → List Entry
all_behind bytes q = filter (λ one. nat_lt q.place one.place) (entry_table (nodes_of bytes))

-- where a form stands before each statement, no statement comes before the next form
none_first : (all : List Node) (low : ℕ) (ns : List Node) → Rise (λ (n : Node). n.place) low ns → ((n : Node) → Contains ns n → is_statement n ≡ true → HasBefore is_form ns n)
    → filter states (take_while no_form (map (kept_entry all) (filter is_indexed ns))) ≡ []
none_first all low [] r before = refl
none_first all low (n ∷ ns) r before =
    let later : is_form n ≡ false → filter states (take_while no_form (map (kept_entry all) (filter is_indexed ns))) ≡ [] = λ plain. none_first all (n.place + 1) ns r.1 (λ m w is. past is_form n m ns plain (before m (further n ns m w) is)) in
    elim (cases_Bool (is_indexed n)) [
      | inl indexed ↦ rw indexed (ap (filter states) (take_while-cons no_form (kept_entry all n) (map (kept_entry all) (filter is_indexed ns))) ∙ elim (cases_Bool (is_form n)) [
        | inl form ↦ rw form refl
        | inr plain ↦ rw plain (elim (cases_Bool (is_statement n)) [
          | inl is ↦ absurd (none_before is_form low n ns r (before n (0, omega arith, refl) is))
          | inr other ↦ rw other (later plain)
        ])
      ])
      | inr out ↦ rw out (elim (cases_Bool (is_form n)) [
        | inl form ↦ absurd (form_indexed n form out)
        | inr plain ↦ later plain
      ])
    ]
  where
    form_indexed : (n : Node) → is_form n ≡ true → is_indexed n ≡ false → ⊥
    form_indexed n form out = let bad : true ≡ false = rw form at out in absurd cc

form_before : (bytes : List ℕ) (q : Node) (others : List Node) → IsChecked bytes → Contains (nodes_of bytes) q → is_form q ≡ true → filter (λ m. nat_lt q.place m.place) (nodes_of bytes) ≡ below q ++ others
    → Rise (λ (m : Node). m.place) (q.place + 1) (below q ++ others) → (n : Node) → Contains others n → is_statement n ≡ true → HasBefore is_form others n
form_before bytes q others checked within form parts rise n w is =
    let after = is_after bytes q n (subst (λ (l : List Node). Contains l n) (sym parts) (Contains-append_right (below q) others n w)) in
    let h = statement_form bytes n checked after.within is in
    elim (form_there bytes q n checked within form after.less h) [
      | inl itself ↦ absurd (apart (λ (m : Node). m.place) _ (below q) others n rise (subst (λ (m : Node). Contains (below m) n) itself h.below) w)
      | inr behind ↦
          let there : Contains (below q ++ others) h.form = subst (λ (l : List Node). Contains l h.form) parts (passes (λ m. nat_lt q.place m.place) (nodes_of bytes) h.form h.within (lt-ltb q.place h.form.place behind)) in
          elim (Contains-append_cases (below q) others h.form there) [
            | inl inner ↦ absurd (no_form_below bytes q h.form checked form h.within h.is inner)
            | inr v ↦ record { other = h.form; within = v; is = h.is; less = behind_form bytes n checked h }
          ]
    ]

statements_first : (bytes : List ℕ) (q : Node) → IsChecked bytes → Contains (nodes_of bytes) q → is_form q ≡ true → first_statements bytes (all_behind bytes q) ≡ statements q
statements_first bytes q checked within form =
    let ns = nodes_of bytes in
    let b = behind_node bytes q checked.spelled within in
    let entries : List Node → List Entry = λ l. map (kept_entry ns) (filter is_indexed l) in
    let inside : (n : Node) → Contains (below q) n → Contains ns n = λ n w. below_within (tree_of bytes) 4 [] q n within w in
    let both : entries (below q ++ b.others) ≡ entries (below q) ++ entries b.others = ap (map (kept_entry ns)) (filter-append is_indexed (below q) b.others) ∙ map-append (kept_entry ns) (filter is_indexed (below q)) (filter is_indexed b.others) in
    let plain : (n : Node) → Contains (below q) n → is_indexed n ≡ true → no_form (kept_entry ns n) ≡ true = λ n w is. elim (cases_Bool (is_form n)) [
      | inl inner ↦ absurd (no_form_below bytes q n checked form (inside n w) inner w)
      | inr other ↦ ap not other
    ] in
    let none : filter states (take_while no_form (entries b.others)) ≡ [] = none_first ns _ b.others (rise_rest (λ (m : Node). m.place) _ (below q) b.others b.rise) (form_before bytes q b.others checked within form b.parts b.rise) in
    let first : filter states (take_while no_form (entries (below q) ++ entries b.others)) ≡ filter states (entries (below q)) = ap (filter states) (all_front is_indexed (kept_entry ns) no_form (below q) (entries b.others) plain) ∙ filter-append states (entries (below q)) (take_while no_form (entries b.others))
    ∙ ap (λ (l : List Entry). filter states (entries (below q)) ++ l) none ∙ append-nil (filter states (entries (below q))) in
    ap (first_statements bytes) (behind_it bytes q ∙ ap entries b.parts ∙ both)
    ∙ ap (map (λ (one : Entry). node_in bytes one.place)) first
    ∙ again bytes ns (below q) checked.spelled inside

pub statements_kept : (bytes : List ℕ) (q : Node) (its : List Entry) → IsChecked bytes → IsNodeOf bytes q → is_form q ≡ true → its ≡ all_behind bytes q → first_statements bytes its ≡ statements q
statements_kept bytes q its checked is form e =
    ap (first_statements bytes) e ∙ statements_first bytes q checked (contains_found (nodes_of bytes) q.place q is) form

-- ---- what is left, where a statement is taken

pub first_taken : (bytes : List ℕ) (first : Entry) (kept rest : List Entry) → kept ≡ first ∷ rest → (first.code == FORM) ≡ false → is_statement_number first.code ≡ true
    → first_statements bytes kept ≡ node_in bytes first.place ∷ first_statements bytes rest
first_taken bytes first kept rest e plain is =
    ap (first_statements bytes) e
    ∙ ap (stated bytes) (take_while-cons no_form first rest ∙ cond-true (no_form first) _ _ (ap not plain))
    ∙ ap (map (λ (one : Entry). node_in bytes one.place)) (cond-true (is_statement_number first.code) _ _ is)
