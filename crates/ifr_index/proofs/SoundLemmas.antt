-- Whether a node has no fault by itself.
use Rattle.std.proofs.Common.{◌≡◌, ℕ, zero, suc, Bool, true, false, eqb, cond, Option, Some, None, List, [], ◌∷◌, length, map, refl, sym, ap, ◌∙◌, inl, inr, arith}
use Rattle.std.specs.Prelude.{Contains, not, is_some, ◌==◌, ◌&&◌, ◌||◌}
use Rattle.std.proofs.lemmas.Bool.{cases_Bool, cond-true, cond-false, eq-eqb, false≢true, ne_eqb, not-true}
use Rattle.hii_bytes.specs.Faults.{HasNone}
use Rattle.hii_bytes.specs.code.FirstFaults.{first_cause}
use Rattle.hii_bytes.specs.declared.cause.Cause.{Cause}
use Rattle.hii_bytes.specs.declared.cause.Cause.TheVariants.{NotFormSet, AfterFormSet, OpOutside, OpSize, Misplaced, ScopeBit, ExprShape}
use Rattle.ifr_opcodes.specs.Opcode.{number}
use Rattle.ifr_opcodes.specs.Forest.{Node, Ancestor}
use Rattle.ifr_opcodes.specs.Rows.{row_of, operands, is_operator, is_listed, is_left_out, is_outside, is_short, is_question_number, is_statement_number, is_store_number, is_condition_number}
use Rattle.ifr_opcodes.specs.declared.codes.TheConstants.{FORM, FORM_SET, RULE, DEFAULT, GUID, VARSTORE_EFI, ONE_OF_OPTION, LOCKED}
use Rattle.ifr_opcodes.proofs.RowLemmas.{refused, inside, inside_parts}
use Rattle.ifr_opcodes.proofs.StatementLemmas.{none_states}
use Rattle.ifr_opcodes.proofs.TableLemmas.{numbers, of_kind}
use Rattle.ifr_nodes.specs.Guards.{is_guard}
use Rattle.ifr_nodes.specs.Locks.{has_place}
use Rattle.std.specs.List.{last_or}
use Rattle.ifr_nodes.specs.Structure.{IsStructureFault, innermost, is_condition, is_expression, has_structure_fault, has_wrong_scope, is_wrong_scope, is_root, is_wanted, is_operand, lacks_wanted}
use Rattle.ifr_nodes.specs.Table.{row, wants_expression, wants_value, admits, class_around}
use Rattle.ifr_nodes.specs.declared.table.OpcodeRow.{OpcodeRow}
use Rattle.ifr_nodes.specs.declared.table.Scope.{Scope}
use Rattle.ifr_nodes.specs.declared.table.Scope.TheVariants.{Always, Sometimes, Never, Outermost, WithValue}
use Rattle.ifr_nodes.specs.declared.table.Class.TheVariants.{OfForm}
use Rattle.ifr_nodes.specs.code.Causes.{structure_causes, least_cause}
use Rattle.ifr_index.specs.code.Levels.{is_clear, is_placed, scope_place}

-- ---- by the causes

has_first : {X : Type 0} (has : X → Cause → Bool) (x : X) (causes : List Cause) (cause : Cause) → Contains causes cause → has x cause ≡ true → is_some (first_cause has x causes) ≡ true
has_first has x [] cause (k, lt, e) h = absurd (omega arith)
has_first has x (c ∷ causes) cause (zero, lt, e) h = let here : has x c ≡ true = ap (has x) e ∙ h in rw here refl
has_first has x (c ∷ causes) cause (suc k, lt, e) h = elim (cases_Bool (has x c)) [
  | inl is ↦ rw is refl
  | inr other ↦ rw other (has_first has x causes cause (k, omega arith, e) h)
]

pub has_none : (n : Node) (cause : Cause) → is_clear n ≡ true → Contains structure_causes cause → has_structure_fault n cause ≡ false
has_none n cause clear among = elim (cases_Bool (has_structure_fault n cause)) [
  | inl bad ↦ absurd (false≢true (sym (ap not (has_first has_structure_fault n structure_causes cause among bad)) ∙ clear))
  | inr good ↦ good
]

no_cause : (o : Option Cause) → not (is_some o) ≡ true → o ≡ None
no_cause None e = refl
no_cause (Some cause) e = absurd (false≢true e)

pub clear_none : (n : Node) → is_clear n ≡ true → least_cause n ≡ None
clear_none n clear = no_cause (least_cause n) clear

some_cause : (o : Option Cause) → not (is_some o) ≡ false → (cause : Cause) × (o ≡ Some cause)
some_cause None e = absurd (false≢true (sym e))
some_cause (Some cause) e = (cause, refl)

pub unclear_some : (n : Node) → is_clear n ≡ false → (cause : Cause) × (least_cause n ≡ Some cause)
unclear_some n unclear = some_cause (least_cause n) unclear

-- ---- a statement in a form

-- what holds of each number of a statement
states : (holds : ℕ → Bool) → map (λ c. not (is_statement_number c) || holds c) numbers ≡ map (λ c. true) numbers → (code : ℕ) → is_statement_number code ≡ true → holds code ≡ true
states holds each code is = of_kind is_statement_number holds each none_states code is

-- the number of no other opcode that is told apart
abbrev is_plain : ℕ → Bool
is_plain c =
    not (c == FORM_SET) && (not (c == GUID) && (not (c == VARSTORE_EFI) && (not (c == ONE_OF_OPTION) && (not (c == DEFAULT) && (is_listed c && (not (wants_expression c) && not (is_operator c)))))))

all_plain : map (λ c. not (is_statement_number c) || is_plain c) numbers ≡ map (λ c. true) numbers
unfolding is_statement_number is_condition_number operands row_of
all_plain = refl

-- the numbers of statements as such
record Plain (op : List ℕ) : Type 0 where
  no_form_set : (number op == FORM_SET) ≡ false
  inside : is_outside op ≡ false
  no_expression : wants_expression (number op) ≡ false
  no_value : wants_value op ≡ false
  no_operator : is_operator (number op) ≡ false

split : (a b : Bool) → a && b ≡ true → (a ≡ true) × (b ≡ true)
split true b e = (refl, e)
split false b e = absurd (false≢true e)

plain : (op : List ℕ) → is_statement_number (number op) ≡ true → Plain op
plain op is =
    let all = states is_plain all_plain (number op) is in
    let a = split _ _ all in
    let b = split _ _ a.1 in
    let c = split _ _ b.1 in
    let d = split _ _ c.1 in
    let e = split _ _ d.1 in
    let f = split _ _ e.1 in
    let g = split _ _ f.1 in
    let no_guid = not-true (number op == GUID) b.0 in
    let no_store = not-true (number op == VARSTORE_EFI) c.0 in
    let no_option = not-true (number op == ONE_OF_OPTION) d.0 in
    let no_default = not-true (number op == DEFAULT) e.0 in
    record {
      no_form_set = not-true (number op == FORM_SET) a.0;
      inside = inside op f.0 (refused op ∙ rw (no_guid, no_store, no_option, no_default) refl);
      no_expression = not-true (wants_expression (number op)) g.0;
      no_value = rw no_default refl;
      no_operator = not-true (is_operator (number op)) g.1;
    }

-- it may have a scope, or none
is_free : Option OpcodeRow → Bool
is_free None = false
is_free (Some r) = at_will r.scope
  where
    at_will : Scope → Bool
    at_will Sometimes = true
    at_will _ = false

all_free : map (λ c. not (is_statement_number c) || is_free (row c)) numbers ≡ map (λ c. true) numbers
unfolding is_free is_statement_number row row_of
all_free = refl

free_scope : (o : Option OpcodeRow) (operand : Bool) (op : List ℕ) → is_free o ≡ true → has_wrong_scope o operand op ≡ false
unfolding is_free
free_scope None operand op e = absurd (false≢true e)
free_scope (Some r) operand op e = go r.scope e
  where
    go : (s : Scope) → is_free (Some (record { scope = s; class = r.class })) ≡ true → is_wrong_scope s operand op ≡ false
    go Always e = absurd (false≢true e)
    go Sometimes e = refl
    go Never e = absurd (false≢true e)
    go Outermost e = absurd (false≢true e)
    go WithValue e = absurd (false≢true e)

not_root : (path : List Ancestor) → class_around path ≡ OfForm → eqb (length path) 0 ≡ false
not_root [] e = absurd cc
not_root (a ∷ path) e = ne_eqb (length (a ∷ path)) 0 (λ zero. omega (arith, zero))

form_holds : (code : ℕ) → is_statement_number code ≡ true → admits OfForm code ≡ true
form_holds code is = elim (cases_Bool (code == RULE)) [ inl rule ↦ rw rule refl | inr other ↦ rw (other, is) refl ]

pub statement_clear : (n : Node) → is_statement_number (number n.op) ≡ true → class_around n.path ≡ OfForm → is_clear n ≡ (not (eqb n.place 4) && not (is_short n.op))
statement_clear n is around =
    let p = plain n.op is in
    let held : admits (class_around n.path) (number n.op) ≡ true = ap (λ c. admits c (number n.op)) around ∙ form_holds (number n.op) is in
    let scoped : has_wrong_scope (row (number n.op)) (is_operand n) n.op ≡ false = free_scope (row (number n.op)) (is_operand n) n.op (states (λ c. is_free (row c)) all_free (number n.op) is) in
    elim (cases_Bool (eqb n.place 4)) [
      | inl first ↦ rw (first, p.no_form_set) refl
      | inr later ↦ elim (cases_Bool (is_short n.op)) [
        | inl short ↦ rw (later, not_root n.path around, p.inside, short) refl
        | inr long ↦ elim (cases_Bool (is_wanted n)) [
          | inl wanted ↦ rw (later, not_root n.path around, p.inside, long, wanted, scoped, p.no_expression, p.no_value) refl
          | inr other ↦ rw (later, not_root n.path around, p.inside, long, other, held, scoped, p.no_expression, p.no_value) refl
        ]
      ]
    ]

-- ---- by the parts that are tested

abbrev first_of : Bool → Bool → Bool → Bool → Bool → Bool → Bool → Option Cause
first_of a b c d e f g =
    cond a (Some NotFormSet) (cond b (Some AfterFormSet) (cond c (Some OpOutside) (cond d (Some OpSize) (cond e (Some Misplaced) (cond f (Some ScopeBit) (cond g (Some ExprShape) None))))))

parts : (a b c d e f g : Bool) → not (is_some (first_of a b c d e f g)) ≡ ((not a && (not b && not e)) && (not c && (not d && (not f && not g))))
parts true b c d e f g = refl
parts false true c d e f g = refl
parts false false c d true f g = elim (cases_Bool c) [ inl x ↦ rw x refl | inr x ↦ elim (cases_Bool d) [ inl y ↦ rw (x, y) refl | inr y ↦ rw (x, y) refl ] ]
parts false false true d false f g = refl
parts false false false true false f g = refl
parts false false false false false true g = refl
parts false false false false false false true = refl
parts false false false false false false false = refl

pub clear_is : (n : Node) → is_clear n ≡ (is_placed n && (not (is_outside n.op) && (not (is_short n.op) && (not (has_wrong_scope (row (number n.op)) (is_operand n) n.op) && not (lacks_wanted n.op n.children)))))
clear_is n = parts (has_structure_fault n NotFormSet) (has_structure_fault n AfterFormSet) (is_outside n.op) (is_short n.op) (has_structure_fault n Misplaced) (has_wrong_scope (row (number n.op)) (is_operand n) n.op) (lacks_wanted n.op n.children)

either : (held wanted : Bool) → held || wanted ≡ not (not wanted && not held)
either true true = refl
either true false = refl
either false true = refl
either false false = refl

none_first : (first set : Bool) → first ≡ false → first && not set ≡ false
none_first false set e = refl
none_first true set e = absurd (false≢true (sym e))

set_first : (first set : Bool) → set ≡ true → first && not set ≡ false
set_first true true e = refl
set_first false true e = refl
set_first first false e = absurd (false≢true e)

in_scope : (n : Node) → is_root n ≡ false → has_structure_fault n NotFormSet ≡ false → admits (class_around n.path) (number n.op) || is_wanted n ≡ is_placed n
in_scope n inner set = rw (set, inner) (either (admits (class_around n.path) (number n.op)) (is_wanted n))

-- what stands in a scope is where it may be, where it is not the first, and also where it is a form set
pub placed_later : (n : Node) → is_root n ≡ false → eqb n.place 4 ≡ false → admits (class_around n.path) (number n.op) || is_wanted n ≡ is_placed n
placed_later n inner later = in_scope n inner (none_first (eqb n.place 4) (number n.op == FORM_SET) later)

pub placed_set : (n : Node) → is_root n ≡ false → (number n.op == FORM_SET) ≡ true → admits (class_around n.path) (number n.op) || is_wanted n ≡ is_placed n
placed_set n inner set = in_scope n inner (set_first (eqb n.place 4) (number n.op == FORM_SET) set)

-- ---- what a number is not

pub record Alone (code : ℕ) : Type 0 where
  pub no_guard : is_guard code ≡ false
  pub no_condition : is_condition_number code ≡ false
  pub no_form : (code == FORM) ≡ false
  pub no_store : is_store_number code ≡ false
  pub no_rule : (code == RULE) ≡ false
  pub no_lock : (code == LOCKED) ≡ false

and_none : (a b : Bool) → b ≡ false → a && b ≡ false
and_none true b e = e
and_none false b e = refl

-- ---- an option among options

option_free : is_free (row ONE_OF_OPTION) ≡ true
unfolding is_free row row_of
option_free = refl

option_says_nothing : (wants_expression ONE_OF_OPTION ≡ false) × (is_operator ONE_OF_OPTION ≡ false)
unfolding is_condition_number operands row_of
option_says_nothing = (refl, refl)

held_inside : (path : List Ancestor) (code : ℕ) → admits (class_around path) code ≡ true → (length path == 0) ≡ false
held_inside [] code held = absurd (false≢true held)
held_inside (a ∷ path) code held = ne_eqb (length (a ∷ path)) 0 (λ zero. omega (arith, zero))

by_two : (outside short : Bool) → not outside && (not short && true) ≡ not outside && not short
by_two true short = refl
by_two false true = refl
by_two false false = refl

pub option_clear : (n : Node) → number n.op ≡ ONE_OF_OPTION → admits (class_around n.path) ONE_OF_OPTION ≡ true → is_clear n ≡ (not (eqb n.place 4) && (not (is_outside n.op) && not (is_short n.op)))
option_clear n is held = clear_is n ∙ elim (cases_Bool (eqb n.place 4)) [
  | inl first ↦
      let set : (number n.op == FORM_SET) ≡ false = ap (λ (k : ℕ). k == FORM_SET) is in
      rw (first, set) refl
  | inr later ↦
      let here : admits (class_around n.path) (number n.op) ≡ true = ap (admits (class_around n.path)) is ∙ held in
      let placed : is_placed n ≡ true = sym (placed_later n (held_inside n.path ONE_OF_OPTION held) later) ∙ ap (λ (b : Bool). b || is_wanted n) here in
      let scoped : has_wrong_scope (row (number n.op)) (is_operand n) n.op ≡ false = free_scope (row (number n.op)) (is_operand n) n.op (ap (λ (k : ℕ). is_free (row k)) is ∙ option_free) in
      let says : wants_expression (number n.op) ≡ false = ap wants_expression is ∙ option_says_nothing.0 in
      let no_default : (number n.op == DEFAULT) ≡ false = ap (λ (k : ℕ). k == DEFAULT) is in
      rw (placed, scoped, says, no_default, later) (by_two (is_outside n.op) (is_short n.op))
]

pub option_no_expression : (n : Node) → number n.op ≡ ONE_OF_OPTION → is_expression n ≡ false
option_no_expression n is = and_none (is_condition n) (is_operator (number n.op)) (ap is_operator is ∙ option_says_nothing.1)

pub option_alone : Alone ONE_OF_OPTION
unfolding is_condition_number is_store_number row_of
option_alone = record { no_guard = refl; no_condition = refl; no_form = refl; no_store = refl; no_rule = refl; no_lock = refl }

pub option_asks_none : is_question_number ONE_OF_OPTION ≡ false
unfolding is_question_number row_of
option_asks_none = refl

-- ---- what a statement is not

abbrev is_alone : ℕ → Bool
is_alone c =
    not (is_guard c) && (not (is_condition_number c) && (not (c == FORM) && (not (is_store_number c) && (not (c == RULE) && not (c == LOCKED)))))

all_alone : map (λ c. not (is_statement_number c) || is_alone c) numbers ≡ map (λ c. true) numbers
unfolding is_statement_number is_condition_number is_store_number row_of
all_alone = refl

pub alone : (code : ℕ) → is_statement_number code ≡ true → Alone code
alone code is =
    let a = split _ _ (states is_alone all_alone code is) in
    let b = split _ _ a.1 in
    let c = split _ _ b.1 in
    let d = split _ _ c.1 in
    let e = split _ _ d.1 in
    record {
      no_guard = not-true (is_guard code) a.0;
      no_condition = not-true (is_condition_number code) b.0;
      no_form = not-true (code == FORM) c.0;
      no_store = not-true (is_store_number code) d.0;
      no_rule = not-true (code == RULE) e.0;
      no_lock = not-true (code == LOCKED) e.1;
    }

pub statement_known : (op : List ℕ) → is_statement_number (number op) ≡ true → is_left_out op ≡ false
statement_known op is = (inside_parts op (plain op is).inside).1

pub statement_no_expression : (n : Node) → is_statement_number (number n.op) ≡ true → is_expression n ≡ false
statement_no_expression n is = and_none (is_condition n) (is_operator (number n.op)) (plain n.op is).no_operator

-- ---- a fault of its own

first_has : {X : Type 0} (has : X → Cause → Bool) (x : X) (causes : List Cause) (cause : Cause) → first_cause has x causes ≡ Some cause → has x cause ≡ true
first_has has x [] cause e = absurd cc
first_has has x (c ∷ causes) cause e = elim (cases_Bool (has x c)) [
  | inl is ↦ let same : c ≡ cause = cc (sym (cond-true (has x c) (Some c) (first_cause has x causes) is) ∙ e) in ap (has x) (sym same) ∙ is
  | inr other ↦ first_has has x causes cause (sym (cond-false (has x c) (Some c) (first_cause has x causes) other) ∙ e)
]

pub unclear_fault : (ns : List Node) (n : Node) → Contains ns n → is_clear n ≡ false → HasNone (IsStructureFault ns) → ⊥
unclear_fault ns n within unclear sound =
    let some = unclear_some n unclear in
    sound some.0 n.place (inr (inl (n, within, refl, first_has has_structure_fault n structure_causes some.0 some.1)))

-- ---- what no fault tells of an opcode

pub clear_known : (n : Node) → is_clear n ≡ true → is_left_out n.op ≡ false
clear_known n clear = (inside_parts n.op (has_none n OpOutside clear (2, omega arith, refl))).1

pub clear_long : (n : Node) → is_clear n ≡ true → is_short n.op ≡ false
clear_long n clear = has_none n OpSize clear (3, omega arith, refl)

-- and of a LOCKED: it stands in a scope
some_last : (found : Option Ancestor) (a : Ancestor) (path : List Ancestor) → (b : Ancestor) × (last_or found (a ∷ path) ≡ Some b)
some_last found a [] = (a, refl)
some_last found a (b ∷ path) = some_last (Some a) b path

locked_root : (first set : Bool) → set ≡ false → first && not set ≡ false → not first ≡ false → ⊥
locked_root true set other e f = false≢true (sym e ∙ ap not other)
locked_root false set other e f = false≢true (sym f)

in_scope_of : (path : List Ancestor) → (length path == 0) ≡ false → has_place (scope_place (innermost path)) (innermost path) ≡ true
in_scope_of [] e = absurd (false≢true (sym e))
in_scope_of (a ∷ path) e = let last = some_last None a path in rw last.1 (eq-eqb last.0.place last.0.place refl)

pub locked_in_scope : (n : Node) → is_clear n ≡ true → number n.op ≡ LOCKED → has_place (scope_place (innermost n.path)) (innermost n.path) ≡ true
locked_in_scope n clear is = elim (cases_Bool (is_root n)) [
  | inl root ↦
      let set : (number n.op == FORM_SET) ≡ false = ap (λ (k : ℕ). k == FORM_SET) is in
      let behind : not (eqb n.place 4) ≡ false = sym (ap (λ (b : Bool). b && not (eqb n.place 4)) root) ∙ has_none n AfterFormSet clear (1, omega arith, refl) in
      absurd (locked_root (eqb n.place 4) (number n.op == FORM_SET) set (has_none n NotFormSet clear (0, omega arith, refl)) behind)
  | inr inner ↦ in_scope_of n.path inner
]
