-- The statements of a page, one after the other.
use Rattle.std.proofs.Common.{◌≡◌, ℕ, ◌+◌, Bool, true, false, Option, Some, None, List, [], ◌∷◌, MatchOption, IfSome, option_map, refl, sym, ap, subst, ◌∙◌, inl, inr}
use Rattle.std.specs.Prelude.{is_none, filter, if◌then◌else◌}
use Rattle.std.specs.List.{slice_get}
use Rattle.std.proofs.lemmas.Option.{slice_get_within, get_or_from_slice_get}
use Rattle.std.proofs.lemmas.List.Elements.{All-filter}
use Rattle.std.proofs.lemmas.Bool.{cond-true, cond-false, cases_Bool}
use Rattle.ifr_opcodes.specs.Forest.{Node}
use Rattle.ifr_nodes.specs.Nodes.{is_question}
use Rattle.ifr_nodes.specs.code.Checked.{IsNodeOf, AreNodesOf}
use Rattle.hii_questions.specs.Fields.{Asked, asked}
use Rattle.guard_policy.proofs.OptionLemmas.{first_of, rest_of}
use Rattle.guard_policy.specs.Policy.{hidden}
use Rattle.guard_policy.specs.World.{World}
use Rattle.hii_varstore.specs.Stores.{StoreMap}
use Rattle.form_page.specs.Pages.{Row, row_of, rows_from}

-- a question that is found for a statement is the statement
pub asked_is : (ns : List Node) (n : Node) (q : Asked) → Some q ≡ (if is_question n then Some (asked ns n) else None) → (is_question n ≡ true) × (q ≡ asked ns n)
asked_is ns n q e = elim (cases_Bool (is_question n)) [
  | inl asks ↦ let same = e ∙ cond-true (is_question n) (Some (asked ns n)) None asks in (asks, cc)
  | inr none ↦ let nothing = e ∙ cond-false (is_question n) (Some (asked ns n)) None none in absurd cc
]

-- what a call of `next` leaves of statements of a package
pub nodes_after : {X : Type 0} (view : X → Node) (bytes : List ℕ) (r : Option X) (left after : List Node) → MatchOption r ((left ≡ []) × (after ≡ [])) (λ x. left ≡ view x ∷ after)
    → AreNodesOf bytes left → AreNodesOf bytes after
nodes_after view bytes None left after e all = subst (AreNodesOf bytes) (e.0 ∙ sym e.1) all
nodes_after view bytes (Some x) left after e all = rest_of bytes left (view x) after e all

-- and what it gives is one of them
pub node_first : {X : Type 0} (view : X → Node) (bytes : List ℕ) (r : Option X) (left after : List Node) → MatchOption r ((left ≡ []) × (after ≡ [])) (λ x. left ≡ view x ∷ after)
    → AreNodesOf bytes left → IfSome r (λ x. IsNodeOf bytes (view x))
node_first view bytes None left after e all = tt
node_first view bytes (Some x) left after e all = first_of bytes left (view x) after e all

-- of statements of a package those that are listed
pub listed_nodes : (bytes : List ℕ) (w : World) (ns : List Node) → AreNodesOf bytes ns → AreNodesOf bytes (filter (λ m. is_none (hidden w m)) ns)
listed_nodes bytes w ns = All-filter (λ (m : Node). is_none (hidden w m)) (IsNodeOf bytes) ns

-- of nodes of a package the one at an index
pub node_at_index : {X : Type 0} (view : X → Node) (bytes : List ℕ) (ns : List Node) (k : ℕ) (r : Option X) → option_map view r ≡ slice_get ns k → AreNodesOf bytes ns
    → IfSome r (λ x. IsNodeOf bytes (view x))
node_at_index view bytes ns k None e all = tt
node_at_index view bytes ns k (Some x) e all =
    subst (IsNodeOf bytes) (get_or_from_slice_get ns k (view x) (view x) (sym e)) (all k (view x) (slice_get_within ns k (view x) (sym e)))

-- ---- the rows of statements

-- what is there only on a condition
some_if : {X : Type 0} (b : Bool) (x y : X) → Some x ≡ (if b then Some y else None) → (b ≡ true) × (x ≡ y)
some_if true x y e = (refl, cc)
some_if false x y e = absurd cc

none_if : {X : Type 0} (b : Bool) (y : X) → None ≡ (if b then Some y else None) → b ≡ false
none_if true y e = absurd cc
none_if false y e = refl

abbrev pub listed_among : World → List Node → List Node
listed_among w ns = filter (λ m. is_none (hidden w m)) ns

-- a statement with a row is listed, and the row is the first of those that are left
pub record IsFirstRow (texts : ℕ → List ℕ) (w : World) (stores : StoreMap) (number : ℕ) (left rest : List Node) (n : Node) (row : Row) : Type 0 where
  pub listed : listed_among w left ≡ n ∷ listed_among w rest
  pub rows : rows_from texts w stores number (listed_among w left) ≡ row ∷ rows_from texts w stores (number + 1) (listed_among w rest)

pub first_row : (texts : ℕ → List ℕ) (w : World) (stores : StoreMap) (number : ℕ) (left rest : List Node) (n : Node) (row : Row) → left ≡ n ∷ rest
    → Some row ≡ (if is_none (hidden w n) then Some (row_of texts w stores number n) else None) → IsFirstRow texts w stores number left rest n row
first_row texts w stores number left rest n row e told =
    let its = some_if (is_none (hidden w n)) row (row_of texts w stores number n) told in
    let listed : listed_among w left ≡ n ∷ listed_among w rest = ap (listed_among w) e ∙ cond-true (is_none (hidden w n)) (n ∷ listed_among w rest) (listed_among w rest) its.0 in
    record {
      listed = listed;
      rows = ap (rows_from texts w stores number) listed ∙ ap (λ (r : Row). r ∷ rows_from texts w stores (number + 1) (listed_among w rest)) (sym its.1);
    }

-- one without a row is not listed
pub no_row : (w : World) (left rest : List Node) (n : Node) (made : Row) → left ≡ n ∷ rest → None ≡ (if is_none (hidden w n) then Some made else None) → listed_among w left ≡ listed_among w rest
no_row w left rest n made e told =
    ap (listed_among w) e ∙ cond-false (is_none (hidden w n)) (n ∷ listed_among w rest) (listed_among w rest) (none_if (is_none (hidden w n)) made told)
