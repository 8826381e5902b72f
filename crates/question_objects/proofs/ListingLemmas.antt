-- Members that are arrays, written value by value.
use Rattle.std.proofs.Common.{◌≡◌, ℕ, Bool, true, false, List, [], ◌∷◌, ◌++◌, map, codes, refl, sym, ap, subst, ◌∙◌, append-nil, append_assoc}
use Rattle.std.specs.Prelude.{filter}
use Rattle.std.specs.List.{flat_map}
use Rattle.std.proofs.lemmas.Bool.{cond-true, cond-false}
use Rattle.std.proofs.lemmas.List.Concat.{flat_map-append}
use Rattle.hii_bytes.specs.Watching.{Pen, Writes}
use Rattle.hii_bytes.proofs.WritingLemmas.{writes_trans}
use Rattle.audit_json.specs.Objects.{array_begun, array_end, array_member, before_item, has_none, member_key}
use Rattle.audit_json.proofs.ArrayLemmas.{Lists, lists_end, lists_start}
use Rattle.question_audit.specs.code.Beginnings.{Begins}

abbrev behind_comma : List ℕ → List ℕ
behind_comma other = codes "," ++ other

-- a value behind others
begun_more : (key value : List ℕ) (values : List (List ℕ)) → array_begun key (values ++ value ∷ []) ≡ array_begun key values ++ (before_item key (has_none values) ++ value)
begun_more key value [] = ap (λ (l : List ℕ). member_key key ++ codes "[" ++ l) (append-nil value)
begun_more key value (first ∷ values) =
    let begun = member_key key ++ codes "[" in
    let behind = flat_map behind_comma values in
    let last = codes "," ++ value in
    let more : flat_map behind_comma (values ++ value ∷ []) ≡ behind ++ last = flat_map-append behind_comma values (value ∷ []) ∙ ap (λ (l : List ℕ). behind ++ l) (append-nil last) in
    ap (λ (l : List ℕ). begun ++ (first ++ l)) more ∙ ap (λ (l : List ℕ). begun ++ l) (sym (append_assoc first behind last)) ∙ sym (append_assoc begun (first ++ behind) last)

not_none : (value : List ℕ) (values : List (List ℕ)) → has_none (values ++ value ∷ []) ≡ false
not_none value [] = refl
not_none value (first ∷ values) = refl

-- what is written of some values is the beginning of the member of these and others
begun_front : (key : List ℕ) (done left : List (List ℕ)) → (rest : List ℕ) × (array_member key (done ++ left) ≡ array_begun key done ++ rest)
begun_front key [] left = (array_member key left, refl)
begun_front key (value ∷ done) left =
    let begun = member_key key ++ codes "[" in
    let front = flat_map behind_comma done in
    let back = flat_map behind_comma left in (
      back ++ codes "]",
      ap (λ (l : List ℕ). (begun ++ (value ++ l)) ++ codes "]") (flat_map-append behind_comma done left) ∙ ap (λ (l : List ℕ). (begun ++ l) ++ codes "]") (sym (append_assoc value front back))
          ∙ ap (λ (l : List ℕ). l ++ codes "]") (sym (append_assoc begun (value ++ front) back)) ∙ append_assoc (begun ++ (value ++ front)) back (codes "]"),
    )

pub listed_begun : {key : List ℕ} {all left : List (List ℕ)} {is_first : Bool} {a b : Pen} → Lists key all left is_first a b → Begins a b (array_member key all)
listed_begun {key} {all} {left} {is_first} {a} {b} l =
    let more = begun_front key l.done left in
    record {
      front = array_begun key l.done;
      rest = more.0;
      parts = ap (array_member key) (sym l.whole) ∙ more.1;
      written = l.written;
    }

-- at first all values are left
pub first_left : {X : Type 0} (key : List ℕ) (item : X → List ℕ) (a : Pen) (all left : List X) → left ≡ all → Lists key (map item all) (map item left) true a a
first_left key item a all left e = subst (λ (l : List _). Lists key (map item all) (map item l) true a a) (sym e) (lists_start key (map item all) a)

-- one more is written, with what stands before it
pub value_next : {key : List ℕ} {all left later : List (List ℕ)} {is_first : Bool} {a b c : Pen} (value : List ℕ) → Lists key all left is_first a b → left ≡ value ∷ later
    → Writes b c (before_item key is_first ++ value) → Lists key all later false a c
value_next {key} {all} {left} {later} {is_first} {a} {b} {c} value l steps wrote =
    let both : Writes b c (before_item key (has_none l.done) ++ value) = subst (λ (f : Bool). Writes b c (before_item key f ++ value)) l.first wrote in
    record {
      done = l.done ++ value ∷ [];
      whole = append_assoc l.done (value ∷ []) later ∙ ap (λ (vs : List (List ℕ)). l.done ++ vs) (sym steps) ∙ l.whole;
      first = sym (not_none value l.done);
      written = subst (Writes a c) (sym (begun_more key value l.done)) (writes_trans l.written both);
    }

pub item_next : {X : Type 0} {key : List ℕ} (item : X → List ℕ) {all : List (List ℕ)} {left rest : List X} {is_first : Bool} {a b c : Pen} (x : X) → left ≡ x ∷ rest
    → Lists key all (map item left) is_first a b → Writes b c (before_item key is_first ++ item x) → Lists key all (map item rest) false a c
item_next item x e l wrote = value_next (item x) l (ap (map item) e) wrote

-- where those alone are told that pass a test
pub passing_next : {X : Type 0} {key : List ℕ} (item : X → List ℕ) (test : X → Bool) {all : List (List ℕ)} {left rest : List X} {is_first : Bool} {a b c : Pen} (x : X) → left ≡ x ∷ rest → test x ≡ true
    → Lists key all (map item (filter test left)) is_first a b → Writes b c (before_item key is_first ++ item x) → Lists key all (map item (filter test rest)) false a c
passing_next item test {all} {left} {rest} x e is l wrote = item_next item x (ap (filter test) e ∙ cond-true (test x) (x ∷ filter test rest) (filter test rest) is) l wrote

pub failing_next : {X : Type 0} {key : List ℕ} (item : X → List ℕ) (test : X → Bool) {all : List (List ℕ)} {left rest : List X} {is_first : Bool} {a b : Pen} (x : X) → left ≡ x ∷ rest → test x ≡ false
    → Lists key all (map item (filter test left)) is_first a b → Lists key all (map item (filter test rest)) is_first a b
failing_next {X} {key} item test {all} {left} {rest} {is_first} {a} {b} x e is l =
    subst (λ (xs : List X). Lists key all (map item xs) is_first a b) (ap (filter test) e ∙ cond-false (test x) (x ∷ filter test rest) (filter test rest) is) l

-- at last none is left
pub none_left : {X : Type 0} {key : List ℕ} (item : X → List ℕ) {all : List (List ℕ)} {left : List X} {is_first : Bool} {a b c : Pen} → left ≡ [] → Lists key all (map item left) is_first a b
    → Writes b c (array_end is_first) → Writes a c (array_member key all)
none_left item e l wrote = lists_end l (ap (map item) e) wrote
