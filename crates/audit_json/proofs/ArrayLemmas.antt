-- The values of an array, written one by one.
use Rattle.std.proofs.Common.{◌≡◌, ℕ, Bool, true, false, List, [], ◌∷◌, ◌++◌, codes, refl, sym, ap, ◌∙◌, subst, append-nil, append_assoc}
use Rattle.std.specs.List.{flat_map}
use Rattle.std.proofs.lemmas.List.Concat.{flat_map-append}
use Rattle.hii_bytes.specs.Watching.{Pen, Writes}
use Rattle.hii_bytes.proofs.WritingLemmas.{writes_nil, writes_trans}
use Rattle.audit_json.specs.Objects.{array_begun, array_end, array_member, before_item, has_none, joined, member_key}

-- a value behind others
begun_more : (key value : List ℕ) (values : List (List ℕ))
    → array_begun key (values ++ value ∷ []) ≡ array_begun key values ++ (before_item key (has_none values) ++ value)
begun_more key value [] = ap (λ (l : List ℕ). member_key key ++ codes "[" ++ l) (append-nil value)
begun_more key value (first ∷ values) =
    let begun = member_key key ++ codes "[" in
    let behind = flat_map (λ (other : List ℕ). codes "," ++ other) values in
    let last = codes "," ++ value in
    let more : flat_map (λ (other : List ℕ). codes "," ++ other) (values ++ value ∷ []) ≡ behind ++ last =
    flat_map-append (λ (other : List ℕ). codes "," ++ other) values (value ∷ []) ∙ ap (λ (l : List ℕ). behind ++ l) (append-nil last) in
    ap (λ (l : List ℕ). begun ++ (first ++ l)) more ∙ ap (λ (l : List ℕ). begun ++ l) (sym (append_assoc first behind last)) ∙ sym (append_assoc begun (first ++ behind) last)

not_none : (value : List ℕ) (values : List (List ℕ)) → has_none (values ++ value ∷ []) ≡ false
not_none value [] = refl
not_none value (first ∷ values) = refl

-- Of the values of an array some are written, and these are left.
pub record Lists (key : List ℕ) (all left : List (List ℕ)) (is_first : Bool) (old new : Pen) : Type 0 where
  pub done : List (List ℕ)
  pub whole : done ++ left ≡ all
  pub first : is_first ≡ has_none done
  pub written : Writes old new (array_begun key done)

pub lists_start : (key : List ℕ) (all : List (List ℕ)) (a : Pen) → Lists key all all true a a
lists_start key all a = record { done = []; whole = refl; first = refl; written = writes_nil a }

pub lists_more : {key : List ℕ} {all left later : List (List ℕ)} {is_first : Bool} {a b c d : Pen} (value : List ℕ) → Lists key all left is_first a b → left ≡ value ∷ later
    → Writes b c (before_item key is_first) → Writes c d value → Lists key all later false a d
lists_more {key} {all} {left} {later} {is_first} {a} {b} {c} {d} value l steps before wrote =
    let both : Writes b d (before_item key (has_none l.done) ++ value) = subst (λ (f : Bool). Writes b d (before_item key f ++ value)) l.first (writes_trans before wrote) in
    record {
      done = l.done ++ value ∷ [];
      whole = append_assoc l.done (value ∷ []) later ∙ ap (λ (vs : List (List ℕ)). l.done ++ vs) (sym steps) ∙ l.whole;
      first = sym (not_none value l.done);
      written = subst (Writes a d) (sym (begun_more key value l.done)) (writes_trans l.written both);
    }

pub lists_end : {key : List ℕ} {all left : List (List ℕ)} {is_first : Bool} {a b c : Pen} → Lists key all left is_first a b → left ≡ [] → Writes b c (array_end is_first) → Writes a c (array_member key all)
lists_end {key} {all} {left} {is_first} {a} {b} {c} l none wrote =
    let same : l.done ≡ all = sym (append-nil l.done) ∙ ap (λ (vs : List (List ℕ)). l.done ++ vs) (sym none) ∙ l.whole in
    subst (λ (vs : List (List ℕ)). Writes a c (array_member key vs)) same
    (writes_trans l.written (subst (λ (f : Bool). Writes b c (array_end f)) l.first wrote))
