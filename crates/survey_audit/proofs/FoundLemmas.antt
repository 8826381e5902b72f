-- Questions of a form that are found.
use Rattle.std.proofs.Common.{◌≡◌, ◌++◌, ◌∙◌, ◌==◌, ℕ, Bool, true, false, List, [], ◌∷◌, ap, refl}
use Rattle.std.specs.Prelude.{◌||◌, filter}
use Rattle.std.specs.List.{flat_map, starts_with}
use Rattle.ifr_opcodes.specs.Forest.{Node}
use Rattle.ifr_nodes.specs.Nodes.{is_question}
use Rattle.survey_audit.specs.Finding.{has_within}

-- letters stand within a text that they begin
pub stands_here : (text letters : List ℕ) → starts_with ◌==◌ text letters ≡ true → has_within text letters ≡ true
stands_here [] letters is = is
stands_here (c ∷ text) letters is = ap (λ (b : Bool). b || has_within text letters) is

-- what is left to tell before a statement and behind it
module _ (told : Node → List ℕ) (test : Node → Bool) (n : Node) (left after : List Node) (e : left ≡ n ∷ after) where
  pub with_found : is_question n ≡ true → test n ≡ true
      → flat_map told (filter test (filter is_question left)) ≡ told n ++ flat_map told (filter test (filter is_question after))
  with_found is found = ap (λ (l : List Node). flat_map told (filter test (filter is_question l))) e ∙ here
    where
      here : flat_map told (filter test (filter is_question (n ∷ after))) ≡ told n ++ flat_map told (filter test (filter is_question after))
      here = rw (is, found) refl

  pub without_found : is_question n ≡ true → test n ≡ false
      → flat_map told (filter test (filter is_question left)) ≡ flat_map told (filter test (filter is_question after))
  without_found is other = ap (λ (l : List Node). flat_map told (filter test (filter is_question l))) e ∙ here
    where
      here : flat_map told (filter test (filter is_question (n ∷ after))) ≡ flat_map told (filter test (filter is_question after))
      here = rw (is, other) refl

  pub without_asked : is_question n ≡ false
      → flat_map told (filter test (filter is_question left)) ≡ flat_map told (filter test (filter is_question after))
  without_asked is = ap (λ (l : List Node). flat_map told (filter test (filter is_question l))) e ∙ here
    where
      here : flat_map told (filter test (filter is_question (n ∷ after))) ≡ flat_map told (filter test (filter is_question after))
      here = rw is refl
