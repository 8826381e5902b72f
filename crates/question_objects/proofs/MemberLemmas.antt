-- Members that stand where a fact is there.
use Rattle.std.proofs.Common.{◌≡◌, ℕ, true, false, Option, Some, None, List, [], ◌∷◌, ◌++◌, codes, refl}
use Rattle.std.specs.Prelude.{MatchOption, is_some}
use Rattle.audit_json.specs.Objects.{member_key, text_member}
use Rattle.question_audit.specs.ScriptValues.{behind}
use Rattle.question_objects.specs.Members.{shown_member}
use Rattle.question_objects.specs.Values.{word_if_there}

-- a text that has a first character, and one that has none
pub told_text : (key text after : List ℕ) (r : Option ℕ) → MatchOption r ((text ≡ []) × (after ≡ [])) (λ c. text ≡ c ∷ after) → is_some r ≡ true → text_member key text ≡ shown_member key text
told_text key text after None m e = absurd cc
told_text key text after (Some c) m e = rw m refl

pub untold_text : (key text after : List ℕ) (r : Option ℕ) → MatchOption r ((text ≡ []) × (after ≡ [])) (λ c. text ≡ c ∷ after) → is_some r ≡ false → [] ≡ shown_member key text
untold_text key text after None m e = rw m.0 refl
untold_text key text after (Some c) m e = absurd cc

-- a value that scripts take, and one that they do not
pub told_word : (key : List ℕ) (s : Option (List ℕ)) → is_some s ≡ true → member_key key ++ (behind (codes "\"") s ++ codes "\"") ≡ word_if_there key s
told_word key None e = absurd cc
told_word key (Some its) e = refl

pub untold_word : (key : List ℕ) (s : Option (List ℕ)) → is_some s ≡ false → [] ≡ word_if_there key s
untold_word key None e = refl
untold_word key (Some its) e = absurd cc
