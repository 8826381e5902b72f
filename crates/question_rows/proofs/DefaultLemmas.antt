-- Defaults that are told.
use Rattle.std.proofs.Common.{◌≡◌, ℕ, true, false, Option, Some, None, List, [], ◌++◌, codes, refl, sym, ap, subst, ◌∙◌}
use Rattle.std.specs.Prelude.{OnOk, Result, bytes_eq, is_some}
use Rattle.std.proofs.lemmas.Bool.{cond-true, cond-false}
use Rattle.hii_bytes.specs.Watching.{Pen, Writes}
use Rattle.ifr_expr.specs.Values.{Value}
use Rattle.ifr_opcodes.specs.Forest.{Node}
use Rattle.question_audit.specs.Audited.{Audited}
use Rattle.question_audit.specs.ScriptValues.{behind}
use Rattle.question_rows.specs.Defaults.{default_words, script_default}
use Rattle.question_rows.specs.Elements.{small}

-- one that scripts do not take
pub no_script : (a : Audited) (n : Node) (stored : List ℕ) (its : Value) (s : Option (List ℕ)) → is_some s ≡ false → [] ≡ script_default a n stored its s
no_script a n stored its None e = refl
no_script a n stored its (Some it) e = absurd cc

-- one that they take in the words of the value that is stored
pub same_words : (a : Audited) (n : Node) (stored script : List ℕ) (its : Value) (s : Option (List ℕ)) → is_some s ≡ true → script ≡ behind [] s → bytes_eq script stored ≡ true → [] ≡ script_default a n stored its s
same_words a n stored script its None e w same = absurd cc
same_words a n stored script its (Some it) e w same = sym (cond-true (bytes_eq it stored) _ _ (ap (λ (l : List ℕ). bytes_eq l stored) (sym w) ∙ same))

-- and in others
pub other_words : (a : Audited) (n : Node) (stored script : List ℕ) (its : Value) (s : Option (List ℕ)) → is_some s ≡ true → script ≡ behind [] s → bytes_eq script stored ≡ false
    → small (codes "default " ++ default_words a n its script) ≡ script_default a n stored its s
other_words a n stored script its None e w other = absurd cc
other_words a n stored script its (Some it) e w other =
    ap (λ (l : List ℕ). small (codes "default " ++ default_words a n its l)) w ∙ sym (cond-false (bytes_eq it stored) _ _ (ap (λ (l : List ℕ). bytes_eq l stored) (sym w) ∙ other))

-- what was written where a call came to its end is this text
pub ok_as : {T E : Type 0} {s t : List ℕ} (a b : Pen) (r : Result T E) → OnOk r (Writes a b s) → s ≡ t → OnOk r (Writes a b t)
ok_as a b r w e = subst (λ (l : List ℕ). OnOk r (Writes a b l)) e w
