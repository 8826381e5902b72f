-- The first string package, and what is shown of a string id by it.
use Rattle.std.proofs.Common.{◌≡◌, ◌≢◌, ℕ, ◌==◌, cond, Option, Some, None, List, [], ◌∷◌, filter, refl, ap, ◌∙◌, option_map, unwrap_or, decimal, inl, inr, Bool, true, false}
use Rattle.std.specs.Option.{option_or}
use Rattle.std.proofs.lemmas.Bool.{cond-true, cond-false}
use Rattle.browser_rules.specs.Faults as chapter
use Rattle.browser_rules.specs.Packages.{Package, STRINGS}
use Rattle.browser_rules.specs.Strings.{Spoken, characters, shown, spoken_by, text_in}
use Rattle.hii_bytes.specs.declared.cause.Cause.TheVariants.{OutOfMemory}
use Rattle.hii_bytes.specs.declared.cause.Fault.{Fault}
use Rattle.hii_bytes.specs.Faults.{RefusesAmong}
use Rattle.sibt_strings.proofs.FaultLemmas.{some_least}
use Rattle.opcode_audit.specs.Lines.{said_by, said_without}

abbrev pub is_strings : Package → Bool
is_strings p = p.kind == STRINGS

pub said_now : {ps later : List Package} (p : Package) → ps ≡ p ∷ later → is_strings p ≡ true → said_by (filter is_strings ps) ≡ said_without (chapter.string_package_faults p) p
said_now p steps is = ap (λ (l : List Package). said_by (filter is_strings l)) steps ∙ ap said_by (cond-true (is_strings p) _ _ is)

pub said_later : {ps later : List Package} (p : Package) → ps ≡ p ∷ later → is_strings p ≡ false → said_by (filter is_strings ps) ≡ said_by (filter is_strings later)
said_later p steps is = ap (λ (l : List Package). said_by (filter is_strings l)) steps ∙ ap said_by (cond-false (is_strings p) _ _ is)

pub sound_says : (faults : List chapter.Fault) (p : Package) → faults ≡ [] → said_without faults p ≡ spoken_by p ∷ []
sound_says faults p none = ap (λ (fs : List chapter.Fault). said_without fs p) none

pub faulty_says : (faults : List chapter.Fault) (p : Package) (fault : Fault) → RefusesAmong faults fault → fault.cause ≢ OutOfMemory → said_without faults p ≡ []
faulty_says faults p fault (inl memory) other = absurd (other (ap (λ (f : Fault). f.cause) memory))
faulty_says [] p fault (inr least) other = absurd (some_least [] fault least refl)
faulty_says (f ∷ faults) p fault (inr least) other = refl

same_twice : (o : Option (List ℕ)) → option_or o o ≡ o
same_twice None = refl
same_twice (Some text) = refl

-- what is shown is the text, or that it is missing
pub shown_as : (spoken : List Spoken) (id : ℕ) → shown spoken (Some 0) id ≡ (cond (id == 0) [] (unwrap_or (option_map characters (text_in spoken id (Some 0))) (35 ∷ decimal id)))
shown_as spoken id = ap (λ (o : Option (List ℕ)). cond (id == 0) [] (unwrap_or (option_map characters o) (35 ∷ decimal id))) (same_twice (text_in spoken id (Some 0)))
