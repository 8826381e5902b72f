-- The faults of a list.
use Rattle.std.proofs.Common.{◌≡◌, ℕ, List, [], sym, ap, ◌∙◌, subst, inr}
use Rattle.browser_rules.specs.Faults as chapter
use Rattle.browser_rules.specs.Faults.{list_faults, string_faults, then_faults}
use Rattle.hii_bytes.specs.declared.cause.Fault.{Fault}
use Rattle.hii_bytes.specs.Faults.{IsLeastAmong, RefusesAmong}
use Rattle.sibt_strings.proofs.FaultLemmas.{some_least}
use Rattle.hii_languages.proofs.SpokenLemmas.{first_faults}
use Rattle.dump_audit.specs.Findings.{list_or_text_faults}

-- what refuses the packages of a list refuses the list
pub list_refuses : (list : List ℕ) (fault : Fault) → IsLeastAmong (list_faults list) fault → RefusesAmong (list_or_text_faults list) fault
list_refuses list fault least =
    inr (subst (λ (fs : List chapter.Fault). IsLeastAmong fs fault) (sym (first_faults (list_faults list) (string_faults list) (some_least (list_faults list) fault least))) least)

-- where the packages have no fault those of the string packages are all
pub text_faults : (list : List ℕ) → list_faults list ≡ [] → list_or_text_faults list ≡ string_faults list
text_faults list sound = ap (λ (fs : List chapter.Fault). then_faults fs (string_faults list)) sound

-- what refuses the string packages of a list that has no fault refuses the list
pub text_refuses : (list seen : List ℕ) (fault : Fault) → seen ≡ list → list_faults list ≡ [] → RefusesAmong (string_faults seen) fault → RefusesAmong (list_or_text_faults list) fault
text_refuses list seen fault same sound refuses =
    subst (λ (fs : List chapter.Fault). RefusesAmong fs fault) (ap string_faults same ∙ sym (text_faults list sound)) refuses
