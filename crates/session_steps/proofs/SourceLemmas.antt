-- The forms package of a list, and the faults of a list and of the number of its forms package.
use Rattle.std.proofs.Common.{◌≡◌, ℕ, List, [], Option, Some, ap, sym, ◌∙◌}
use Rattle.std.specs.Prelude.{option_map, unwrap_or}
use Rattle.browser_rules.specs.Faults.{list_faults, number_faults}
use Rattle.browser_rules.specs.Packages.{Package}
use Rattle.hii_bytes.specs.declared.cause.Fault.{Fault}
use Rattle.hii_bytes.specs.Faults.{HasNone, IsAmong, IsLeast, IsLeastAmong}
use Rattle.hii_bytes.proofs.ChapterFaultLemmas.{least_among, none_among}
use Rattle.hii_bytes.proofs.FaultLemmas.{then_first, then_none, then_second}
use Rattle.hii_packages.proofs.ListLemmas.{found_faults}
use Rattle.session_steps.specs.Opening.{forms_bytes, HasSource, IsSourceFault}

pub source_bytes : (list : List ℕ) (n : ℕ) (source : Package) → HasSource list n source → forms_bytes list n ≡ source.bytes
unfolding forms_bytes
source_bytes list n source (_, found) = ap (λ (o : Option Package). unwrap_or (option_map (λ p. p.bytes) o) []) found

pub one_source : (list : List ℕ) (n : ℕ) (a b : Package) → HasSource list n a → HasSource list n b → a ≡ b
one_source list n a b (_, first) (_, second) = let same : Some a ≡ Some b = sym first ∙ second in cc

pub no_source_fault : (list : List ℕ) (n : ℕ) (source : Package) → HasSource list n source → HasNone (IsSourceFault list n)
no_source_fault list n source (sound, found) =
    then_none (IsAmong (list_faults list)) (IsAmong (number_faults list n)) ((none_among (list_faults list)).0 sound)
    ((none_among (number_faults list n)).0 (found_faults list n source found))

-- what refuses the list, or else the number
pub list_refuses : (list : List ℕ) (n : ℕ) (fault : Fault) → IsLeastAmong (list_faults list) fault → IsLeast (IsSourceFault list n) fault
list_refuses list n fault least = then_first (IsAmong (list_faults list)) (IsAmong (number_faults list n)) fault ((least_among (list_faults list) fault).0 least)

pub number_refuses : (list : List ℕ) (n : ℕ) (fault : Fault) → list_faults list ≡ [] → IsLeastAmong (number_faults list n) fault → IsLeast (IsSourceFault list n) fault
number_refuses list n fault sound least =
    then_second (IsAmong (list_faults list)) (IsAmong (number_faults list n)) fault ((none_among (list_faults list)).0 sound) ((least_among (number_faults list n) fault).0 least)
