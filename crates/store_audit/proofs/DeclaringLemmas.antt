-- Which part of a list refuses it.
use Rattle.std.proofs.Common.{ℕ, List, sym, subst, inr}
use Rattle.browser_rules.specs.Packages.{Package}
use Rattle.hii_bytes.specs.declared.cause.Fault.{Fault}
use Rattle.hii_bytes.specs.Faults.{HasNone, IsLeast, Refuses}
use Rattle.hii_bytes.proofs.FaultLemmas.{then_first, then_none}
use Rattle.session_steps.specs.Opening.{forms_bytes, HasSource, IsSourceFault, IsFormSetFault}
use Rattle.browser_commands.proofs.OpeningLemmas.{refuses_second}
use Rattle.session_steps.proofs.SourceLemmas.{no_source_fault, source_bytes}
use Rattle.store_audit.specs.Declaring.{IsDeclaredFault}

pub source_refuses : (list : List ℕ) (n : ℕ) (fault : Fault) → IsLeast (IsSourceFault list n) fault → Refuses (IsDeclaredFault list n) fault
source_refuses list n fault least = inr (then_first (IsSourceFault list n) (IsFormSetFault (forms_bytes list n)) fault least)

pub form_set_refuses : (list : List ℕ) (n : ℕ) (source : Package) (fault : Fault) → HasSource list n source → Refuses (IsFormSetFault source.bytes) fault → Refuses (IsDeclaredFault list n) fault
form_set_refuses list n source fault has r =
    refuses_second (IsSourceFault list n) (IsFormSetFault (forms_bytes list n)) fault (no_source_fault list n source has)
    (subst (λ ifr. Refuses (IsFormSetFault ifr) fault) (sym (source_bytes list n source has)) r)

pub none_declared : (list : List ℕ) (n : ℕ) (source : Package) → HasSource list n source → HasNone (IsFormSetFault source.bytes) → HasNone (IsDeclaredFault list n)
none_declared list n source has none =
    then_none (IsSourceFault list n) (IsFormSetFault (forms_bytes list n)) (no_source_fault list n source has)
    (subst (λ ifr. HasNone (IsFormSetFault ifr)) (sym (source_bytes list n source has)) none)
