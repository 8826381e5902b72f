-- What is found of a list.
use Rattle.std.proofs.Common.{◌≡◌, ℕ, List, Result, Ok, Err, IfOk, IfErr, refl}
use Rattle.browser_rules.specs.Strings.{Spoken}
use Rattle.hii_bytes.specs.Faults.{IsLeastAmong}
use Rattle.hii_bytes.specs.declared.cause.Fault.{Fault}
use Rattle.hii_packages.specs.Packages.{packages_of}
use Rattle.dump_audit.specs.Findings.{Contents as Found, Finding, IsFound, Refused, list_or_text_faults}
use Rattle.dump_audit.specs.code.Heard.{heard_of}
use Rattle.dump_audit.specs.code.Found.{IsOf}
use Rattle.dump_audit.specs.declared.findings.Contents.{Contents}

pub finding_of : (list : List ℕ) (found : Result Contents Fault)
    → IfOk found (λ contents. (spoken : List Spoken) × IsFound list (Found (packages_of contents.packages) spoken) × (contents.strings ≡ heard_of spoken))
    → IfErr found (IsLeastAmong (list_or_text_faults list)) → (finding : Finding) × IsFound list finding × IsOf found finding
finding_of list (Ok contents) is refused = (Found (packages_of contents.packages) is.0, is.1, (is.0, is.2, refl))
finding_of list (Err fault) is refused = (Refused fault, refused, refl)
