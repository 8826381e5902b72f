-- How what is found of a list is seen.
use Rattle.std.specs.Prelude.{◌≡◌, Result, Ok, Err, List}
use Rattle.browser_rules.specs.Strings.{Spoken}
use Rattle.hii_bytes.specs.declared.cause.Fault.{Fault}
use Rattle.hii_packages.specs.Packages.{packages_of}
use Rattle.dump_audit.specs.Findings.{Contents as Listed, Finding, Refused}
use Rattle.dump_audit.specs.code.Heard.{heard_of}
use Rattle.dump_audit.specs.declared.findings.Contents.{Contents}

-- This is what was found.
abbrev pub IsOf : Result Contents Fault → Finding → Type 0
IsOf (Ok contents) finding =
    (spoken : List Spoken) × (contents.strings ≡ heard_of spoken)
    × (finding ≡ Listed (packages_of contents.packages) spoken)
IsOf (Err fault) finding = finding ≡ Refused fault
