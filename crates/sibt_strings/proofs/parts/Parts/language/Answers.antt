use Rattle.std.proofs.Common.{◌≡◌, Option, None, Some, refl, sym}
use Rattle.std.specs.Option.{ok_or}
use Rattle.std.specs.Result.{IfErr}
use Rattle.browser_rules.specs.Faults.{string_package_faults}
use Rattle.hii_bytes.specs.Faults.{IsLeastAmong}
use Rattle.hii_packages.specs.code.Package.{package_of}
use Rattle.sibt_strings.proofs.FaultLemmas.{only_language}
use Rattle.sibt_strings.proofs.parts.Parts.language.Goals as goal

-- the fault stands in for nothing
or_fault : {X F : Type 0} (P : F → Type 0) (o : Option X) (fault : F) → (o ≡ None → P fault) → IfErr (ok_or o fault) P
or_fault P None fault p = p refl
or_fault P (Some x) fault p = tt

pub returns-clause-refused : goal.returns-clause-refused
returns-clause-refused c =
    let p = c.args.self in
    let source = package_of p.source in
    rw c.ok_or.ensures.value
    (or_fault (IsLeastAmong (string_package_faults source)) p.language c.bad_language.result
    (λ none. rw c.bad_language.ensures (only_language source p.block_bytes.now p.fixed p.blocks_are (sym (rw none at p.language_is)) c.requires)))
