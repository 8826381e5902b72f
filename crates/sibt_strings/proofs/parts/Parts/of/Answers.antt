use Rattle.std.proofs.Common.{◌≡◌, inl, inr, arith}
use Rattle.std.proofs.lemmas.Grind.{common_steps}
use Rattle.browser_rules.specs.Strings.{info_offset}
use Rattle.hii_packages.specs.code.Package.{package_of}
use Rattle.sibt_strings.proofs.FaultLemmas.{least_header}
use Rattle.sibt_strings.proofs.parts.Parts.of.Goals as goal

pub returns-then-offset-lt46-clause-refused : goal.returns-then-offset-lt46-clause-refused
returns-then-offset-lt46-clause-refused c =
    let told : c.unwrap-offset.result ≡ info_offset c.args.source.bytes.now = grind (arith, common_steps) in
    rw c.at-then-offset-lt46.ensures
    (least_header (package_of c.args.source)
    (elim c.then-offset-lt46.either [ inl low ↦ inr (inl (omega (arith, told, low))) | inr high ↦ inr (inr (omega (arith, told, high.1))) ]))
