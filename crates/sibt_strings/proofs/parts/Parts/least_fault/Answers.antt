use Rattle.std.proofs.Common.{◌≢◌, ◌⊎◌, ◌+◌, ◌≤◌, None, ap, ◌∙◌, arith, inl, inr, not}
use Rattle.browser_rules.specs.Strings.{info_offset, language_of}
use Rattle.hii_packages.specs.code.Package.{package_of}
use Rattle.sibt_strings.proofs.FaultLemmas.{least_block, least_language, none_mapped, some_mapped}
use Rattle.sibt_strings.proofs.parts.Parts.least_fault.Goals as goal

pub returns-then-at-gt46 : goal.returns-then-at-gt46
returns-then-at-gt46 c =
    let p = c.args.self in
    let source = package_of p.source in
    let none = none_mapped _ _ (language_of source) p.language_is c.if-is_none.ensures in
    rw c.bad_language.ensures (least_language source p.block_bytes.now c.args.bad_block p.fixed p.blocks_are none c.requires (omega (arith, p.offset_is, c.if-at-gt46.true)))

pub returns : goal.returns
returns c =
    let p = c.args.self in
    let source = package_of p.source in
    let first : (language_of source ≢ None) ⊎ (info_offset source.bytes + c.args.bad_block.place ≤ 46) =
    elim c.else-is_none.either [
      | inl early ↦ inr (omega (arith, p.offset_is, early.1))
      | inr some ↦ inl (some_mapped _ _ (language_of source) p.language_is (c.is_none.ensures ∙ ap not some))
    ] in
    rw (c.at.ensures, p.offset_is) (least_block source p.block_bytes.now c.args.bad_block p.fixed p.blocks_are c.requires first)
