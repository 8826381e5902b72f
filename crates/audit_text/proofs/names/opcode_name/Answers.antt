use Rattle.std.proofs.Common.{◌≡◌, ◌<◌, ◌≤◌, ℕ, List, [], get_or, map, refl, sym, ap, ◌∙◌, length}
use Rattle.std.proofs.Math.ListN.{get_or-map}
use Rattle.std.proofs.lemmas.Bool.{ltb-true, ltb-false}
use Rattle.std.proofs.lemmas.List.{get_or_read, get_or_past}
use Rattle.audit_text.specs.Words.{opcode_names}
use Rattle.audit_text.specs.code.Names.{word_in}
use Rattle.audit_text.specs.declared.opcode_names.TheConstants.{OPCODE_NAMES}
use Rattle.audit_text.proofs.names.opcode_name.Goals as goal

same : map word_in OPCODE_NAMES ≡ opcode_names
same = refl

pub returns-in-Some : goal.returns-in-Some
returns-in-Some c =
    let i = c.from.result in
    let padded = c.in-Some.padded.now in
    let here : padded ≡ get_or OPCODE_NAMES i padded = c.in-Some.ensures.lookup.1 in
    let within : i < length opcode_names = ltb-true i (length opcode_names) (sym c.in-Some.ensures.lookup.0) in
    let word : word_in padded ≡ get_or opcode_names i (word_in padded) =
    ap word_in here ∙ sym (get_or-map word_in OPCODE_NAMES i padded) ∙ ap (λ (names : List (List ℕ)). get_or names i (word_in padded)) same in
    c.unpadded.ensures ∙ get_or_read opcode_names i (word_in padded) within word [] ∙ ap (λ (n : ℕ). get_or opcode_names n []) c.from.ensures

pub returns-in-None : goal.returns-in-None
returns-in-None c =
    let i = c.from.result in
    let past : length opcode_names ≤ i = ltb-false i (length opcode_names) (sym c.in-None.ensures.lookup.0) in
    sym (ap (λ (n : ℕ). get_or opcode_names n []) (sym c.from.ensures) ∙ get_or_past opcode_names i [] past)
