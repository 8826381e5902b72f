use Rattle.std.proofs.Common.{length, sym, ◌∙◌}
use Rattle.std.proofs.lemmas.Bool.{ltb-false, ltb-true}
use Rattle.std.proofs.lemmas.List.{get_or_past, get_or_read}
use Rattle.ifr_opcodes.proofs.FieldLemmas.{number_of_byte}
use Rattle.opcode_audit.proofs.facts.byte_at.Goals as goal

pub returns-in-Some : goal.returns-in-Some
returns-in-Some c =
    let bytes = c.args.bytes.now in
    let at = c.args.at in
    get_or_read bytes at c.in-Some.byte.now (ltb-true at (length bytes) (sym c.in-Some.ensures.lookup.0)) c.in-Some.ensures.lookup.1 0 ∙ number_of_byte bytes at

pub returns-in-None : goal.returns-in-None
returns-in-None c =
    let bytes = c.args.bytes.now in
    let at = c.args.at in
    sym (get_or_past bytes at 0 (ltb-false at (length bytes) (sym c.in-None.ensures.lookup.0))) ∙ number_of_byte bytes at
