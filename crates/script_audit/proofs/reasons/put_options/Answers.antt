use Rattle.std.proofs.Common.{codes, ap, refl}
use Rattle.std.specs.List.{flat_map}
use Rattle.hii_bytes.proofs.WritingLemmas.{◌⨾◌, Stands-start, past_piece}
use Rattle.ifr_scopes.specs.code.Parts.{option_node, options_left}
use Rattle.script_audit.specs.Because.{option_word}
use Rattle.script_audit.proofs.reasons.put_options.Goals as goal

pub loop-option-init : goal.loop-option-init
loop-option-init g c = rw c.options-options.ensures (past_piece _ _ _ _ _ (codes "its options are") _ refl (Stands-start _ _) c.put.ensures)

pub loop-option-preserved : goal.loop-option-preserved
loop-option-preserved g c =
    past_piece _ _ _ _ _ (option_word (option_node c.in-Some.option)) (flat_map option_word (options_left c.next.new.self)) (ap (flat_map option_word) c.in-Some.ensures.steps) c.loop-option.invariant
    (rw (c.value.ensures, c.op.ensures.bytes) at (c.put-in-Some.ensures ⨾ c.put_decimal.ensures))
