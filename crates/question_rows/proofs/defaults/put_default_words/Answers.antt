use Rattle.std.proofs.Common.{ap, sym, ◌∙◌}
use Rattle.std.proofs.lemmas.Bool.{cond-false, cond-true, eq-eqb, ne_eqb}
use Rattle.hii_bytes.proofs.WritingLemmas.{◌⨾◌}
use Rattle.ifr_opcodes.specs.declared.codes.TheConstants.{CHECKBOX}
use Rattle.ifr_opcodes.specs.Opcode.{number}
use Rattle.ifr_scopes.specs.code.Lists.{statement_node}
use Rattle.condition_text.proofs.WriteLemmas.{written_as}
use Rattle.question_rows.proofs.defaults.put_default_words.Goals as goal

pub returns-then-op-eq-CHECKBOX : goal.returns-then-op-eq-CHECKBOX
returns-then-op-eq-CHECKBOX g c =
    written_as (rw c.on_or_off.ensures at c.put.ensures) (sym (cond-true _ _ _ (eq-eqb (number (statement_node c.args.statement).op) CHECKBOX (sym (ap number c.op.ensures.bytes) ∙ c.if-op-eq-CHECKBOX.true))))

pub returns : goal.returns
returns g c =
    written_as (c.put-2.ensures ⨾ c.put_html_line.ensures ⨾ c.put_option_behind.ensures ⨾ c.put-3.ensures)
    (sym (cond-false _ _ _ (ne_eqb (number (statement_node c.args.statement).op) CHECKBOX (λ same. c.if-op-eq-CHECKBOX.false (ap number c.op.ensures.bytes ∙ same)))))
