use Rattle.std.proofs.Common.{sym, ap, ◌∙◌, arith}
use Rattle.std.proofs.lemmas.List.{map_push}
use Rattle.ifr_opcodes.specs.Fields.{form_id}
use Rattle.ifr_scopes.specs.code.Lists.{form_node}
use Rattle.question_audit.specs.code.MetForms.{forms_met}
use Rattle.question_audit.proofs.MetLemmas.{more_ids}
use Rattle.question_audit.proofs.reach.Met.meet.Goals as goal

pub invariant_of-self-2 : goal.invariant_of-self-2
invariant_of-self-2 c =
    let old = c.args.self.now in
    let is = c.id-id.ensures ∙ ap form_id c.op.ensures.bytes in
    let fresh = sym c.contains.ensures ∙ c.if-contains.false in
    record { known = rw (c.in_ok-push.ensures.items, map_push form_node old.order.items c.args.form) (more_ids old.ids c.insert.new.self (forms_met old) (form_node c.args.form) c.id-id.result old.known is fresh (omega arith) c.insert.ensures.numbers) }
