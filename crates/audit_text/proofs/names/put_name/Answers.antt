use Rattle.std.proofs.lemmas.List.{take_rest}
use Rattle.audit_text.specs.code.Names.{shown_in}
use Rattle.audit_text.proofs.TextLemmas.{past_byte}
use Rattle.audit_text.proofs.names.put_name.Goals as goal

pub loop-rest-preserved : goal.loop-rest-preserved
loop-rest-preserved g c =
    let rest = c.loop-rest.rest.now in
    past_byte (shown_in c.args.named) rest _ (take_rest rest 1) c.in-len1-up.len_at_least c.loop-rest.invariant (rw c.shown.ensures at c.put-in-len1-up.ensures)
