use Rattle.std.proofs.lemmas.List.{take_rest}
use Rattle.ifr_nodes.specs.Nodes.{nodes_of}
use Rattle.guard_policy.specs.code.Views.{bytes_of}
use Rattle.question_rows.proofs.LinkLemmas.{all_linked, past_byte}
use Rattle.question_rows.proofs.referring.put_linked.Goals as goal

pub loop-rest-preserved : goal.loop-rest-preserved
loop-rest-preserved g c =
    let rest = c.loop-rest.rest.now in
    rw c.saturating_sub-left.ensures
    (past_byte (nodes_of (bytes_of c.args.page.policy)) rest _ c.loop-rest.left c.put_link_start-left.result (take_rest rest 1) c.in-len1-up.len_at_least c.put_link_start-left.ensures.left c.loop-rest.invariant c.put_link_start-left.ensures.text c.put_html_byte.ensures
    c.put_link_end.ensures)

pub returns : goal.returns
returns g c = all_linked (nodes_of (bytes_of c.args.page.policy)) c.loop-rest.left c.loop-rest.rest.now c.in_default.len_below c.loop-rest.invariant
