use Rattle.std.proofs.Common.{◌++◌, ℕ, not, List, ap, sym, ◌∙◌, map}
use Rattle.ifr_nodes.specs.Nodes.{nodes_of}
use Rattle.ifr_scopes.specs.code.Lists.{guard_node}
use Rattle.hii_questions.specs.code.Views.{question_view}
use Rattle.hii_questions.proofs.LawLemmas.{finds_questions}
use Rattle.question_audit.proofs.AskedLemmas.{found_with}
use Rattle.unlock_audit.specs.Moves.{constants_about, moved, values_of}
use Rattle.unlock_audit.specs.declared.moves.Move.{Move}
use Rattle.unlock_audit.proofs.AskingLemmas.{on_ok}
use Rattle.unlock_audit.proofs.MoveLemmas.{moves_found, moves_where, some_field}
use Rattle.unlock_audit.proofs.moves.add_moves.Goals as goal

pub add_values-requires : goal.add_values-requires
add_values-requires c = record {
  node = (found_with c.args.forms.now c.args.questions.now.ifr c.args.id (question_view c.in-Some.question) c.bytes.ensures.accepted.checked.spelled c.requires.own c.in-Some.ensures).node;
}

pub returns : goal.returns
returns c =
    let q = question_view c.in-Some.question in
    let found = found_with c.args.forms.now c.args.questions.now.ifr c.args.id q c.bytes.ensures.accepted.checked.spelled c.requires.own c.in-Some.ensures in
    let ns = nodes_of c.args.forms.now in
    let cs = map guard_node c.args.conditions.now in
    let id = (finds_questions ns c.args.id q.node found.with_id).2 in
    let some = some_field _ _ q.field c.field.ensures.found (c.is_none.ensures ∙ ap not c.if-is_none.false) in
    on_ok c.add_values.result (λ h.
    h ∙ ap (λ (k : ℕ). c.args.moves.now.items ++ map (moved k) (values_of q (constants_about ns cs k))) id ∙ ap (λ (l : List Move). c.args.moves.now.items ++ l) (sym (moves_found ns cs c.args.id q found.with_id found.own ∙ moves_where ns cs c.args.id q some))) c.add_values.ensures
