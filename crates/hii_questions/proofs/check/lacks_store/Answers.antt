use Rattle.std.proofs.Common.{◌≡◌, ap, sym, ◌∙◌}
use Rattle.std.specs.Prelude.{is_some}
use Rattle.ifr_opcodes.specs.Fields.{question_store}
use Rattle.ifr_nodes.specs.Nodes.{nodes_of}
use Rattle.hii_questions.specs.Faults.{is_known}
use Rattle.hii_questions.specs.code.Views.{question_node}
use Rattle.hii_questions.proofs.ReadLemmas.{none_lacked, size_known}
use Rattle.hii_questions.proofs.check.lacks_store.Goals as goal
use Rattle.hii_questions.proofs.check.lacks_store.Goals.{then-store-eq0-via-then-store-eq0, then-store-eq0-via-else-store-eq0+then-is_some}

pub returns-then-store-eq0-clause-told : goal.returns-then-store-eq0-clause-told
returns-then-store-eq0-clause-told c =
    let ns = nodes_of c.args.forms.now in
    let q = c.args.question in
    let named : c.store-store.result ≡ question_store (question_node q).op = c.store-store.ensures ∙ ap question_store c.op.ensures.bytes in
    sym (elim c.then-store-eq0.branch [
      | then-store-eq0-via-then-store-eq0 w ↦ none_lacked (is_known ns) (question_node q) (sym named ∙ w.if-store-eq0.true)
      | then-store-eq0-via-else-store-eq0+then-is_some w ↦ size_known ns (question_node q) (ap is_some (sym c.requires.sized) ∙ sym w.is_some.ensures ∙ w.if-is_some.true)
    ])
