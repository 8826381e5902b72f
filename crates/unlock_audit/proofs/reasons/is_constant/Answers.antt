use Rattle.std.proofs.Common.{List, sym, ap}
use Rattle.std.specs.List.{list_any}
use Rattle.ifr_opcodes.specs.Forest.{Node}
use Rattle.ifr_nodes.specs.Nodes.{nodes_of}
use Rattle.hii_questions.specs.code.Views.{question_node}
use Rattle.guard_policy.specs.code.Views.{bytes_of}
use Rattle.guard_policy.proofs.IndexedLemmas.{of_statement}
use Rattle.question_audit.specs.QuestionLines.{is_constant_at}
use Rattle.question_audit.proofs.AroundLemmas.{guards_found}
use Rattle.unlock_audit.proofs.reasons.is_constant.Goals as goal

pub loop-guard-init : goal.loop-guard-init
loop-guard-init c =
    let n = question_node c.args.question in
    ap (λ (gs : List Node). list_any (is_constant_at (nodes_of (bytes_of c.args.policy)) c.args.place) gs)
    (guards_found c.args.policy n _ c.place.result _ c.requires (of_statement n c.args.question.statement.statement) (sym c.place.ensures) c.forms-forms.ensures c.guards_at-guards.ensures.guards)
