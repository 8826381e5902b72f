use Rattle.std.proofs.Common.{ℕ, List, length, filter, count_by, ap, ◌∙◌}
use Rattle.ifr_opcodes.specs.Rows.{is_question_number}
use Rattle.ifr_nodes.specs.Nodes.{is_question, nodes_of}
use Rattle.ifr_index.specs.declared.index.Entry.{Entry}
use Rattle.ifr_scopes.proofs.QuestionCountLemmas.{questions_counted}
use Rattle.ifr_scopes.proofs.forms.Forms.question_count.Goals as goal

pub returns : goal.returns
returns c =
    let ns = nodes_of c.self.inside.ifr.now in
    let entries = c.deref.ensures.value ∙ c.self.invariant.index.entries in
    c.count_questions.ensures ∙ ap (count_by (λ (e : Entry). is_question_number e.code)) entries ∙ questions_counted ns ns ∙ ap (λ (b : List ℕ). length (filter is_question (nodes_of b))) c.self.view_is
