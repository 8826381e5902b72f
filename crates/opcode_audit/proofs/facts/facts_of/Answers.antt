use Rattle.std.proofs.Common.{List, ◌∷◌, ◌++◌, [], ◌∙◌, ap}
use Rattle.std.proofs.lemmas.List.{take_rest}
use Rattle.browser_rules.specs.Opcodes.{number}
use Rattle.opcode_audit.specs.Facts.{Fact, facts_in, tail_of}
use Rattle.opcode_audit.specs.Layouts.{fields_of}
use Rattle.opcode_audit.specs.code.Columns.{head_of, listed}
use Rattle.opcode_audit.proofs.FieldLemmas.{facts_joined}
use Rattle.opcode_audit.proofs.facts.facts_of.Goals as goal

pub returns : goal.returns
returns c =
    let op = c.args.opcode.now in
    let layout = c.layout_of-layout.result in
    let own = listed (layout.first ∷ layout.second ∷ layout.third ∷ layout.fourth ∷ []) in
    facts_joined op c.push_head-rest.result.now c.push_fields-rest.result.now (head_of layout.head) own (tail_of op) (fields_of (number op)) c.layout_of-layout.ensures (rw (take_rest op 2) at c.push_head-rest.ensures.behind)
    c.push_fields-rest.ensures.behind
    ((rw c.tail_of.ensures at c.push_fields.ensures.added)
    ∙ ap (λ (l : List Fact). l ++ facts_in (tail_of op) c.push_fields-rest.result.now)
    (c.push_fields-rest.ensures.added ∙ ap (λ (l : List Fact). l ++ facts_in own c.push_head-rest.result.now) (rw (c.new-facts.ensures, take_rest op 2) at c.push_head-rest.ensures.added)))
