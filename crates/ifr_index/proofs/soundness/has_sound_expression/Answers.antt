use Rattle.std.proofs.Common.{◌≡◌, true, sym, ap, ◌∙◌}
use Rattle.std.proofs.lemmas.Bool.{false≢true}
use Rattle.hii_bytes.specs.Faults.{HasNone}
use Rattle.ifr_expr.specs.Faults.{IsExpressionFault}
use Rattle.ifr_nodes.specs.Nodes.{nodes_of}
use Rattle.ifr_nodes.specs.Structure.{is_expression}
use Rattle.ifr_nodes.specs.code.Checked.{node_in}
use Rattle.ifr_nodes.proofs.ExpressionLemmas.{StandsFrom}
use Rattle.ifr_index.proofs.MetLemmas.{met_is, met_stands, met_marks, met_fault}
use Rattle.ifr_index.proofs.soundness.has_sound_expression.Goals as goal
use Rattle.ifr_index.proofs.soundness.has_sound_expression.Goals.{After-has_expression, After-end_of}

-- whether an expression stands there
asked : (c : After-has_expression) → is_expression (node_in c.args.ifr.now c.args.op.place) ≡ c.has_expression.result
asked c =
    let n = node_in c.args.ifr.now c.args.op.place in
    sym (c.has_expression.ensures (nodes_of c.args.ifr.now) n.path n.children c.requires.around ∙ ap is_expression (met_is c.args.ifr.now c.args.op c.args.level.now c.requires))

-- and where
stood : (c : After-end_of) → is_expression (node_in c.args.ifr.now c.args.op.place) ≡ true → StandsFrom c.args.ifr.now (node_in c.args.ifr.now c.args.op.place) c.args.op.place c.end_of.result
stood c is = met_stands c.args.ifr.now c.args.op c.args.level.now c.end_of.result c.requires is c.end_of.ensures

pub returns-then-not-has_expression-clause-sound : goal.returns-then-not-has_expression-clause-sound
returns-then-not-has_expression-clause-sound c = λ told clear.
    let no = asked (goal.at.returns-then-not-has_expression-clause-sound c).After-has_expression ∙ c.if-not-has_expression.true in
    record { clear = clear; expression = λ is. absurd (false≢true (sym no ∙ is)) }

pub check-requires-clause-within : goal.check-requires-clause-within
check-requires-clause-within c =
    (stood (goal.at.check-requires-clause-within c).After-end_of (asked (goal.at.check-requires-clause-within c).After-has_expression ∙ c.if-not-has_expression.false)).within

pub check-requires-clause-node : goal.check-requires-clause-node
check-requires-clause-node c =
    (stood (goal.at.check-requires-clause-node c).After-end_of (asked (goal.at.check-requires-clause-node c).After-has_expression ∙ c.if-not-has_expression.false)).is_node

pub returns-in-Ok-clause-sound : goal.returns-in-Ok-clause-sound
returns-in-Ok-clause-sound c = λ told clear.
    let is = asked (goal.at.returns-in-Ok-clause-sound c).After-has_expression ∙ c.if-not-has_expression.false in
    let s = stood (goal.at.returns-in-Ok-clause-sound c).After-end_of is in
    record {
      clear = clear;
      expression = λ asks. met_marks c.args.ifr.now c.args.op c.args.level.now c.end_of.result (λ place marks. HasNone (IsExpressionFault place marks)) _ c.requires s.opcodes c.in-Ok.ensures.sound;
    }

pub returns-in-Err-clause-faulty : goal.returns-in-Err-clause-faulty
returns-in-Err-clause-faulty c = λ told none.
    let is = asked (goal.at.returns-in-Err-clause-faulty c).After-has_expression ∙ c.if-not-has_expression.false in
    let s = stood (goal.at.returns-in-Err-clause-faulty c).After-end_of is in
    let fault = met_marks c.args.ifr.now c.args.op c.args.level.now c.end_of.result (λ place marks. IsExpressionFault place marks c.in-Err.field-0.cause c.in-Err.field-0.place) _ c.requires s.opcodes c.in-Err.ensures.refused.told in
    none _ _ (met_fault c.args.ifr.now c.args.op c.args.level.now _ _ c.requires is fault)
