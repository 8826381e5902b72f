use Rattle.std.proofs.Common.{◌≡◌, ◌∙◌, refl, sym, ap, subst, List, ◌∷◌, rules}
use Rattle.std.specs.Prelude.{filter, ◌==◌}
use Rattle.std.proofs.lemmas.List.Elements.{All-filter}
use Rattle.std.proofs.lemmas.Bool.{cond-true, cond-false, eq-eqb, ne_eqb}
use Rattle.ifr_opcodes.specs.Fields.{option_value}
use Rattle.ifr_opcodes.specs.Forest.{Node}
use Rattle.ifr_nodes.specs.code.Checked.{AreNodesOf, IsNodeOf}
use Rattle.ifr_nodes.specs.Nodes.{options}
use Rattle.ifr_scopes.specs.code.OptionsLeft.{options_of_left}
use Rattle.ifr_scopes.specs.code.Parts.{option_node}
use Rattle.hii_values.specs.code.OptionPlaces.{has_value}
use Rattle.hii_questions.specs.code.PlacedLeft.{placed_left}
use Rattle.hii_questions.specs.code.Views.{question_node}
use Rattle.guard_policy.specs.Policy.{all_fixed, fixed}
use Rattle.guard_policy.specs.code.Answers.{unless}
use Rattle.guard_policy.specs.code.Views.{world_by}
use Rattle.guard_policy.proofs.ClosedLemmas.{standing, open_one, fixed_one}
use Rattle.guard_policy.proofs.DenialLemmas.{none_of, some_of}
use Rattle.hii_values.proofs.OptionLemmas.{options_are_nodes}
use Rattle.guard_policy.proofs.OptionLemmas.{first_of, rest_of}
use Rattle.guard_policy.proofs.policy.Policy.option_open_with.Goals as goal

pub one_open-requires : goal.one_open-requires
one_open-requires g c =
    let bytes = c.args.self.now.forms.now in
    let q = question_node c.args.question in
    let all = options_are_nodes bytes q c.args.self.now.accepted.checked.spelled c.requires.node in
    let nodes : AreNodesOf bytes (placed_left c.in-Some.options) = subst (AreNodesOf bytes) (sym c.in-Some.ensures) (All-filter (has_value c.args.value) (IsNodeOf bytes) (options q) all) in
    λ k. ((refl, tt), (nodes, c.requires.last))

pub loop-option-init : goal.loop-option-init
loop-option-init g c =
    let q = question_node c.args.question in
    let w = world_by c.args.self.now (g.V.Verdicts.met c.args.verdicts.now) in
    let all : options_of_left c.options_of-options.result ≡ options q = c.options_of-options.ensures ∙ ap options c.statement.ensures in
    record {
      can = search rules;
      ends = search rules;
      last = c.requires.last;
      nodes = subst (AreNodesOf c.args.self.now.forms.now) (sym all) (options_are_nodes c.args.self.now.forms.now q c.args.self.now.accepted.checked.spelled c.requires.node);
      same = ap (λ (os : List Node). all_fixed w (filter (λ o. option_value o.op == c.args.value) os)) all;
    }

pub option_selectable-requires : goal.option_selectable-requires
option_selectable-requires g c = λ k. ((refl, tt), (first_of _ _ _ _ c.in-Some-next.ensures.steps c.loop-option.invariant.nodes, c.loop-option.invariant.last))

pub returns-in-Ok : goal.returns-in-Ok
returns-in-Ok g c =
    let w = world_by c.args.self.now (g.V.Verdicts.met c.args.verdicts.now) in
    let o = option_node c.in-Some-next.option in
    let told : c.value.result ≡ option_value o.op = c.value.ensures ∙ ap option_value c.op.ensures.bytes in
    let rest = filter (λ (p : Node). option_value p.op == c.args.value) (options_of_left c.next.new.self) in
    let split = cond-true (option_value o.op == c.args.value) (o ∷ rest) rest (eq-eqb (option_value o.op) c.args.value (sym told ∙ c.if-value.true)) in
    let free = none_of (fixed w o) (sym c.option_selectable.ensures.fixed ∙ c.in-Ok.is) in
    let none = ap (standing w c.loop-option.first) (ap (filter (λ (p : Node). option_value p.op == c.args.value)) c.in-Some-next.ensures.steps ∙ split) ∙ open_one w c.loop-option.first o rest free in
    ap unless (sym none ∙ c.loop-option.invariant.same)

pub loop-option-preserved-in-Err : goal.loop-option-preserved-in-Err
loop-option-preserved-in-Err g c =
    let w = world_by c.args.self.now (g.V.Verdicts.met c.args.verdicts.now) in
    let o = option_node c.in-Some-next.option in
    let told : c.value.result ≡ option_value o.op = c.value.ensures ∙ ap option_value c.op.ensures.bytes in
    let rest = filter (λ (p : Node). option_value p.op == c.args.value) (options_of_left c.next.new.self) in
    let split = cond-true (option_value o.op == c.args.value) (o ∷ rest) rest (eq-eqb (option_value o.op) c.args.value (sym told ∙ c.if-value.true)) in
    let why = some_of (fixed w o) c.in-Err.denial (sym c.option_selectable.ensures.fixed ∙ c.in-Err.is) in
    let more = ap (standing w c.loop-option.first) (ap (filter (λ (p : Node). option_value p.op == c.args.value)) c.in-Some-next.ensures.steps ∙ split) ∙ fixed_one w c.loop-option.first o rest c.in-Err.denial why in
    record {
      can = search rules;
      ends = search rules;
      last = c.option_selectable.ensures.last;
      nodes = rest_of _ _ _ _ c.in-Some-next.ensures.steps c.loop-option.invariant.nodes;
      same = rw c.or-first.ensures (sym more ∙ c.loop-option.invariant.same);
    }

pub loop-option-preserved : goal.loop-option-preserved
loop-option-preserved g c =
    let w = world_by c.args.self.now (g.V.Verdicts.met c.args.verdicts.now) in
    let o = option_node c.in-Some-next.option in
    let told : c.value.result ≡ option_value o.op = c.value.ensures ∙ ap option_value c.op.ensures.bytes in
    let rest = filter (λ (p : Node). option_value p.op == c.args.value) (options_of_left c.next.new.self) in
    let split = cond-false (option_value o.op == c.args.value) (o ∷ rest) rest (ne_eqb (option_value o.op) c.args.value (λ e. c.if-value.false (told ∙ e))) in
    let passed = ap (standing w c.loop-option.first) (ap (filter (λ (p : Node). option_value p.op == c.args.value)) c.in-Some-next.ensures.steps ∙ split) in
    record {
      can = search rules;
      ends = search rules;
      last = c.loop-option.invariant.last;
      nodes = rest_of _ _ _ _ c.in-Some-next.ensures.steps c.loop-option.invariant.nodes;
      same = sym passed ∙ c.loop-option.invariant.same;
    }
