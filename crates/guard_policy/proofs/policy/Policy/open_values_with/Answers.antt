use Rattle.std.proofs.Common.{◌≡◌, ◌∙◌, refl, sym, ap, subst, List, ◌&&◌, ◌||◌, rules}
use Rattle.std.specs.List.{list_any}
use Rattle.ifr_opcodes.specs.Forest.{Node}
use Rattle.ifr_nodes.specs.code.Checked.{AreNodesOf}
use Rattle.ifr_nodes.specs.Nodes.{options}
use Rattle.ifr_scopes.specs.code.OptionsLeft.{options_of_left}
use Rattle.ifr_scopes.specs.code.Parts.{option_node}
use Rattle.hii_values.specs.code.MetValues.{is_met, is_sought}
use Rattle.hii_questions.specs.code.Views.{question_node}
use Rattle.guard_policy.specs.code.OpenValues.{opens}
use Rattle.guard_policy.specs.code.Views.{world_by}
use Rattle.guard_policy.proofs.ClosedLemmas.{one_more}
use Rattle.hii_values.proofs.OptionLemmas.{options_are_nodes}
use Rattle.guard_policy.proofs.OptionLemmas.{first_of, rest_of}
use Rattle.guard_policy.proofs.policy.Policy.open_values_with.Goals as goal

pub loop-option-init : goal.loop-option-init
loop-option-init g c =
    let q = question_node c.args.question in
    let w = world_by c.args.self.now (g.V.Verdicts.met c.args.verdicts.now) in
    let all : options_of_left c.options_of-options.result ≡ options q = c.options_of-options.ensures ∙ ap options c.statement.ensures in
    let met = c.of-met.result in
    record {
      can = search rules;
      ends = search rules;
      last = c.requires.last;
      nodes = subst (AreNodesOf c.args.self.now.forms.now) (sym all) (options_are_nodes c.args.self.now.forms.now q c.args.self.now.accepted.checked.spelled c.requires.node);
      sought = c.of-met.ensures.sought;
      met = λ v. ap (λ b. b || (is_sought met v && list_any (opens w v) (options_of_left c.options_of-options.result))) (c.of-met.ensures.none v)
          ∙ ap (λ (os : List Node). is_sought met v && list_any (opens w v) os) all;
    }

pub meet_open-requires : goal.meet_open-requires
meet_open-requires g c = λ k. ((refl, tt), (first_of _ _ _ _ c.in-Some.ensures.steps c.loop-option.invariant.nodes, c.loop-option.invariant.last))

pub loop-option-preserved : goal.loop-option-preserved
loop-option-preserved g c =
    let w = world_by c.args.self.now (g.V.Verdicts.met c.args.verdicts.now) in
    let o = option_node c.in-Some.option in
    let rest = options_of_left c.next.new.self in
    let before = c.loop-option.met in
    let after = c.meet_open.new.met in
    let was = c.loop-option.invariant in
    let all = options (question_node c.args.question) in
    record {
      can = search rules;
      ends = search rules;
      last = c.meet_open.ensures.last;
      nodes = rest_of _ _ _ _ c.in-Some.ensures.steps was.nodes;
      sought = λ v. c.meet_open.ensures.sought v ∙ was.sought v;
      met = λ v. ap (λ b. b || (is_sought after v && list_any (opens w v) rest)) (c.meet_open.ensures.met v)
          ∙ ap (λ b. (is_met before v || (is_sought before v && opens w v o)) || (b && list_any (opens w v) rest)) (c.meet_open.ensures.sought v)
          ∙ one_more (is_met before v) (is_sought before v) (opens w v o) (list_any (opens w v) rest)
          ∙ ap (λ (os : List Node). is_met before v || (is_sought before v && list_any (opens w v) os)) (sym c.in-Some.ensures.steps)
          ∙ was.met v
          ∙ ap (λ b. b && list_any (opens w v) all) (sym (c.meet_open.ensures.sought v));
    }
