use Rattle.std.proofs.Common.{◌∙◌, refl, sym, ap, rules}
use Rattle.ifr_scopes.specs.code.Parts.{option_node}
use Rattle.hii_questions.specs.code.PlacedLeft.{placed_left}
use Rattle.guard_policy.proofs.OptionLemmas.{first_of, rest_of}
use Rattle.guard_policy.specs.Policy.{fixed}
use Rattle.guard_policy.specs.code.Answers.{unless}
use Rattle.guard_policy.specs.code.Views.{world_by}
use Rattle.guard_policy.proofs.ClosedLemmas.{standing, open_one, fixed_one}
use Rattle.guard_policy.proofs.DenialLemmas.{none_of, some_of}
use Rattle.guard_policy.proofs.policy.Policy.one_open.Goals as goal

pub option_selectable-requires : goal.option_selectable-requires
option_selectable-requires g c = λ k. ((refl, tt), (first_of _ _ _ _ c.in-Some.ensures.steps c.loop-option.invariant.nodes, c.loop-option.invariant.last))

pub returns-in-Ok : goal.returns-in-Ok
returns-in-Ok g c =
    let w = world_by c.args.self.now (g.V.Verdicts.met c.args.verdicts.now) in
    let o = option_node c.in-Some.option in
    let rest = placed_left c.next.new.self in
    let free = none_of (fixed w o) (sym c.option_selectable.ensures.fixed ∙ c.in-Ok.is) in
    let none = ap (standing w c.loop-option.first) c.in-Some.ensures.steps ∙ open_one w c.loop-option.first o rest free in
    ap unless (sym none ∙ c.loop-option.invariant.same)

pub loop-option-preserved : goal.loop-option-preserved
loop-option-preserved g c =
    let w = world_by c.args.self.now (g.V.Verdicts.met c.args.verdicts.now) in
    let o = option_node c.in-Some.option in
    let rest = placed_left c.next.new.self in
    let why = some_of (fixed w o) c.in-Err.denial (sym c.option_selectable.ensures.fixed ∙ c.in-Err.is) in
    let more = ap (standing w c.loop-option.first) c.in-Some.ensures.steps ∙ fixed_one w c.loop-option.first o rest c.in-Err.denial why in
    record {
      can = search rules;
      ends = search rules;
      last = c.option_selectable.ensures.last;
      nodes = rest_of _ _ _ _ c.in-Some.ensures.steps c.loop-option.invariant.nodes;
      same = rw c.or-first.ensures (sym more ∙ c.loop-option.invariant.same);
    }
