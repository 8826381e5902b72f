use Rattle.std.proofs.Common.{◌≡◌, ◌∙◌, List, ℕ, ap, refl, rules, subst, sym}
use Rattle.std.specs.Prelude.{filter}
use Rattle.std.specs.List.{AllByRecursion}
use Rattle.ifr_nodes.specs.Nodes.{nodes_of}
use Rattle.ifr_nodes.specs.code.Checked.{IsNodeOf}
use Rattle.hii_questions.specs.Fields.{Asked, asked, questions}
use Rattle.hii_questions.specs.code.Lists.{questions_left}
use Rattle.hii_questions.specs.code.Views.{question_node, question_view}
use Rattle.guard_policy.specs.Policy.{fixed}
use Rattle.guard_policy.specs.code.Answers.{unless}
use Rattle.guard_policy.specs.code.Views.{bytes_of, world}
use Rattle.guard_policy.specs.declared.policy.Policy.{Policy}
use Rattle.guard_policy.specs.declared.support.Decision.TheVariants.{Changeable}
use Rattle.form_page.specs.code.PageViews.{world_of}
use Rattle.question_audit.specs.code.Pages.{audited}
use Rattle.question_audit.proofs.KeptLemmas.{kept_told}
use Rattle.image_audit.specs.Difference.{decides_otherwise, verdict_told}
use Rattle.image_audit.proofs.AskedLemmas.{IsAskedOf, questions_are_asked}
use Rattle.image_audit.proofs.TellingLemmas.{all_left, past_failing, past_passing}
use Rattle.image_audit.proofs.difference.put_verdicts.Goals as goal
use Rattle.image_audit.proofs.difference.put_verdicts.Goals.{After-question_changeable_by-here, After-question_changeable_by-there}

pub loop-question-init : goal.loop-question-init
loop-question-init g c =
    let one = c.args.one in
    let bytes = bytes_of one.policy in
    let line = λ (q : Asked). verdict_told c.args.telling (audited one) (audited c.args.other) q.node in
    let all : questions_left c.all-left.result ≡ questions (nodes_of bytes) = c.all-left.ensures ∙ ap (λ (b : List ℕ). questions (nodes_of b)) c.questions.ensures.own in
    record {
      can = search rules;
      ends = search rules;
      asked = subst (AllByRecursion (IsAskedOf bytes)) (sym all) (questions_are_asked bytes one.policy.accepted.checked.spelled);
      text = all_left line _ _ _ (ap (filter (decides_otherwise (audited one) (audited c.args.other))) all);
    }

pub question_changeable_by-here-requires-clause-node : goal.question_changeable_by-here-requires-clause-node
question_changeable_by-here-requires-clause-node g c =
    let is = (subst (AllByRecursion (IsAskedOf (bytes_of c.args.one.policy))) c.in-Some.ensures.steps c.loop-question.invariant.asked).0 in
    subst (λ (p : Policy). IsNodeOf (bytes_of p) (question_node c.in-Some.question)) (sym c.policy.ensures) is.0

pub question_changeable_by-here-requires-clause-asked : goal.question_changeable_by-here-requires-clause-asked
question_changeable_by-here-requires-clause-asked g c =
    let q = question_view c.in-Some.question in
    let is = (subst (AllByRecursion (IsAskedOf (bytes_of c.args.one.policy))) c.in-Some.ensures.steps c.loop-question.invariant.asked).0 in
    subst (λ (p : Policy). q ≡ asked (nodes_of (bytes_of p)) q.node) (sym c.policy.ensures) is.1

-- what forbids, over the one page and over the other
here : (g : _) (c : After-question_changeable_by-here g) → c.question_changeable_by-here.result ≡ unless (fixed (world_of c.args.one) (question_node c.in-Some.question))
here g c =
    let page = c.args.one in
    let stores = page.stores.now in
    let n = question_node c.in-Some.question in
    let statement = c.in-Some.question.statement in
    let is = (subst (AllByRecursion (IsAskedOf (bytes_of page.policy))) c.in-Some.ensures.steps c.loop-question.invariant.asked).0 in
    let tells = kept_told page.policy c.policy.result stores (g.C.Conditions.holding c.conditions.result.now) (Changeable statement) c.policy.ensures c.conditions.ensures is.0 refl in
    c.question_changeable_by-here.ensures statement refl stores tells ∙ ap (λ (p : Policy). unless (fixed (world p stores) n)) c.policy.ensures

there : (g : _) (c : After-question_changeable_by-there g) → c.question_changeable_by-there.result ≡ unless (fixed (world_of c.args.other) (question_node c.in-Some.question))
there g c =
    let page = c.args.other in
    let stores = page.stores.now in
    let n = question_node c.in-Some.question in
    let statement = c.in-Some.question.statement in
    let is = (subst (AllByRecursion (IsAskedOf (bytes_of c.args.one.policy))) c.in-Some.ensures.steps c.loop-question.invariant.asked).0 in
    let node = subst (λ (bytes : List ℕ). IsNodeOf bytes n) (sym c.requires.same) is.0 in
    let tells = kept_told page.policy c.policy-in-Some.result stores (g.C.Conditions.holding c.conditions-in-Some.result.now) (Changeable statement) c.policy-in-Some.ensures c.conditions-in-Some.ensures
    node refl in
    c.question_changeable_by-there.ensures statement refl stores tells ∙ ap (λ (p : Policy). unless (fixed (world p stores) n)) c.policy-in-Some.ensures

pub loop-question-preserved-then-are_other_verdicts : goal.loop-question-preserved-then-are_other_verdicts
loop-question-preserved-then-are_other_verdicts g c =
    let one = c.args.one in
    let other = c.args.other in
    let line = λ (q : Asked). verdict_told c.args.telling (audited one) (audited other) q.node in
    let q = question_view c.in-Some.question in
    let steps = c.in-Some.ensures.steps in
    let inv = c.loop-question.invariant in
    let at = goal.at.loop-question-preserved-then-are_other_verdicts g c in
    let a = here g at.After-question_changeable_by-here in
    let b = there g at.After-question_changeable_by-there in
    let told = sym (c.are_other_verdicts.ensures (fixed (world_of one) q.node) (fixed (world_of other) q.node) a b) ∙ c.if-are_other_verdicts.true in
    record {
      can = search rules;
      ends = search rules;
      asked = (subst (AllByRecursion (IsAskedOf (bytes_of one.policy))) steps inv.asked).1;
      text = past_passing line (decides_otherwise (audited one) (audited other)) _ _ _ _ _ _ q steps told inv.text (c.put_verdict_told.ensures (audited other) a b);
    }

pub loop-question-preserved : goal.loop-question-preserved
loop-question-preserved g c =
    let one = c.args.one in
    let other = c.args.other in
    let line = λ (q : Asked). verdict_told c.args.telling (audited one) (audited other) q.node in
    let q = question_view c.in-Some.question in
    let steps = c.in-Some.ensures.steps in
    let inv = c.loop-question.invariant in
    let at = goal.at.loop-question-preserved g c in
    let a = here g at.After-question_changeable_by-here in
    let b = there g at.After-question_changeable_by-there in
    let told = sym (c.are_other_verdicts.ensures (fixed (world_of one) q.node) (fixed (world_of other) q.node) a b) ∙ c.if-are_other_verdicts.false in
    record {
      can = search rules;
      ends = search rules;
      asked = (subst (AllByRecursion (IsAskedOf (bytes_of one.policy))) steps inv.asked).1;
      text = past_failing line (decides_otherwise (audited one) (audited other)) _ _ _ _ _ q steps told inv.text;
    }
