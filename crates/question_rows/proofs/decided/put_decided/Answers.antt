use Rattle.std.proofs.Common.{◌≡◌, ℕ, List, codes, length, sym, ap, subst, ◌∙◌}
use Rattle.std.specs.Prelude.{filter}
use Rattle.hii_bytes.specs.Watching.{pen_of}
use Rattle.ifr_nodes.specs.Guards.{guards_among}
use Rattle.ifr_nodes.specs.Nodes.{nodes_of}
use Rattle.ifr_nodes.specs.code.Checked.{AreNodesOf, IsNodeOf}
use Rattle.hii_questions.specs.Fields.{Asked, questions}
use Rattle.hii_questions.specs.code.Lists.{questions_left}
use Rattle.hii_questions.specs.code.Views.{question_node, question_view}
use Rattle.guard_policy.specs.code.Views.{bytes_of}
use Rattle.guard_policy.specs.declared.policy.Policy.{Policy}
use Rattle.guard_policy.proofs.OptionLemmas.{first_of, rest_of}
use Rattle.question_audit.specs.code.Pages.{audited}
use Rattle.question_audit.specs.Dependences.{decided_by, is_decided_by}
use Rattle.question_audit.specs.code.Naming.{naming}
use Rattle.question_audit.proofs.AskedLemmas.{question_nodes, questions_are_nodes}
use Rattle.question_rows.specs.Dependences.{decided_item}
use Rattle.question_rows.proofs.RunLemmas.{runs_end, runs_failing, runs_first, runs_passing, runs_start}
use Rattle.question_rows.proofs.decided.put_decided.Goals as goal
use Rattle.question_rows.proofs.decided.put_decided.Goals.{After-is_decided}

pub loop-other-init : goal.loop-other-init
loop-other-init g c =
    let page = c.args.page in
    let bytes = bytes_of page.policy in
    let ns = nodes_of bytes in
    let left = questions_left c.all-questions.result in
    let all : left ≡ questions ns = c.all-questions.ensures ∙ ap (λ (b : List ℕ). questions (nodes_of b)) c.questions.ensures.own in
    record {
      written = λ id e. runs_start (codes "<p class=\"small\">decides ") (codes ", ") c.args.is_first (decided_item c.args.when (audited page)) (pen_of g.W.Write.contents c.args.out.now) (decided_by c.args.when ns id)
          (filter (is_decided_by c.args.when ns id) left) (ap (filter (is_decided_by c.args.when ns id)) all);
      nodes = subst (λ (qs : List Asked). AreNodesOf bytes (question_nodes qs)) (sym all) (questions_are_nodes bytes page.policy.accepted.checked.spelled);
    }

pub is_decided-requires-clause-node : goal.is_decided-requires-clause-node
is_decided-requires-clause-node g c =
    let n = question_node c.in-Some.other in
    subst (λ (p : Policy). IsNodeOf (bytes_of p) n) (sym c.policy-policy.ensures) (first_of _ _ _ _ (ap question_nodes c.in-Some.ensures.steps) c.loop-other.invariant.nodes)

pub is_decided-requires-clause-all : goal.is_decided-requires-clause-all
is_decided-requires-clause-all g c = c.requires ∙ ap (λ (p : Policy). length (guards_among (nodes_of (bytes_of p)))) (sym c.policy-policy.ensures)

-- whether the next question is decided
told : (g : _) (c : After-is_decided g) (id : ℕ) → c.args.flags.now ≡ naming (nodes_of (bytes_of c.args.page.policy)) id
    → c.is_decided.result ≡ is_decided_by c.args.when (nodes_of (bytes_of c.args.page.policy)) id (question_view c.in-Some.other)
told g c id e =
    c.is_decided.ensures id (e ∙ ap (λ (p : Policy). naming (nodes_of (bytes_of p)) id) (sym c.policy-policy.ensures))
    ∙ ap (λ (p : Policy). is_decided_by c.args.when (nodes_of (bytes_of p)) id (question_view c.in-Some.other)) c.policy-policy.ensures

pub loop-other-preserved-then-is_decided : goal.loop-other-preserved-then-is_decided
loop-other-preserved-then-is_decided g c =
    let ns = nodes_of (bytes_of c.args.page.policy) in
    let q = question_view c.in-Some.other in
    let i = c.loop-other.invariant in
    record {
      written = λ id e. runs_passing (decided_item c.args.when (audited c.args.page)) (is_decided_by c.args.when ns id) q c.in-Some.ensures.steps
          (sym (told g (goal.at.loop-other-preserved-then-is_decided g c).After-is_decided id e) ∙ c.if-is_decided.true) (i.written id e) c.put_before_item.ensures c.put_item.ensures;
      nodes = rest_of _ _ _ _ (ap question_nodes c.in-Some.ensures.steps) i.nodes;
    }

pub loop-other-preserved : goal.loop-other-preserved
loop-other-preserved g c =
    let ns = nodes_of (bytes_of c.args.page.policy) in
    let q = question_view c.in-Some.other in
    let i = c.loop-other.invariant in
    record {
      written = λ id e. runs_failing (decided_item c.args.when (audited c.args.page)) (is_decided_by c.args.when ns id) q c.in-Some.ensures.steps
          (sym (told g (goal.at.loop-other-preserved g c).After-is_decided id e) ∙ c.if-is_decided.false) (i.written id e);
      nodes = rest_of _ _ _ _ (ap question_nodes c.in-Some.ensures.steps) i.nodes;
    }

pub returns-clause-text : goal.returns-clause-text
returns-clause-text g c = λ id e.
    let ns = nodes_of (bytes_of c.args.page.policy) in
    runs_end (decided_item c.args.when (audited c.args.page)) (ap (filter (is_decided_by c.args.when ns id)) c.in_default.ensures.steps.0) (c.loop-other.invariant.written id e)

pub returns-clause-first : goal.returns-clause-first
returns-clause-first g c = λ id e.
    let ns = nodes_of (bytes_of c.args.page.policy) in
    runs_first (decided_item c.args.when (audited c.args.page)) (ap (filter (is_decided_by c.args.when ns id)) c.in_default.ensures.steps.0) (c.loop-other.invariant.written id e)
