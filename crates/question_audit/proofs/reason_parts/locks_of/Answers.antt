use Rattle.std.proofs.Common.{◌≡◌, ◌∷◌, ℕ, Option, None, Some, List, [], true, false, map, option_map, refl, sym, ap, ◌∙◌}
use Rattle.std.specs.Prelude.{is_some, not}
use Rattle.ifr_opcodes.specs.Forest.{Node}
use Rattle.ifr_nodes.specs.Locks.{first_of_nodes, locks}
use Rattle.ifr_nodes.specs.Nodes.{is_statement, nodes_of}
use Rattle.ifr_nodes.specs.code.Checked.{has_node, has_statement, node_in}
use Rattle.ifr_nodes.proofs.ViewLemmas.{contains_found, node_in_place}
use Rattle.ifr_index.specs.code.Index.{lock_of_indexed}
use Rattle.ifr_scopes.specs.code.Lists.{statement_node}
use Rattle.ifr_scopes.specs.code.LocksLeft.{lock_node}
use Rattle.ifr_scopes.specs.declared.locks.LockView.{LockView}
use Rattle.hii_values.specs.declared.denial.DenialKind.TheVariants.{Locked}
use Rattle.hii_questions.specs.code.Views.{question_node}
use Rattle.guard_policy.specs.Policy.{denied_by}
use Rattle.guard_policy.specs.code.Views.{bytes_of}
use Rattle.guard_policy.proofs.IndexedLemmas.{lock_there, of_statement}
use Rattle.question_audit.proofs.AroundLemmas.{same_forms}
use Rattle.question_audit.proofs.reason_parts.locks_of.Goals as goal
use Rattle.question_audit.proofs.reason_parts.locks_of.Goals.{After-place-2}

-- where there is no first one there is none
none_first : (ns : List Node) → first_of_nodes ns ≡ None → ns ≡ []
none_first [] e = refl
none_first (n ∷ ns) e = absurd cc

no_node : (lock : Option LockView) → is_some lock ≡ false → option_map lock_node lock ≡ None
no_node None e = refl
no_node (Some lock) e = absurd cc

-- The one that decides is looked up, and there is none.
pub returns-then-is_none : goal.returns-then-is_none
returns-then-is_none g c =
    let page = c.args.page in
    let n = question_node c.args.question in
    let own = same_forms c.forms-forms.result.now c.policy.result page.policy c.forms-forms.ensures c.policy.ensures in
    let kept = c.lock.ensures ∙ c.around.ensures.lock ∙ ap (λ (b : List ℕ). lock_of_indexed (nodes_of b) c.place.result) own in
    let first = lock_there (bytes_of page.policy) n c.place.result _ page.policy.accepted.checked.spelled c.requires (of_statement n c.args.question.statement.statement) (sym c.place.ensures) kept in
    let none = none_first (locks (nodes_of (bytes_of page.policy)) n) (sym first ∙ no_node c.lock.result (c.is_none.ensures ∙ ap not c.if-is_none.true)) in
    sym (ap (map (denied_by Locked)) none)

-- the bytes are those of the package
same : (g : _) (c : After-place-2 g) → c.bytes.result.now ≡ bytes_of c.args.page.policy
same g c = c.bytes.ensures.bytes ∙ same_forms c.forms-forms.result.now c.policy.result c.args.page.policy c.forms-forms.ensures c.policy.ensures

-- and the question stands there
stands : (g : _) (c : After-place-2 g) → node_in (bytes_of c.args.page.policy) c.place-2.result ≡ question_node c.args.question
stands g c =
    let bytes = bytes_of c.args.page.policy in
    let n = question_node c.args.question in
    ap (node_in bytes) c.place-2.ensures ∙ node_in_place bytes n c.args.page.policy.accepted.checked.spelled (contains_found (nodes_of bytes) n.place n c.requires)

pub at-requires-clause-there : goal.at-requires-clause-there
at-requires-clause-there g c =
    let bytes = bytes_of c.args.page.policy in
    let there : has_node bytes c.place-2.result ≡ true = ap (has_node bytes) c.place-2.ensures ∙ ap is_some c.requires in
    let is : is_statement (node_in bytes c.place-2.result) ≡ true = ap is_statement (stands g c) ∙ c.args.question.statement.statement in
    ap (λ (b : List ℕ). has_statement b c.place-2.result) (same g c) ∙ rw (there, is) refl

pub returns : goal.returns
returns g c =
    let at = (goal.at.returns g c).After-place-2 in
    let node = c.at.ensures.node ∙ ap (λ (b : List ℕ). node_in b c.place-2.result) (same g at) ∙ stands g at in
    let own = c.at.ensures.of_package ∙ same g at in
    ap (map (denied_by Locked))
    (c.locks.ensures.locks ∙ ap (λ (b : List ℕ). locks (nodes_of b) (statement_node c.at.result)) own ∙ ap (locks (nodes_of (bytes_of c.args.page.policy))) node)
