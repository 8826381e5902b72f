use Rattle.std.proofs.Common.{◌≡◌, ℕ, List, ap, subst, sym, ◌∙◌}
use Rattle.std.specs.Prelude.{filter}
use Rattle.hii_bytes.proofs.WritingLemmas.{◌⨾◌, writes_nil}
use Rattle.ifr_opcodes.specs.Forest.{Node}
use Rattle.ifr_nodes.specs.Nodes.{nodes_of}
use Rattle.ifr_index.specs.code.Index.{guards_of_indexed}
use Rattle.ifr_scopes.specs.code.Lists.{guard_node, guards_left, statement_node}
use Rattle.guard_policy.specs.code.Views.{bytes_of}
use Rattle.guard_policy.proofs.IndexedLemmas.{guards_there, of_statement}
use Rattle.question_audit.specs.QuestionLines.{is_undefined_guard, undefined_guards}
use Rattle.question_audit.specs.code.Pages.{audited}
use Rattle.question_audit.proofs.UndefinedLemmas.{place_told, some_undefined}
use Rattle.question_audit.proofs.undefined.put_undefined.Goals as goal
use Rattle.question_audit.proofs.undefined.put_undefined.Goals.{After-next_undefined}

-- what is looked up are the guards around the statement
found : (g : _) (c : After-next_undefined g) → undefined_guards (audited c.args.page) (statement_node c.args.statement) ≡ filter (is_undefined_guard (audited c.args.page)) (guards_left c.guards_at-guards.result)
found g c =
    let page = c.args.page in
    let n = statement_node c.args.statement in
    let left = guards_left c.guards_at-guards.result in
    let own : c.forms.result.now ≡ bytes_of page.policy = c.forms.ensures ∙ ap bytes_of c.policy.ensures in
    let looked_up = subst (λ (bytes : List ℕ). left ≡ guards_of_indexed (nodes_of bytes) c.place.result) own c.guards_at-guards.ensures.guards in
    let there = guards_there (bytes_of page.policy) n c.place.result left page.policy.accepted.checked.spelled c.requires.node (of_statement n c.args.statement.statement) (sym c.place.ensures) looked_up in
    ap (λ (gs : List Node). filter (is_undefined_guard (audited page)) gs) (sym there)

pub returns-in-Some : goal.returns-in-Some
returns-in-Some g c =
    let guard = guard_node c.in-Some.guard in
    let place = place_told c.from.result guard.place (c.from.ensures ∙ c.place-in-Some.ensures) c.put_place.ensures in
    some_undefined _ _ guard (found g (goal.at.returns-in-Some g c).After-next_undefined ∙ c.in-Some.ensures.found) (c.put.ensures ⨾ place ⨾ c.put_places.ensures)

pub returns-in_default : goal.returns-in_default
returns-in_default g c = rw (found g (goal.at.returns-in_default g c).After-next_undefined, c.in_default.ensures.found) (writes_nil _)
