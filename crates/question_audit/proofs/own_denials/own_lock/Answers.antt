use Rattle.std.proofs.Common.{◌≡◌, true, Some, None, List, sym, ap, ◌∙◌}
use Rattle.std.specs.BTreeMap.{get}
use Rattle.std.specs.Ordering.{nat_cmp}
use Rattle.std.specs.Prelude.{filter}
use Rattle.ifr_opcodes.specs.Forest.{Node}
use Rattle.ifr_nodes.specs.Nodes.{nodes_of}
use Rattle.ifr_scopes.specs.code.Lists.{guard_node}
use Rattle.ifr_scopes.specs.code.Parts.{option_node}
use Rattle.hii_values.specs.declared.denial.DenialKind.TheVariants.{Locked}
use Rattle.ifr_index.specs.code.LockIndex.{first_place}
use Rattle.guard_policy.specs.code.Views.{bytes_of}
use Rattle.guard_policy.specs.declared.denial.Denial.{Denial}
use Rattle.guard_policy.proofs.IndexedLemmas.{of_option}
use Rattle.question_audit.proofs.AroundLemmas.{guards_found, same_forms}
use Rattle.question_audit.proofs.OwnLemmas.{inside_at, is_inside, lock_found, lock_passed, locked_by}
use Rattle.question_audit.proofs.own_denials.own_lock.Goals as goal

pub loop-guard-init : goal.loop-guard-init
loop-guard-init g c =
    let page = c.args.page in
    let n = option_node c.args.option in
    let own = same_forms c.forms.result.now c.policy.result page.policy c.forms.ensures c.policy.ensures in
    let gs = guards_found page.policy n _ c.place.result _ c.requires.node (of_option n c.args.option.option) (sym c.place.ensures) own c.guards_at-guards.ensures.guards in
    ap (λ (l : List Node). locked_by (nodes_of (bytes_of page.policy)) Locked (filter (is_inside c.args.place) l)) gs

pub returns-in-Some-get : goal.returns-in-Some-get
returns-in-Some-get g c =
    let ns = nodes_of (bytes_of c.args.page.policy) in
    let n = guard_node c.in-Some.guard in
    let is : is_inside c.args.place n ≡ true = inside_at c.args.place n c.place-in-Some.result c.place-in-Some.ensures c.if-place.false in
    let first : first_place ns n.place ≡ Some c.in-Some-get.lock.now = sym (c.requires.locks n.place) ∙ ap (get nat_cmp c.args.locks.now) (sym c.place-in-Some-2.ensures) ∙ sym c.in-Some-get.ensures.value in
    ap (λ (d : Denial). Some d) c.by.ensures ∙ sym (lock_found ns Locked c.args.place c.in-Some-get.lock.now _ _ n c.in-Some.ensures.steps is first) ∙ c.loop-guard.invariant

pub loop-guard-preserved : goal.loop-guard-preserved
loop-guard-preserved g c =
    let ns = nodes_of (bytes_of c.args.page.policy) in
    let n = guard_node c.in-Some.guard in
    let is : is_inside c.args.place n ≡ true = inside_at c.args.place n c.place-in-Some.result c.place-in-Some.ensures c.if-place.false in
    let none : first_place ns n.place ≡ None = sym (c.requires.locks n.place) ∙ ap (get nat_cmp c.args.locks.now) (sym c.place-in-Some-2.ensures) ∙ sym c.in_default-get.ensures.value in
    sym (lock_passed ns Locked c.args.place _ _ n c.in-Some.ensures.steps is none) ∙ c.loop-guard.invariant
