use Rattle.std.proofs.Common.{◌≡◌, ℕ, Option, None, Some, List, refl, rules, sym, ap, subst, ◌∙◌}
use Rattle.std.specs.BTreeMap.{get}
use Rattle.std.specs.Option.{option_or}
use Rattle.std.specs.Ordering.{nat_cmp}
use Rattle.ifr_opcodes.specs.Forest.{Node}
use Rattle.ifr_nodes.specs.Nodes.{nodes_of}
use Rattle.ifr_nodes.specs.code.Visits.{left}
use Rattle.ifr_index.specs.code.LockIndex.{Finds, first_place}
use Rattle.question_audit.proofs.lock_places.scope_locks.Goals as goal

or_nothing : (o : Option ℕ) → option_or o None ≡ o
or_nothing None = refl
or_nothing (Some n) = refl

pub loop-met-init : goal.loop-met-init
loop-met-init c = λ scope.
    let none : get nat_cmp c.new-locks.result scope ≡ None = search rules in
    rw none (ap (λ (l : List Node). first_place l scope) c.over-nodes.ensures.all)

pub loop-met-preserved : goal.loop-met-preserved
loop-met-preserved c =
    let all = first_place (nodes_of c.args.ifr.now) in
    c.in_ok-add_lock.ensures all (left c.step.new.self.walk) (subst (Finds all (get nat_cmp c.loop-met.locks)) c.in-Some.ensures.some.0 c.loop-met.invariant)

pub returns : goal.returns
returns c = λ scope.
    let found = get nat_cmp c.loop-met.locks scope in
    sym (or_nothing found) ∙ ap (λ (l : List Node). option_or found (first_place l scope)) (sym c.in_default.ensures.none.0) ∙ c.loop-met.invariant scope
