use Rattle.std.proofs.Common.{ℕ, List, sym, ap, ◌∙◌}
use Rattle.ifr_nodes.specs.Nodes.{nodes_of}
use Rattle.ifr_index.specs.code.Index.{indexed_at, guards_of_indexed, lock_of_indexed}
use Rattle.ifr_opcodes.specs.Forest.{Node}
use Rattle.std.specs.Prelude.{option_map}
use Rattle.ifr_index.specs.code.Tables.{innermost_at}
use Rattle.ifr_scopes.proofs.KeptLockLemmas.{IsKeptLock, lock_kept, lock_told}
use Rattle.ifr_scopes.proofs.OutwardLemmas.{AreOutward, guard_told, outward}
use Rattle.ifr_scopes.proofs.forms.Forms.around_at.Goals as goal
use Rattle.ifr_scopes.proofs.forms.Forms.around_at.Goals.{After-guard_number, After-lock_place}

-- the guards from the number that was looked up
guards_are : (c : After-guard_number) → AreOutward c.self.inside.ifr.now c.guard_number.result (guards_of_indexed (nodes_of c.self.inside.ifr.now) c.args.place)
guards_are c =
    let bytes = c.self.inside.ifr.now in
    let ns = nodes_of c.args.self.now in
    let told = guard_told ns (indexed_at ns c.args.place) c.entry_at-entry.result c.guard_number.result c.entry_at-entry.ensures c.guard_number.ensures in
    outward bytes c.args.place c.guard_number.result c.self.invariant.accepted.checked.spelled (told ∙ ap (λ (b : List ℕ). innermost_at (nodes_of b) c.args.place) (sym c.self.view_is))

-- the LOCKED at the place that was looked up
lock_is : (c : After-lock_place) → IsKeptLock c.self.inside.ifr.now c.lock_place.result (lock_of_indexed (nodes_of c.self.inside.ifr.now) c.args.place)
lock_is c =
    let bytes = c.self.inside.ifr.now in
    let ns = nodes_of c.args.self.now in
    let told = lock_told ns (indexed_at ns c.args.place) c.entry_at-entry.result c.lock_place.result c.entry_at-entry.ensures c.lock_place.ensures in
    lock_kept bytes c.args.place c.lock_place.result c.self.invariant.accepted.checked.spelled (told ∙ ap (λ (b : List ℕ). option_map (λ (l : Node). l.place) (lock_of_indexed (nodes_of b) c.args.place)) (sym c.self.view_is))

pub invariant_of-result : goal.invariant_of-result
invariant_of-result c =
    let are = guards_are (goal.at.invariant_of-result c).After-guard_number in
    record {
      checked = c.self.invariant.accepted.checked;
      table = c.deref.ensures.value ∙ c.self.invariant.index.guards;
      few = are.few;
      numbered = are.numbered;
    }

pub invariant_of-result-2 : goal.invariant_of-result-2
invariant_of-result-2 c = record { locked = (lock_is (goal.at.invariant_of-result-2 c).After-lock_place).locked }

pub returns-clause-guards : goal.returns-clause-guards
returns-clause-guards c = (guards_are (goal.at.returns-clause-guards c).After-guard_number).guards ∙ ap (λ (b : List ℕ). guards_of_indexed (nodes_of b) c.args.place) c.self.view_is

pub returns-clause-lock : goal.returns-clause-lock
returns-clause-lock c = (lock_is (goal.at.returns-clause-lock c).After-lock_place).is ∙ ap (λ (b : List ℕ). lock_of_indexed (nodes_of b) c.args.place) c.self.view_is
