use Rattle.std.proofs.Common.{◌≡◌, true, false, rules, ap, ◌∙◌, subst}
use Rattle.std.specs.BTreeMap.{get, btree_map_len}
use Rattle.std.specs.Ordering.{nat_cmp}
use Rattle.ifr_nodes.specs.Nodes.{nodes_of}
use Rattle.ifr_index.specs.code.Index.{is_indexed}
use Rattle.ifr_index.specs.code.LockIndex.{first_some}
use Rattle.ifr_nodes.specs.code.Views.{node_of}
use Rattle.ifr_nodes.specs.code.Visits.{left}
use Rattle.ifr_index.specs.declared.index.Entry.{Entry}
use Rattle.ifr_index.proofs.LockingLemmas.{Locking, no_entries, is_next, locking_one, locking_other, unlocked}
use Rattle.ifr_index.proofs.locking.lock_entries.Goals as goal

pub returns-then-is_empty : goal.returns-then-is_empty
returns-then-is_empty c =
    let none : btree_map_len c.args.locks.now ≡ 0 = search rules in
    let empty = no_entries c.args.locks.now none in
    c.requires.unlocked ∙ unlocked (nodes_of c.args.ifr.now) (get nat_cmp c.args.locks.now) c.requires.found (λ scope. search rules)

pub loop-met-preserved-then-is_indexed : goal.loop-met-preserved-then-is_indexed
loop-met-preserved-then-is_indexed c =
    let ns = nodes_of c.args.ifr.now in
    let n = node_of c.in-Some.met.node in
    let found = get nat_cmp c.args.locks.now in
    let rest = left c.step.new.self.walk in
    let now = subst (Locking ns c.loop-met.entries.items c.loop-met.next) c.in-Some.ensures.some.0 c.loop-met.invariant.locking in
    let indexed : is_indexed n ≡ true = search rules in
    let next = is_next ns c.loop-met.entries.items c.loop-met.next n rest indexed now in
    let entry : Entry = record { place = c.index-entry.result.now.place; code = c.index-entry.result.now.code; guard = c.index-entry.result.now.guard; lock = c.first_along.result } in
    let was = c.index-entry.ensures ∙ next.is _ in
    let lock = c.first_along.ensures ∙ ap (first_some found) (c.as_slice.ensures.value ∙ c.chain-places.ensures) in
    record {
      locking = locking_one ns c.loop-met.entries.items c.loop-met.next n rest found entry indexed now c.requires.found (ap (λ (e : Entry). e.place) was) (ap (λ (e : Entry). e.code) was) (ap (λ (e : Entry). e.guard) was) lock;
      kept = c.step.ensures.kept ∙ c.loop-met.invariant.kept;
    }

pub loop-met-preserved : goal.loop-met-preserved
loop-met-preserved c =
    let ns = nodes_of c.args.ifr.now in
    let n = node_of c.in-Some.met.node in
    let plain : is_indexed n ≡ false = search rules in
    record {
      locking = locking_other ns c.loop-met.entries.items c.loop-met.next n (left c.step.new.self.walk) plain (subst (Locking ns c.loop-met.entries.items c.loop-met.next) c.in-Some.ensures.some.0 c.loop-met.invariant.locking);
      kept = c.step.ensures.kept ∙ c.loop-met.invariant.kept;
    }
