use Rattle.std.proofs.Common.{◌≡◌, ℕ, ◌<◌, List, [], ◌∷◌, ◌++◌, length, true, Ok, sym, ap, subst, ◌∙◌, arith}
use Rattle.std.specs.Prelude.{◌==◌}
use Rattle.ifr_opcodes.specs.Forest.{Node, as_ancestor}
use Rattle.ifr_opcodes.specs.Opcode.{has_scope}
use Rattle.ifr_opcodes.specs.Reading.{tree_of}
use Rattle.ifr_opcodes.specs.Rows.{is_short}
use Rattle.ifr_opcodes.proofs.OpcodeLemmas.{has_scope_spelled}
use Rattle.ifr_nodes.specs.Nodes.{nodes_of}
use Rattle.ifr_nodes.specs.Structure.{first_number}
use Rattle.ifr_nodes.specs.code.Checked.{node_in}
use Rattle.ifr_nodes.specs.code.Visits.{left}
use Rattle.ifr_nodes.proofs.StructureLemmas.{at_start, empty_is_least}
use Rattle.ifr_index.specs.code.Levels.{AreLevels, IsPassed, level_of, node_with}
use Rattle.ifr_index.specs.code.Adding.{Adds}
use Rattle.ifr_index.specs.code.Tables.{guards_before}
use Rattle.ifr_index.specs.declared.level.Level.{Level}
use Rattle.ifr_index.proofs.IndexLemmas.{nodes_rise}
use Rattle.ifr_index.proofs.IndexingLemmas.{scope_entered, none_entered}
use Rattle.ifr_index.proofs.SoundLemmas.{clear_long}
use Rattle.ifr_index.proofs.MakingLemmas.{few_made, made_all, made_next, made_start, met_levels, guards_met}
use Rattle.ifr_index.proofs.WalkedLemmas.{Walked, walked, inside_of, passed_on, checked_all}
use Rattle.ifr_index.proofs.indexing.index_of.Goals as goal
use Rattle.ifr_index.proofs.indexing.index_of.Goals.{After-truncate, After-innermost-level, After-pass}

pub returns-then-ifr-eq-HEADER-clause-faulty : goal.returns-then-ifr-eq-HEADER-clause-faulty
returns-then-ifr-eq-HEADER-clause-faulty c = λ is sound.
    sound _ _ (empty_is_least c.args.ifr.now (tree_of c.args.ifr.now) c.requires.spelled c.if-ifr-eq-HEADER.true).told

pub loop-visit-init : goal.loop-visit-init
loop-visit-init c = record {
  made = made_start c.args.ifr.now c.in_ok-tables.tables c.new-levels.result.items (left c.over-walk.result) c.requires.spelled c.in_ok-tables.ensures c.new-levels.ensures c.over-walk.ensures.nodes;
  stands = at_start (nodes_of c.args.ifr.now) (left c.over-walk.result) c.over-walk.ensures.nodes;
  kept = c.over-walk.ensures.kept;
}

-- the node that was met
met : (c : After-truncate) → Walked c.args.ifr.now c.loop-visit.tables c.loop-visit.levels.items c.in-Some.visit c.step.new.self
met c = walked c.args.ifr.now c.loop-visit.walk c.step.new.self c.in-Some.visit c.loop-visit.tables c.loop-visit.levels.items c.requires.spelled c.in-Some.ensures.some c.loop-visit.invariant.made c.loop-visit.invariant.stands

-- the scopes around it
levels : (c : After-truncate) → AreLevels (nodes_of c.args.ifr.now) (node_in c.args.ifr.now c.in-Some.visit.op.place).path c.truncate.new.self.items
levels c =
    let n = node_in c.args.ifr.now c.in-Some.visit.op.place in
    let m = met c in
    subst (AreLevels (nodes_of c.args.ifr.now) n.path) (sym c.truncate.ensures.items)
    (met_levels (nodes_of c.args.ifr.now) c.loop-visit.tables c.loop-visit.levels.items n (left c.step.new.self) c.in-Some.visit.depth m.depth m.made)

around : (c : After-innermost-level) → c.innermost-level.result.now ≡ level_of (nodes_of c.args.ifr.now) (node_in c.args.ifr.now c.in-Some.visit.op.place).path
around c =
    let ns = nodes_of c.args.ifr.now in
    let path = (node_in c.args.ifr.now c.in-Some.visit.op.place).path in
    c.innermost-level.ensures ns path (c.outside-outside.ensures ns) (subst (AreLevels ns path) (sym c.as_slice.ensures.value) (levels (goal.at.After-innermost-level c).After-truncate))

pub overflow_cast-guards : goal.overflow_cast-guards
overflow_cast-guards c =
    let few = few_made c.args.ifr.now c.loop-visit.tables c.loop-visit.levels.items (left c.loop-visit.walk) c.requires.header c.requires.small c.requires.spelled c.loop-visit.invariant.made in
    omega (arith, few.0, c.guard_count-guards.ensures)

pub pass-requires-clause-met : goal.pass-requires-clause-met
pass-requires-clause-met c = record {
  small = c.requires.small;
  spelled = c.requires.spelled;
  stands = (met (goal.at.pass-requires-clause-met c).After-truncate).there;
  around = around (goal.at.pass-requires-clause-met c).After-innermost-level;
}

pub pass-requires-clause-root : goal.pass-requires-clause-root
pass-requires-clause-root c = ap (λ d. d == 0) (met (goal.at.pass-requires-clause-root c).After-truncate).depth

pub pass-requires-clause-first : goal.pass-requires-clause-first
pass-requires-clause-first c = ap first_number (met (goal.at.pass-requires-clause-first c).After-truncate).children ∙ sym c.first_child-first.ensures

pub pass-requires-clause-few : goal.pass-requires-clause-few
pass-requires-clause-few c =
    let few = few_made c.args.ifr.now c.loop-visit.tables c.loop-visit.levels.items (left c.loop-visit.walk) c.requires.header c.requires.small c.requires.spelled c.loop-visit.invariant.made in
    few.1

-- it has no fault, and was added
passed : (c : After-pass) → c.pass.result ≡ Ok true → IsPassed (node_in c.args.ifr.now c.in-Some.visit.op.place) × Adds c.innermost-level.result.now.guard (node_in c.args.ifr.now c.in-Some.visit.op.place) c.loop-visit.tables c.pass.new.tables
passed c told = c.pass.ensures.sound told

pub open-inner-requires-clause-within : goal.open-inner-requires-clause-within
open-inner-requires-clause-within c =
    let m = met (goal.at.open-inner-requires-clause-within c).After-truncate in
    let inside = inside_of c.args.ifr.now (node_in c.args.ifr.now c.in-Some.visit.op.place) c.requires.spelled m.within in
    omega (arith, inside, m.there.placed, ap (λ (l : List ℕ). length l) m.there.opcode, c.requires.small)

pub open-inner-requires-clause-whole : goal.open-inner-requires-clause-whole
open-inner-requires-clause-whole c =
    let m = met (goal.at.open-inner-requires-clause-whole c).After-truncate in
    let p = passed (goal.at.open-inner-requires-clause-whole c).After-pass (c.in_ok-pass.was ∙ ap Ok c.if-not-branch.false) in
    ap is_short (sym m.there.opcode) ∙ clear_long (node_in c.args.ifr.now c.in-Some.visit.op.place) p.0.clear

-- whether it opens a scope
scoped : (c : After-truncate) → has_scope (node_in c.args.ifr.now c.in-Some.visit.op.place).op ≡ c.in-Some.visit.op.scope
scoped c = let op = c.in-Some.visit.op in ap has_scope (met c).there.opcode ∙ has_scope_spelled op.code op.scope op.body.now op.whole

pub push-requires : goal.push-requires
push-requires c =
    let k = (goal.at.push-requires c).After-truncate in
    (omega arith, subst (λ (l : ℕ). l < 64) (sym (levels k).long) ((met k).made.follows.0.room (scoped k ∙ c.if-op.true)))

pub loop-visit-preserved-then-op : goal.loop-visit-preserved-then-op
loop-visit-preserved-then-op c =
    let k = (goal.at.loop-visit-preserved-then-op c).After-truncate in
    let bytes = c.args.ifr.now in
    let ns = nodes_of bytes in
    let op = c.in-Some.visit.op in
    let n = node_in bytes op.place in
    let rest = left c.step.new.self in
    let rise = nodes_rise bytes c.requires.spelled in
    let m = met k in
    let p = passed (goal.at.loop-visit-preserved-then-op c).After-pass (c.in_ok-pass.was ∙ ap Ok c.if-not-branch.false) in
    let here = around (goal.at.loop-visit-preserved-then-op c).After-innermost-level in
    let guards = c.guard_count-guards.ensures ∙ guards_met ns c.loop-visit.tables c.loop-visit.levels.items n rest rise m.made ∙ ap (guards_before ns) m.there.placed in
    let same : node_with op n.path n.children ≡ n = λ i. record { place = sym m.there.placed i; op = sym m.there.opcode i; path = n.path; children = n.children } in
    let inner = c.open-inner.ensures ns n.path n.children here guards ∙ ap (λ (x : Node). level_of ns (n.path ++ as_ancestor x ∷ [])) same in
    record {
      made = made_next ns c.loop-visit.tables c.pass.new.tables c.loop-visit.levels.items c.push.new.self.items n rest c.innermost-level.result.now.guard rise m.made (ap (λ (l : Level). l.guard) here) p.1
          (scope_entered ns n c.truncate.new.self.items c.push.new.self.items c.open-inner.result (scoped k ∙ c.if-op.true) inner c.push.ensures.items (levels k));
      stands = passed_on ns rest n m.stands p.0;
      kept = c.step.ensures.kept ∙ c.loop-visit.invariant.kept;
    }

pub loop-visit-preserved : goal.loop-visit-preserved
loop-visit-preserved c =
    let k = (goal.at.loop-visit-preserved c).After-truncate in
    let bytes = c.args.ifr.now in
    let ns = nodes_of bytes in
    let n = node_in bytes c.in-Some.visit.op.place in
    let rest = left c.step.new.self in
    let m = met k in
    let p = passed (goal.at.loop-visit-preserved c).After-pass (c.in_ok-pass.was ∙ ap Ok c.if-not-branch.false) in
    let here = around (goal.at.loop-visit-preserved c).After-innermost-level in
    record {
      made = made_next ns c.loop-visit.tables c.pass.new.tables c.loop-visit.levels.items c.truncate.new.self.items n rest c.innermost-level.result.now.guard (nodes_rise bytes c.requires.spelled) m.made (ap (λ (l : Level). l.guard) here) p.1
          (none_entered ns n c.truncate.new.self.items (scoped k ∙ c.if-op.false) (levels k));
      stands = passed_on ns rest n m.stands p.0;
      kept = c.step.ensures.kept ∙ c.loop-visit.invariant.kept;
    }

pub index-requires-clause-checked : goal.index-requires-clause-checked
index-requires-clause-checked c =
    checked_all c.args.ifr.now (left c.loop-visit.walk) c.requires.header c.requires.small c.requires.spelled c.if-ifr-eq-HEADER.false c.loop-visit.invariant.stands c.in_default.ensures.none.0

pub index-requires-clause-all : goal.index-requires-clause-all
index-requires-clause-all c =
    made_all c.args.ifr.now c.loop-visit.tables c.loop-visit.levels.items (left c.loop-visit.walk)
    (checked_all c.args.ifr.now (left c.loop-visit.walk) c.requires.header c.requires.small c.requires.spelled c.if-ifr-eq-HEADER.false c.loop-visit.invariant.stands c.in_default.ensures.none.0)
    c.loop-visit.invariant.made c.in_default.ensures.none.0

pub returns-clause-checked : goal.returns-clause-checked
returns-clause-checked c =
    checked_all c.args.ifr.now (left c.loop-visit.walk) c.requires.header c.requires.small c.requires.spelled c.if-ifr-eq-HEADER.false c.loop-visit.invariant.stands c.in_default.ensures.none.0
