use Rattle.std.proofs.Common.{◌≡◌, ℕ, true, [], ◌∷◌, ◌++◌, map, sym, ap, subst, ◌∙◌}
use Rattle.std.specs.Prelude.{filter}
use Rattle.std.specs.BTreeMap.{get}
use Rattle.std.specs.Ordering.{nat_cmp}
use Rattle.ifr_opcodes.specs.Fields.{is_left_out}
use Rattle.ifr_opcodes.specs.Forest.{Node}
use Rattle.ifr_opcodes.specs.Opcode.{number}
use Rattle.ifr_opcodes.specs.Rows.{is_short}
use Rattle.ifr_nodes.specs.Locks.{has_place}
use Rattle.ifr_nodes.specs.Nodes.{is_form, is_store}
use Rattle.ifr_nodes.specs.Rules.{is_rule}
use Rattle.ifr_nodes.specs.Structure.{innermost}
use Rattle.ifr_nodes.specs.code.Checked.{node_in}
use Rattle.ifr_nodes.specs.code.FormIds.{form_entry}
use Rattle.ifr_index.specs.code.Giving.{added, last_behind}
use Rattle.ifr_index.specs.code.Index.{is_indexed}
use Rattle.ifr_index.specs.code.LockIndex.{Finds}
use Rattle.ifr_index.specs.code.References.{Refers}
use Rattle.ifr_index.specs.code.Tables.{entry_of_node, places_of}
use Rattle.ifr_index.specs.declared.level.Level.{Level}
use Rattle.ifr_index.proofs.MetLemmas.{met_is}
use Rattle.ifr_index.proofs.SoundLemmas.{clear_known, clear_long, locked_in_scope}
use Rattle.ifr_index.proofs.tables.Tables.add.Goals as goal

pub add_giving-requires-clause-whole : goal.add_giving-requires-clause-whole
add_giving-requires-clause-whole c = ap is_short (sym c.requires.met.stands.opcode) ∙ clear_long (node_in c.args.ifr.now c.args.op.place) c.requires.clear

pub add_giving-requires-clause-known : goal.add_giving-requires-clause-known
add_giving-requires-clause-known c = ap is_left_out (sym c.requires.met.stands.opcode) ∙ clear_known (node_in c.args.ifr.now c.args.op.place) c.requires.clear

pub add_form-requires : goal.add_form-requires
add_form-requires c = ap is_short (sym c.requires.met.stands.opcode) ∙ clear_long (node_in c.args.ifr.now c.args.op.place) c.requires.clear

pub meet-requires : goal.meet-requires
meet-requires c = ap is_short (sym c.requires.met.stands.opcode) ∙ clear_long (node_in c.args.ifr.now c.args.op.place) c.requires.clear

pub returns : goal.returns
returns c =
    let n = node_in c.args.ifr.now c.args.op.place in
    let old = c.args.self.now in
    let guard = c.args.level.now.guard in
    let same = met_is c.args.ifr.now c.args.op c.args.level.now c.requires.met in
    let scope = ap (λ (l : Level). l.place) c.requires.met.around in
    record {
      entries = c.in_ok-add_entry.ensures n.path n.children ∙ ap (λ (m : Node). old.entries.items ++ map (entry_of_node guard) (filter is_indexed (m ∷ []))) same;
      guards = c.in_ok-add_guard.ensures;
      conditions = c.in_ok-add_condition.ensures;
      forms = c.in_ok-add_form.ensures n.path n.children ∙ ap (λ (m : Node). old.forms.items ++ map form_entry (filter is_form (m ∷ []))) same;
      stores = c.in_ok-add_store.ensures n.path n.children ∙ ap (λ (m : Node). old.stores.items ++ places_of is_store (m ∷ [])) same;
      rules = c.in_ok-add_rule.ensures n.path n.children ∙ ap (λ (m : Node). old.rules.items ++ places_of is_rule (m ∷ [])) same;
      giving = c.in_ok-add_giving.ensures.added n.path n.children ∙ ap (λ (m : Node). old.giving.items ++ added old.last m) same;
      last = c.in_ok-add_giving.ensures.last n.path n.children ∙ ap (last_behind old.last) same;
      locks = λ all left finds. c.in_ok-add_lock.ensures n.path n.children
          (λ is. subst (λ (k : ℕ). has_place k (innermost n.path) ≡ true) (sym scope) (locked_in_scope n c.requires.clear (ap number c.requires.met.stands.opcode ∙ is)))
          all left (subst (λ (m : Node). Finds all (get nat_cmp old.locks) (m ∷ left)) (sym same) finds);
      references = subst (λ (m : Node). Refers m old.references c.meet.new.self) same (c.in_ok-meet.ensures n.path n.children);
    }
