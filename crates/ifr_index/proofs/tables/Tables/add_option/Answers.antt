use Rattle.std.proofs.Common.{◌≡◌, false, length, subst, sym}
use Rattle.std.specs.BTreeMap.{get}
use Rattle.std.specs.Ordering.{nat_cmp}
use Rattle.ifr_opcodes.specs.Opcode.{number}
use Rattle.ifr_opcodes.specs.Rows.{is_question_number}
use Rattle.ifr_nodes.specs.Guards.{is_guard}
use Rattle.ifr_nodes.specs.Nodes.{is_form, is_store}
use Rattle.ifr_nodes.specs.Rules.{is_rule}
use Rattle.ifr_nodes.specs.code.FormIds.{form_entry}
use Rattle.ifr_index.specs.code.Levels.{node_with}
use Rattle.ifr_index.specs.code.Tables.{guard_entry, condition_entry, is_question_condition}
use Rattle.ifr_index.proofs.AddingLemmas.{nothing_added}
use Rattle.ifr_index.proofs.LockLemmas.{lock_other}
use Rattle.ifr_index.proofs.ReferredLemmas.{nothing_met}
use Rattle.ifr_index.proofs.SoundLemmas.{Alone, option_alone, option_asks_none}
use Rattle.ifr_index.proofs.tables.Tables.add_option.Goals as goal

pub returns : goal.returns
returns c = λ path children.
    let n = node_with c.args.op path children in
    let old = c.args.self.now in
    let is = subst Alone (sym c.requires.option) option_alone in
    record {
      entries = c.in_ok-add_entry.ensures path children;
      guards = nothing_added (λ m. is_guard (number m.op)) (guard_entry c.args.guard) n old.guards.items is.no_guard;
      conditions = nothing_added is_question_condition (condition_entry c.args.guard (length old.conditions.items)) n old.conditions.items is.no_condition;
      forms = nothing_added is_form form_entry n old.forms.items is.no_form;
      stores = nothing_added is_store (λ m. m.place) n old.stores.items is.no_store;
      rules = nothing_added is_rule (λ m. m.place) n old.rules.items is.no_rule;
      giving = c.in_ok-add_giving.ensures.added path children;
      last = c.in_ok-add_giving.ensures.last path children;
      locks = λ all left. lock_other all (get nat_cmp old.locks) n left is.no_lock;
      references = nothing_met n old.references is.no_form (subst (λ k. is_question_number k ≡ false) (sym c.requires.option) option_asks_none);
    }
