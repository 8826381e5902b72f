-- What the iterators over a package have before them.
use Rattle.std.specs.Prelude.{ℕ, List, [], ◌∷◌, drop, filter, map, reverse}
use Rattle.ifr_opcodes.specs.Forest.{Node}
use Rattle.ifr_opcodes.specs.declared.codes.TheConstants.{SUBTITLE, TEXT, RESET_BUTTON, CHECKBOX, NUMERIC, ONE_OF, STRING, PASSWORD, ORDERED_LIST, DATE, TIME, ACTION, REF, VARSTORE, VARSTORE_EFI, VARSTORE_NAME_VALUE}
use Rattle.ifr_opcodes.specs.declared.op.Op.{Op}
use Rattle.ifr_nodes.specs.code.Checked.{node_in}
use Rattle.ifr_opcodes.specs.Rows.{is_statement_number}
use Rattle.ifr_nodes.specs.Nodes.{nodes_of, is_form, is_statement}
use Rattle.ifr_index.specs.code.Tables.{guard_of_number, guards_from}
use Rattle.ifr_nodes.specs.code.Views.{node_of, nodes_left}
use Rattle.ifr_scopes.specs.declared.all_statements.AllStatements.{AllStatements}
use Rattle.ifr_scopes.specs.declared.guard.Guard.{Guard}
use Rattle.ifr_scopes.specs.declared.guard.GuardViews.{GuardViews}
use Rattle.ifr_scopes.specs.declared.form_set.FormSet.{FormSet}
use Rattle.ifr_scopes.specs.declared.varstore.Varstore.{Varstore}
use Rattle.ifr_scopes.specs.declared.varstore.Varstores.{Varstores}
use Rattle.ifr_scopes.specs.declared.guards_at.GuardsAt.{GuardsAt}
use Rattle.ifr_scopes.specs.declared.guards_of.GuardsOf.{GuardsOf}
use Rattle.ifr_scopes.specs.declared.guards_outward.GuardsOutward.{GuardsOutward}
use Rattle.ifr_scopes.specs.declared.form.Form.{Form}
use Rattle.ifr_scopes.specs.declared.form.FormViews.{FormViews}
use Rattle.ifr_scopes.specs.declared.rule.RuleView.{RuleView}
use Rattle.ifr_scopes.specs.declared.rule.RuleViews.{RuleViews}
use Rattle.ifr_scopes.specs.declared.varstore.StoreOp.{StoreOp}
use Rattle.ifr_scopes.specs.declared.varstore.StoreOp.TheVariants as store
use Rattle.ifr_scopes.specs.declared.statement.Statement.{Statement}
use Rattle.ifr_scopes.specs.declared.statement.StatementKind.{StatementKind}
use Rattle.ifr_scopes.specs.declared.statement.StatementKind.TheVariants as kind
use Rattle.ifr_scopes.specs.declared.statement.Statements.{Statements}

-- the numbers of the statements that have a view
abbrev pub statement_numbers : List ℕ
statement_numbers =
    SUBTITLE ∷ TEXT ∷ RESET_BUTTON ∷ CHECKBOX ∷ NUMERIC ∷ ONE_OF ∷ STRING ∷ PASSWORD ∷ ORDERED_LIST ∷ DATE ∷ TIME
    ∷ ACTION ∷ REF ∷ []

-- the numbers of the stores that have a view
abbrev pub store_numbers : List ℕ
store_numbers = VARSTORE ∷ VARSTORE_EFI ∷ VARSTORE_NAME_VALUE ∷ []

-- a guard, a form, a rule and a statement as nodes
abbrev pub guard_node : Guard → Node
guard_node guard = node_in guard.ifr.now guard.place

abbrev pub form_node : Form → Node
form_node form = node_of form.node

abbrev pub rule_node : RuleView → Node
rule_node rule = node_of rule.node

abbrev pub statement_node : Statement → Node
statement_node statement = node_of statement.node

-- the bytes of the package of a guard, of a form and of a statement
abbrev pub guard_package : Guard → List ℕ
guard_package guard = guard.ifr.now

abbrev pub form_package : Form → List ℕ
form_package form = form.node.ifr.now

abbrev pub statement_package : Statement → List ℕ
statement_package statement = statement.node.ifr.now

abbrev pub guards_left : GuardsAt → List Node
guards_left it = map (guard_of_number (nodes_of it.ifr.now)) (reverse it.numbers.items)

abbrev pub outward_left : GuardsOutward → List Node
outward_left it = reverse (guards_from (nodes_of it.ifr.now) it.next)

abbrev pub guards_of_left : GuardsOf → List Node
guards_of_left it = map (λ guard. node_in it.ifr.now guard.place) (drop it.next it.kept.items)

abbrev pub forms_left : FormViews → List Node
forms_left it = filter is_form (nodes_left it.nodes)

abbrev pub rules_left : RuleViews → List Node
rules_left it = map (node_in it.ifr.now) it.places.now

abbrev pub statements_left : Statements → List Node
statements_left it = filter is_statement (nodes_left it.nodes)

abbrev pub all_statements_left : AllStatements → List Node
all_statements_left it =
    map (λ entry. node_in it.ifr.now entry.place)
    (filter (λ entry. is_statement_number entry.code) it.entries.now)

abbrev pub form_set_node : FormSet → Node
form_set_node form_set = node_of form_set.node

abbrev pub store_node : Varstore → Node
store_node store = node_of store.node

-- the opcode of a store, and of a statement
abbrev pub store_op : StoreOp → Op
store_op (store.Varstore view) = view.op
store_op (store.VarstoreEfi view) = view.op
store_op (store.NameValue view) = view.op

abbrev pub kind_op : StatementKind → Op
kind_op (kind.Subtitle view) = view.op
kind_op (kind.Text view) = view.op
kind_op (kind.ResetButton view) = view.op
kind_op (kind.Checkbox view) = view.op
kind_op (kind.Numeric view) = view.op
kind_op (kind.OneOf view) = view.op
kind_op (kind.String view) = view.op
kind_op (kind.Password view) = view.op
kind_op (kind.OrderedList view) = view.op
kind_op (kind.Date view) = view.op
kind_op (kind.Time view) = view.op
kind_op (kind.Action view) = view.op
kind_op (kind.Ref view) = view.op

abbrev pub stores_left : Varstores → List Node
stores_left it = map (node_in it.ifr.now) it.places.now

abbrev pub all_guards_left : GuardViews → List Node
all_guards_left it = map (λ guard. node_in it.ifr.now guard.place) it.guards.now
