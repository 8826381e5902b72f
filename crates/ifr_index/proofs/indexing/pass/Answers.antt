use Rattle.std.proofs.Common.{◌≡◌, true, rules, sym, ap, subst, ◌∙◌}
use Rattle.std.proofs.lemmas.Bool.{false≢true}
use Rattle.ifr_opcodes.specs.Forest.{Node}
use Rattle.ifr_opcodes.specs.Opcode.{number}
use Rattle.ifr_opcodes.specs.Fields.{is_left_out}
use Rattle.ifr_opcodes.specs.Rows.{is_short, is_statement_number}
use Rattle.ifr_opcodes.specs.declared.codes.TheConstants.{ONE_OF_OPTION}
use Rattle.ifr_nodes.specs.Nodes.{nodes_of}
use Rattle.ifr_nodes.specs.Structure.{is_root}
use Rattle.ifr_nodes.specs.Table.{admits, class_around}
use Rattle.ifr_nodes.specs.code.Checked.{node_in}
use Rattle.ifr_nodes.specs.declared.table.Class.TheVariants.{OfForm}
use Rattle.ifr_index.specs.code.Adding.{Adds}
use Rattle.ifr_index.specs.code.Levels.{is_clear}
use Rattle.ifr_index.specs.declared.level.Level.{Level}
use Rattle.ifr_index.proofs.MetLemmas.{met_is, met_within}
use Rattle.ifr_index.proofs.SoundLemmas.{clear_known, clear_long, option_no_expression, statement_no_expression, unclear_fault}
use Rattle.ifr_index.proofs.indexing.pass.Goals as goal
use Rattle.ifr_index.proofs.indexing.pass.Goals.{After-is_sound_statement, After-is_sound_option, After-is_sound}

-- whether a statement in a form has no fault
stated : (c : After-is_sound_statement) → c.is_sound_statement.result ≡ is_clear (node_in c.args.ifr.now c.args.op.place)
stated c =
    let n = node_in c.args.ifr.now c.args.op.place in
    let class : c.args.level.now.class ≡ OfForm = search rules in
    let around : class_around n.path ≡ OfForm = sym (ap (λ (l : Level). l.class) c.requires.met.around) ∙ class in
    c.is_sound_statement.ensures n.path n.children around ∙ ap is_clear (met_is c.args.ifr.now c.args.op c.args.level.now c.requires.met)

-- whether an option among options has none
chosen : (c : After-is_sound_option) → c.is_sound_option.result ≡ is_clear (node_in c.args.ifr.now c.args.op.place)
chosen c =
    let n = node_in c.args.ifr.now c.args.op.place in
    let held : admits (class_around n.path) ONE_OF_OPTION ≡ true = ap (λ (l : Level). admits l.class ONE_OF_OPTION) (sym c.requires.met.around) ∙ sym c.admits.ensures ∙ c.if-admits.true in
    c.is_sound_option.ensures n.path n.children held ∙ ap is_clear (met_is c.args.ifr.now c.args.op c.args.level.now c.requires.met)

-- whether another node has none
told : (c : After-is_sound) → c.is_sound.result ≡ is_clear (node_in c.args.ifr.now c.args.op.place)
told c =
    let n = node_in c.args.ifr.now c.args.op.place in
    let same = met_is c.args.ifr.now c.args.op c.args.level.now c.requires.met in
    c.is_sound.ensures (nodes_of c.args.ifr.now) n.path n.children c.requires.met.around (c.requires.root ∙ ap is_root (sym same)) c.requires.first ∙ ap is_clear same

pub returns-then-not-is_sound_statement-clause-faulty : goal.returns-then-not-is_sound_statement-clause-faulty
returns-then-not-is_sound_statement-clause-faulty c = λ is.
    let s = stated (goal.at.returns-then-not-is_sound_statement-clause-faulty c).After-is_sound_statement in
    unclear_fault (nodes_of c.args.ifr.now) (node_in c.args.ifr.now c.args.op.place) (met_within c.args.ifr.now c.args.op c.args.level.now c.requires.met) (sym s ∙ c.if-not-is_sound_statement.true)

pub add_statement-requires-clause-whole : goal.add_statement-requires-clause-whole
add_statement-requires-clause-whole c =
    let s = stated (goal.at.add_statement-requires-clause-whole c).After-is_sound_statement in
    ap is_short (sym c.requires.met.stands.opcode) ∙ clear_long (node_in c.args.ifr.now c.args.op.place) (sym s ∙ c.if-not-is_sound_statement.false)

pub returns-then-eq-clause-sound : goal.returns-then-eq-clause-sound
returns-then-eq-clause-sound c = λ is.
    let n = node_in c.args.ifr.now c.args.op.place in
    let s = stated (goal.at.returns-then-eq-clause-sound c).After-is_sound_statement in
    let states : is_statement_number (number n.op) ≡ true = ap (λ l. is_statement_number (number l)) c.requires.met.stands.opcode ∙ sym c.is_statement.ensures ∙ c.if-is_statement.true in (
      record {
        clear = sym s ∙ c.if-not-is_sound_statement.false;
        expression = λ asks. absurd (false≢true (sym (statement_no_expression n states) ∙ asks));
      },
      subst (λ (m : Node). Adds c.args.level.now.guard m c.args.tables.now c.add_statement.new.self) (met_is c.args.ifr.now c.args.op c.args.level.now c.requires.met) (c.in_ok-add_statement.ensures n.path n.children),
    )

pub returns-then-not-is_sound_option-clause-faulty : goal.returns-then-not-is_sound_option-clause-faulty
returns-then-not-is_sound_option-clause-faulty c = λ is.
    let s = chosen (goal.at.returns-then-not-is_sound_option-clause-faulty c).After-is_sound_option in
    unclear_fault (nodes_of c.args.ifr.now) (node_in c.args.ifr.now c.args.op.place) (met_within c.args.ifr.now c.args.op c.args.level.now c.requires.met) (sym s ∙ c.if-not-is_sound_option.true)

pub add_option-requires-clause-whole : goal.add_option-requires-clause-whole
add_option-requires-clause-whole c =
    let s = chosen (goal.at.add_option-requires-clause-whole c).After-is_sound_option in
    ap is_short (sym c.requires.met.stands.opcode) ∙ clear_long (node_in c.args.ifr.now c.args.op.place) (sym s ∙ c.if-not-is_sound_option.false)

pub add_option-requires-clause-known : goal.add_option-requires-clause-known
add_option-requires-clause-known c =
    let s = chosen (goal.at.add_option-requires-clause-known c).After-is_sound_option in
    ap is_left_out (sym c.requires.met.stands.opcode) ∙ clear_known (node_in c.args.ifr.now c.args.op.place) (sym s ∙ c.if-not-is_sound_option.false)

pub returns-then-admits-clause-sound : goal.returns-then-admits-clause-sound
returns-then-admits-clause-sound c = λ is.
    let n = node_in c.args.ifr.now c.args.op.place in
    let s = chosen (goal.at.returns-then-admits-clause-sound c).After-is_sound_option in
    let option : number n.op ≡ ONE_OF_OPTION = ap number c.requires.met.stands.opcode ∙ c.if-op-eq-ONE_OF_OPTION.true in (
      record {
        clear = sym s ∙ c.if-not-is_sound_option.false;
        expression = λ asks. absurd (false≢true (sym (option_no_expression n option) ∙ asks));
      },
      subst (λ (m : Node). Adds c.args.level.now.guard m c.args.tables.now c.add_option.new.self) (met_is c.args.ifr.now c.args.op c.args.level.now c.requires.met) (c.in_ok-add_option.ensures n.path n.children),
    )

pub returns-then-not-is_sound-clause-faulty : goal.returns-then-not-is_sound-clause-faulty
returns-then-not-is_sound-clause-faulty c = λ is.
    let s = told (goal.at.returns-then-not-is_sound-clause-faulty c).After-is_sound in
    unclear_fault (nodes_of c.args.ifr.now) (node_in c.args.ifr.now c.args.op.place) (met_within c.args.ifr.now c.args.op c.args.level.now c.requires.met) (sym s ∙ c.if-not-is_sound.true)
