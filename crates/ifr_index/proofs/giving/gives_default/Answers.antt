use Rattle.std.proofs.Common.{◌≡◌, true, false, Bool, rules, sym, ap, ◌∙◌, arith}
use Rattle.std.specs.Prelude.{◌||◌}
use Rattle.ifr_opcodes.specs.declared.codes.TheConstants.{CHECKBOX, ONE_OF_OPTION}
use Rattle.ifr_opcodes.specs.Fields.{is_default_option, is_manufacturing_option, is_default_checkbox, is_manufacturing_checkbox}
use Rattle.ifr_opcodes.specs.code.Ops.{bytes_of}
use Rattle.ifr_nodes.proofs.NodeFactLemmas.{past_front}
use Rattle.ifr_index.specs.code.Levels.{node_with}
use Rattle.ifr_index.proofs.FieldLemmas.{row_there, option_numeric}
use Rattle.ifr_index.proofs.GivingFacts.{default_gives, option_gives, checkbox_gives, other_gives}
use Rattle.ifr_index.proofs.giving.gives_default.Goals as goal

pub invariant_of-option : goal.invariant_of-option
invariant_of-option c =
    let op = c.args.op in
    record {
      coded = c.in-9.is;
      sized = past_front 6 _ _ (row_there (bytes_of op) ONE_OF_OPTION op.whole c.requires.whole c.in-9.is);
      numeric = option_numeric (bytes_of op) op.whole c.requires.whole c.requires.known c.in-9.is;
    }

pub invariant_of-checkbox : goal.invariant_of-checkbox
invariant_of-checkbox c =
    let sized = row_there (bytes_of c.args.op) CHECKBOX c.args.op.whole c.requires.whole c.in-6.is in
    record { coded = c.in-6.is; sized = omega (arith, sized) }

pub returns-in-91 : goal.returns-in-91
returns-in-91 c = λ path children. sym (default_gives (node_with c.args.op path children) c.in-91.is)

pub returns-then-is_default : goal.returns-then-is_default
returns-then-is_default c = λ path children.
    let flag : is_default_option (bytes_of c.args.op) ≡ true = sym c.is_default.ensures ∙ c.if-is_default.true in
    c.if-is_default.true ∙ sym (option_gives (node_with c.args.op path children) c.in-9.is ∙ ap (λ (b : Bool). b || is_manufacturing_option (bytes_of c.args.op)) flag)

pub returns-else-is_default : goal.returns-else-is_default
returns-else-is_default c = λ path children.
    let flag : is_default_option (bytes_of c.args.op) ≡ false = sym c.is_default.ensures ∙ c.if-is_default.false in
    c.is_manufacturing_default.ensures ∙ sym (option_gives (node_with c.args.op path children) c.in-9.is ∙ ap (λ (b : Bool). b || is_manufacturing_option (bytes_of c.args.op)) flag)

pub returns-then-is_default-2 : goal.returns-then-is_default-2
returns-then-is_default-2 c = λ path children.
    let flag : is_default_checkbox (bytes_of c.args.op) ≡ true = sym c.is_default-in-6.ensures ∙ c.if-is_default-2.true in
    c.if-is_default-2.true ∙ sym (checkbox_gives (node_with c.args.op path children) c.in-6.is ∙ ap (λ (b : Bool). b || is_manufacturing_checkbox (bytes_of c.args.op)) flag)

pub returns-else-is_default-2 : goal.returns-else-is_default-2
returns-else-is_default-2 c = λ path children.
    let flag : is_default_checkbox (bytes_of c.args.op) ≡ false = sym c.is_default-in-6.ensures ∙ c.if-is_default-2.false in
    c.is_manufacturing_default-else-is_default-2.ensures ∙ sym (checkbox_gives (node_with c.args.op path children) c.in-6.is ∙ ap (λ (b : Bool). b || is_manufacturing_checkbox (bytes_of c.args.op)) flag)

pub returns-in_default : goal.returns-in_default
returns-in_default c = λ path children. sym (other_gives (node_with c.args.op path children) (search rules) (search rules) (search rules))
