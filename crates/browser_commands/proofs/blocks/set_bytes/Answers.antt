use Rattle.std.proofs.Common.{Ok, subst, sym}
use Rattle.std.proofs.lemmas.Result.{err_from_is_err_and}
use Rattle.config_text.specs.code.Views.{block_view}
use Rattle.hii_varstore.specs.code.Ranges.{HasRange}
use Rattle.hii_varstore.specs.Stores.{StoreMap, shape_of}
use Rattle.hii_questions.specs.declared.field_range.FieldRange.{FieldRange}
use Rattle.session_steps.specs.Configuration.{block_field}
use Rattle.browser_commands.specs.code.Changing.{Chooses}
use Rattle.browser_commands.proofs.ByteLemmas.{bytes_of_number}
use Rattle.browser_commands.proofs.RouteLemmas.{block_is_set, block_is_denied, block_range}
use Rattle.browser_commands.proofs.blocks.set_bytes.Goals as goal

pub keep_field-requires-clause-range : goal.keep_field-requires-clause-range
keep_field-requires-clause-range c =
    let block = block_view c.args.block in
    let q = c.args.question in
    let around = c.args.around in
    let chosen : Chooses c.args.policy c.args.working.now.stores (block_field c.args.store block) (Ok (q, around)) = c.requires.chosen in
    let within = block_range c.args.policy c.args.working.now.stores c.args.store block q around chosen c.requires.browsed.browsable c.requires.browsed.laid in
    subst (λ (r : FieldRange). HasRange (shape_of c.stores.result.now) r.store r.offset r.width) (sym c.field_of-range.ensures)
    (subst (λ (m : StoreMap). HasRange (shape_of m) c.args.store block.offset block.width) (sym c.stores.ensures) within)

pub set_value-requires-clause-free : goal.set_value-requires-clause-free
set_value-requires-clause-free c =
    let q = c.args.question in
    let around = c.args.around in
    let chosen : Chooses c.args.policy c.args.working.now.stores (block_field c.args.store (block_view c.args.block)) (Ok (q, around)) = c.requires.chosen in
    record {
      browsed = c.requires.browsed;
      question = chosen.0.0;
      around = chosen.4;
      free = chosen.3;
    }

pub returns-in_err-set_value : goal.returns-in_err-set_value
returns-in_err-set_value c =
    let block = block_view c.args.block in
    let q = c.args.question in
    let around = c.args.around in
    let chosen : Chooses c.args.policy c.args.working.now.stores (block_field c.args.store block) (Ok (q, around)) = c.requires.chosen in
    let bytes = bytes_of_number _ block.width _ c.are_bytes.ensures c.value_into.ensures.sized c.value_into.ensures.number in
    let p = err_from_is_err_and c.from_residual.result c.from_residual.ensures.1 in
    rw (p.1, p.2) (block_is_denied c.args.policy c.args.working.now c.set_value.new.working c.args.store block q around _ c.in_err-set_value.field-0.0 chosen bytes c.in_err-set_value.ensures)

pub returns : goal.returns
returns c =
    let block = block_view c.args.block in
    let q = c.args.question in
    let around = c.args.around in
    let chosen : Chooses c.args.policy c.args.working.now.stores (block_field c.args.store block) (Ok (q, around)) = c.requires.chosen in
    let bytes = bytes_of_number _ block.width _ c.are_bytes.ensures c.value_into.ensures.sized c.value_into.ensures.number in
    block_is_set c.args.policy c.args.working.now c.set_value.new.working c.args.store block q around _ c.in_ok-set_value.field-0 chosen bytes
    (block_range c.args.policy c.args.working.now.stores c.args.store block q around chosen c.requires.browsed.browsable c.requires.browsed.laid) c.in_ok-set_value.ensures
