use Rattle.std.proofs.Common.{◌≡◌, ◌++◌, ◌∙◌, arith}
use Rattle.std.proofs.lemmas.Grind.{common_steps}
use Rattle.form_page.proofs.LineLemmas.{held_more, passed_on, written_at_once}
use Rattle.form_page.specs.declared.line.Line.{Line}
use Rattle.form_page.proofs.line.Line.put.Goals as goal

pub returns-then-is_err : goal.returns-then-is_err
returns-then-is_err g c = λ start text gathers.
    let emptied : Line = c.pass_on.new.self in
    let first : c.try_extend_from_slice.new.self.items ≡ c.args.self.now.held.items = grind (arith, common_steps) in
    let second : c.try_extend_from_slice-2.new.self.items ≡ emptied.held.items = grind (arith, common_steps) in
    let told = rw first at c.pass_on.ensures.text in
    written_at_once start _ _ emptied (record { held = c.try_extend_from_slice-2.new.self }) text c.args.bytes.now c.pass_on.ensures.empty (second ∙ c.pass_on.ensures.empty) c.put.ensures
    (passed_on start _ _ c.args.self.now emptied text c.pass_on.ensures.empty told gathers)

pub returns-else-is_err : goal.returns-else-is_err
returns-else-is_err g c = λ start text gathers.
    let emptied : Line = c.pass_on.new.self in
    let first : c.try_extend_from_slice.new.self.items ≡ c.args.self.now.held.items = grind (arith, common_steps) in
    let second : c.try_extend_from_slice-2.new.self.items ≡ emptied.held.items ++ c.args.bytes.now = grind (arith, common_steps) in
    let told = rw first at c.pass_on.ensures.text in
    held_more start _ emptied (record { held = c.try_extend_from_slice-2.new.self }) text c.args.bytes.now second
    (passed_on start _ _ c.args.self.now emptied text c.pass_on.ensures.empty told gathers)
