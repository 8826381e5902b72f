use Rattle.std.proofs.Common.{◌≡◌, Bool, false, refl, sym, true, ap, ◌∙◌}
use Rattle.std.specs.Prelude.{not, ◌==◌, ◌||◌}
use Rattle.std.proofs.lemmas.Bool.{eq-eqb}
use Rattle.hii_bytes.specs.code.NumberSets.{has_number}
use Rattle.ifr_opcodes.specs.Fields.{form_id}
use Rattle.ifr_opcodes.specs.code.Ops.{bytes_of}
use Rattle.ifr_opcodes.specs.declared.codes.TheConstants.{FORM}
use Rattle.ifr_index.specs.code.Levels.{node_with}
use Rattle.ifr_index.proofs.ReferredLemmas.{form_met}
use Rattle.ifr_index.proofs.references.References.meet_form.Goals as goal

other_way : (new had : Bool) → new ≡ not had → had ≡ not new
other_way new true e = ap not (sym e)
other_way new false e = ap not (sym e)

pub returns-then-not-insert : goal.returns-then-not-insert
returns-then-not-insert c = λ path children.
    let old = c.args.self.now in
    let form = c.args.form in
    let had : has_number old.forms (form_id (bytes_of form.op)) ≡ true = ap (has_number old.forms) (sym c.id.ensures) ∙ other_way c.insert.result _ c.insert.ensures.new ∙ ap not c.if-not-insert.true in
    form_met (node_with form.op path children) old _ (eq-eqb form.op.code FORM form.coded)
    (λ id. c.insert.ensures.numbers id ∙ ap (λ k. k == id || has_number old.forms id) c.id.ensures) refl refl (sym (ap (λ b. b || old.repeated) had))

pub returns-else-not-insert : goal.returns-else-not-insert
returns-else-not-insert c = λ path children.
    let old = c.args.self.now in
    let form = c.args.form in
    let had : has_number old.forms (form_id (bytes_of form.op)) ≡ false = ap (has_number old.forms) (sym c.id.ensures) ∙ other_way c.insert.result _ c.insert.ensures.new ∙ ap not c.if-not-insert.false in
    form_met (node_with form.op path children) old _ (eq-eqb form.op.code FORM form.coded)
    (λ id. c.insert.ensures.numbers id ∙ ap (λ k. k == id || has_number old.forms id) c.id.ensures) refl refl (sym (ap (λ b. b || old.repeated) had))
