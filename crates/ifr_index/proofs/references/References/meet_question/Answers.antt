use Rattle.std.proofs.Common.{◌≡◌, ℕ, Bool, List, ◌++◌, sym, ap, ◌∙◌}
use Rattle.std.specs.Prelude.{not, ◌==◌, ◌&&◌, ◌||◌}
use Rattle.std.specs.Global.{Vec}
use Rattle.hii_bytes.specs.code.NumberSets.{has_number}
use Rattle.ifr_index.specs.code.Levels.{node_with}
use Rattle.ifr_index.specs.code.References.{leads_to, unmet}
use Rattle.ifr_index.specs.declared.references.References.{References}
use Rattle.ifr_index.proofs.ReferredLemmas.{question_met}
use Rattle.ifr_index.proofs.references.References.meet_question.Goals as goal
use Rattle.ifr_index.proofs.references.References.meet_question.Goals.{After-await_form, then-repeats, else-repeats}

-- what is known where its id was met
record Named (c : After-await_form) : Type 0 where
  forms : c.if-repeats.self.forms ≡ c.args.self.now.forms
  questions : c.if-repeats.self.questions ≡ c.repeats.new.ids
  awaited : c.if-repeats.self.awaited ≡ c.args.self.now.awaited
  repeated : c.if-repeats.self.repeated ≡ (c.repeats.result || c.args.self.now.repeated)

named : (c : After-await_form) → Named c
named c = elim c.if-repeats.branch [
  | then-repeats w ↦ record {
    forms = ap (λ (r : References). r.forms) w.self-is;
    questions = ap (λ (r : References). r.questions) w.self-is;
    awaited = ap (λ (r : References). r.awaited) w.self-is;
    repeated = ap (λ (r : References). r.repeated) w.self-is ∙ sym (ap (λ (b : Bool). b || c.args.self.now.repeated) w.if-repeats.true);
  }
  | else-repeats w ↦ record {
    forms = ap (λ (r : References). r.forms) w.self-is;
    questions = ap (λ (r : References). r.questions) w.self-is;
    awaited = ap (λ (r : References). r.awaited) w.self-is;
    repeated = ap (λ (r : References). r.repeated) w.self-is ∙ sym (ap (λ (b : Bool). b || c.args.self.now.repeated) w.if-repeats.false);
  }
]

pub returns : goal.returns
returns c = λ path children.
    let n = node_with c.args.question.op path children in
    let old = c.args.self.now in
    let its = named (goal.at.returns c).After-await_form in
    let stays = c.await_form.ensures.stays in
    question_met n old c.await_form.new.self c.args.question.coded
    (λ id. ap (λ l. has_number l id) (stays.1 ∙ its.questions) ∙ c.repeats.ensures.met id ∙ ap (λ k. k == id || has_number old.questions id) c.id.ensures)
    (stays.0 ∙ its.forms)
    (c.in_ok-await_form.ensures.awaited path children ∙ ap (λ (v : Vec ℕ). v.items ++ unmet c.if-repeats.self.forms (leads_to n)) its.awaited ∙ ap (λ (l : List Bool). old.awaited.items ++ unmet l (leads_to n)) its.forms)
    (stays.2 ∙ its.repeated ∙ ap (λ (b : Bool). b || old.repeated) (c.repeats.ensures.told ∙ ap (λ (k : ℕ). not (k == 0) && has_number old.questions k) c.id.ensures))
