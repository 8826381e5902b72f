use Rattle.std.proofs.Common.{◌≡◌, ◌<◌, Some, length, option_map, ap, sym, subst, ◌∙◌, arith, rules}
use Rattle.std.proofs.lemmas.Bool.{ne_eqb}
use Rattle.hii_bytes.specs.code.IdTables.{number_with}
use Rattle.ifr_nodes.specs.Nodes.{nodes_of}
use Rattle.hii_questions.specs.Fields.{asked, question_with}
use Rattle.hii_questions.specs.code.Entries.{IsQuestionEntry, entry_view}
use Rattle.hii_questions.specs.code.Survey.{Survey}
use Rattle.hii_questions.specs.declared.entry.QuestionEntry.{QuestionEntry}
use Rattle.hii_questions.proofs.IdLemmas.{number_found, number_missed, number_within}
use Rattle.hii_questions.proofs.questions.Questions.entry_of.Goals as goal
use Rattle.hii_questions.proofs.questions.Questions.entry_of.Goals.{In_ok-number}

-- the number that is told of the id
told : (c : In_ok-number) → number_with c.self.inside.by_id c.args.id ≡ Some c.in_ok-number.number
told c = sym (sym c.in_ok-number.was ∙ c.find.ensures)

within : (c : In_ok-number) → c.in_ok-number.number < length c.self.inside.by_place.items
within c =
    let s = c.self.inside in
    number_within s.ifr.now s.by_place.items s.by_id s.by_field.items s.passwords.items s.password_steps.items c.self.invariant.0 c.args.id c.in_ok-number.number (told c)

pub index-requires : goal.index-requires
index-requires c =
    let long : c.self.inside.by_place.len ≡ length c.self.inside.by_place.items = search rules in
    omega (arith, long, within (goal.at.index-requires c).In_ok-number)

pub returns-clause-found : goal.returns-clause-found
returns-clause-found c =
    let id = c.args.id in
    let s = c.self.inside in
    let entry = c.index.result.now in
    ap (λ (v : Survey). Some (entry_view v.ifr entry)) (sym c.self.view_is) ∙ ap (λ (e : QuestionEntry). Some (entry_view s.ifr.now e)) c.index.ensures
    ∙ number_found s.ifr.now s.by_place.items s.by_id s.by_field.items s.passwords.items s.password_steps.items c.self.invariant.0 id c.in_ok-number.number entry (ne_eqb id 0 c.if-id-eq0.false)
    (told (goal.at.returns-clause-found c).In_ok-number)
    ∙ ap (λ (v : Survey). option_map (asked (nodes_of v.ifr)) (question_with (nodes_of v.ifr) id)) c.self.view_is

pub returns-clause-kept : goal.returns-clause-kept
returns-clause-kept c =
    let entry = c.index.result.now in
    subst (λ (v : Survey). IsQuestionEntry v.ifr entry) c.self.view_is
    (subst (IsQuestionEntry c.self.inside.ifr.now) (sym c.index.ensures) (c.self.invariant.0.kept c.in_ok-number.number entry (within (goal.at.returns-clause-kept c).In_ok-number)))

pub returns-in_err-number-clause-found : goal.returns-in_err-number-clause-found
returns-in_err-number-clause-found c =
    let id = c.args.id in
    let s = c.self.inside in
    let none = sym (sym c.in_err-number.was ∙ c.find.ensures) in
    ap (option_map (entry_view c.args.self.now.ifr)) c.from_residual.ensures
    ∙ sym (number_missed s.ifr.now s.by_place.items s.by_id s.by_field.items s.passwords.items s.password_steps.items c.self.invariant.0 id (ne_eqb id 0 c.if-id-eq0.false) none)
    ∙ ap (λ (v : Survey). option_map (asked (nodes_of v.ifr)) (question_with (nodes_of v.ifr) id)) c.self.view_is
