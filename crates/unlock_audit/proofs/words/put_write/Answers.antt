use Rattle.std.proofs.Common.{List, ℕ, ap, subst, sym}
use Rattle.hii_bytes.proofs.WritingLemmas.{◌⨾◌}
use Rattle.hii_varstore.specs.Stores.{StoreMap, shape_of}
use Rattle.hii_varstore.specs.code.Ranges.{HasRange}
use Rattle.hii_questions.specs.code.Ranges.{range_in}
use Rattle.hii_questions.specs.code.Views.{question_view}
use Rattle.guard_policy.specs.code.Views.{bytes_of}
use Rattle.condition_text.proofs.WriteLemmas.{written_as}
use Rattle.question_audit.proofs.AskedLemmas.{IsFoundWith, found_with}
use Rattle.session_steps.specs.State.{State}
use Rattle.unlock_audit.proofs.FieldLemmas.{field_is_there, field_told}
use Rattle.unlock_audit.proofs.RunLemmas.{has_range}
use Rattle.unlock_audit.proofs.words.put_write.Goals as goal

pub returns-in-Some-field-2 : goal.returns-in-Some-field-2
returns-in-Some-field-2 g c =
    let s = c.args.browser.now.state in
    let m = c.args.each in
    let q = question_view c.in-Some.question in
    let field = range_in c.in-Some-field.field in
    let policy = c.page.result.policy in
    let found = subst (λ (b : List ℕ). IsFoundWith b m.id q) c.page.ensures.bytes (found_with (bytes_of policy) c.questions.result.now.ifr m.id q policy.accepted.checked.spelled c.questions.ensures.own c.in-Some.ensures) in
    let has = sym c.in-Some-field.ensures.found in
    let working = sym (ap (λ (st : State). st.working) c.requires.fresh) in
    let range = subst (λ (st : StoreMap). HasRange (shape_of st) field.store field.offset field.width) working (has_range s.ifr m.id q field (shape_of s.working) c.page.ensures.fields found has) in
    let there = rw c.from.ensures at c.in-Some-field-2.ensures.0 in
    written_as (rw c.requires.names at (c.put_field.ensures ⨾ c.put_bytes.ensures)) (sym (field_told c.args.telling s m q field c.args.stores.now c.in-Some-field-2.bytes.now found has c.requires.written range there))

pub returns-in_default-field-2 : goal.returns-in_default-field-2
returns-in_default-field-2 g c =
    let s = c.args.browser.now.state in
    let m = c.args.each in
    let q = question_view c.in-Some.question in
    let field = range_in c.in-Some-field.field in
    let policy = c.page.result.policy in
    let found = subst (λ (b : List ℕ). IsFoundWith b m.id q) c.page.ensures.bytes (found_with (bytes_of policy) c.questions.result.now.ifr m.id q policy.accepted.checked.spelled c.questions.ensures.own c.in-Some.ensures) in
    let has = sym c.in-Some-field.ensures.found in
    let working = sym (ap (λ (st : State). st.working) c.requires.fresh) in
    let range = subst (λ (st : StoreMap). HasRange (shape_of st) field.store field.offset field.width) working (has_range s.ifr m.id q field (shape_of s.working) c.page.ensures.fields found has) in
    absurd (field_is_there s m q field c.args.stores.now found has c.requires.written range (rw c.from.ensures at c.in_default-field-2.ensures))
