use Rattle.std.proofs.Common.{◌≡◌, ℕ, List, refl, sym, ap, ◌∙◌, subst}
use Rattle.std.specs.Prelude.{IsErr}
use Rattle.hii_varstore.specs.Layout.{Shape}
use Rattle.hii_varstore.specs.Stores.{StoreMap, shape_of, with_bytes}
use Rattle.hii_varstore.specs.code.Table.{AreBuffers}
use Rattle.hii_values.specs.code.Contents.{content_bytes}
use Rattle.hii_questions.specs.code.NewBytes.{new_bytes}
use Rattle.hii_questions.specs.code.Views.{question_node}
use Rattle.guard_policy.specs.Policy.{inconsistent}
use Rattle.guard_policy.specs.code.Answers.{unless}
use Rattle.guard_policy.specs.code.RuleValues.{AreRuleValues}
use Rattle.guard_policy.specs.code.Views.{bytes_of, world}
use Rattle.guard_policy.proofs.DenialLemmas.{some_of}
use Rattle.guard_policy.proofs.RuleValueLemmas.{forgotten}
use Rattle.kept_conditions.specs.Kept.{KeptMap, kept_over}
use Rattle.kept_conditions.specs.laws.Writes.{IsWrite}
use Rattle.kept_conditions.specs.Touching.{range_of}
use Rattle.kept_conditions.proofs.DifferenceLemmas.{filled_wide, put_filled}
use Rattle.kept_conditions.proofs.CopyLemmas.{field_size, taken_back}
use Rattle.kept_conditions.proofs.cache.KeptStores.set.Goals.{After-copy_from_slice}
use Rattle.kept_conditions.proofs.cache.KeptStores.set.Goals as goal

pub copy_from_slice-requires : goal.copy_from_slice-requires
copy_from_slice-requires c =
    let field = c.args.field in
    c.field_mut.ensures.size ∙ sym (field_size c.args.self.now.stores field.store field.offset field.width c.args.old.now c.requires.range (c.requires.bytes (c.consistent_by.ensures.scoped (subst IsErr (sym c.in-Err.is) refl))))

-- the stores are what they were
back : (c : After-copy_from_slice) → with_bytes c.put.new.stores c.args.field.store c.from.result c.copy_from_slice.new.self ≡ c.args.self.now.stores
back c =
    let field = c.args.field in
    let old = c.args.self.now.stores in
    let put : c.put.new.stores ≡ with_bytes old field.store field.offset (new_bytes field) = c.put.ensures.written ∙ ap (λ (k : KeptMap). with_bytes k.stores field.store field.offset (new_bytes field)) c.self.view_is in
    let sound = subst (λ (k : KeptMap). AreBuffers (shape_of k.stores).buffers) c.self.view_is c.self.invariant.buffers in
    ap (λ (at : ℕ). with_bytes c.put.new.stores field.store at c.copy_from_slice.new.self) c.from.ensures
    ∙ ap (λ (bytes : List ℕ). with_bytes c.put.new.stores field.store field.offset bytes) c.copy_from_slice.ensures.after
    ∙ ap (λ (m : StoreMap). with_bytes m field.store field.offset c.args.old.now) put
    ∙ taken_back old field.store field.offset field.width (new_bytes field) c.args.old.now sound c.requires.range (c.requires.bytes (c.consistent_by.ensures.scoped (subst IsErr (sym c.in-Err.is) refl))) (filled_wide field.width (content_bytes field.content) field.fits)

pub invariant_of-self : goal.invariant_of-self
invariant_of-self c =
    let same : c.self.inside.stores ≡ with_bytes c.put.new.stores c.args.field.store c.from.result c.copy_from_slice.new.self =
    ap (λ (k : KeptMap). k.stores) c.self.view_is ∙ sym (back (goal.at.invariant_of-self c).After-copy_from_slice) in
    let was = c.self.invariant in
    let kept = c.self.inside.kept in
    record {
      over = subst (λ (m : StoreMap). kept ≡ kept_over kept.ifr m) same was.over;
      rules = forgotten kept.ifr (with_bytes c.put.new.stores c.args.field.store c.from.result c.copy_from_slice.new.self) c.forget-in-Err.new.self c.forget-in-Err.ensures.nothing;
      buffers = subst (λ (m : StoreMap). AreBuffers (shape_of m).buffers) same was.buffers;
    }

pub returns-in-Err : goal.returns-in-Err
returns-in-Err c =
    let field = c.args.field in
    let same = ap (λ (k : KeptMap). k.stores) c.self.view_is in
    let put : c.put.new.stores ≡ with_bytes c.args.self.now.stores field.store field.offset (new_bytes field) = c.put.ensures.written ∙ ap (λ (m : StoreMap). with_bytes m field.store field.offset (new_bytes field)) same in (
      ap (λ (m : StoreMap). record { ifr = c.self.inside.kept.ifr; stores = m; renewed = c.self.inside.renewed }) (back (goal.at.returns-in-Err c).After-copy_from_slice ∙ sym same) ∙ c.self.view_is,
      some_of (inconsistent (world c.args.policy (with_bytes c.args.self.now.stores field.store field.offset (new_bytes field))) (question_node c.args.question)) c.in-Err.denial
          (ap (λ (m : StoreMap). unless (inconsistent (world c.args.policy m) (question_node c.args.question))) (sym put) ∙ sym c.consistent_by.ensures.denied ∙ c.in-Err.is),
    )

pub invariant_of-self-2 : goal.invariant_of-self-2
invariant_of-self-2 c =
    let field = c.args.field in
    let was = c.self.inside.stores in
    let write = subst (λ (m : StoreMap). IsWrite (range_of field.store field.offset field.width) was m) (sym c.put.ensures.written)
    (put_filled was field.store field.offset field.width (content_bytes field.content) field.fits) in
    record {
      over = c.renew-touched.ensures.kept was write c.self.invariant.over ∙ ap (λ (b : List ℕ). kept_over b c.put.new.stores) (sym c.renew-touched.ensures.package);
      rules = subst (λ (b : List ℕ). AreRuleValues b c.put.new.stores c.renew-touched.new.rules) (sym c.renew-touched.ensures.package) c.renew-touched.ensures.values;
      buffers = subst (λ (shape : Shape). AreBuffers shape.buffers) (sym c.put.ensures.shape) c.self.invariant.buffers;
    }

pub consistent_by-requires-clause-kept : goal.consistent_by-requires-clause-kept
consistent_by-requires-clause-kept c = forgotten (bytes_of c.args.policy) c.put.new.stores c.forget.new.self c.forget.ensures.nothing

pub renew-touched-requires-clause-values : goal.renew-touched-requires-clause-values
renew-touched-requires-clause-values c = subst (λ (b : List ℕ). AreRuleValues b c.put.new.stores c.consistent_by.new.rules) (c.requires.package ∙ sym (ap (λ (k : KeptMap). k.ifr) c.self.view_is)) c.consistent_by.ensures.kept
