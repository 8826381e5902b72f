use Rattle.std.proofs.Common.{◌≡◌, ◌<◌, ◌+◌, ◌++◌, ◌∷◌, [], ℕ, List, All, length, sym, ap, subst, ◌∙◌, arith}
use Rattle.std.proofs.lemmas.List.{map_push, take_all, take_more}
use Rattle.std.proofs.lemmas.List.Elements.{All-nil, All-push}
use Rattle.hii_questions.specs.code.ByField.{entries_at, entry_at, no_entry}
use Rattle.hii_questions.specs.declared.entry.QuestionEntry.{QuestionEntry}
use Rattle.hii_questions.proofs.by_field.numbers_of.Goals as goal

pub loop-number-init : goal.loop-number-init
loop-number-init c =
    let none = c.in_ok-numbers.ensures.items in
    record {
      within = subst (All (λ n. n < 0)) (sym none) (All-nil (λ n. n < 0));
      all = ap (entries_at c.args.questions.now) none;
    }

pub loop-number-preserved : goal.loop-number-preserved
loop-number-preserved c =
    let es = c.args.questions.now in
    let k = c.loop-number.number in
    let ns = c.loop-number.numbers.items in
    let pushed = c.in_ok-push.ensures.items in
    let few : k < length es = omega (arith, c.loop-number-test.true) in
    let below : All (λ n. n < k + 1) ns = λ i d lt. let less = c.loop-number.invariant.within i d lt in omega (arith, less) in
    record {
      within = subst (All (λ n. n < k + 1)) (sym pushed) (All-push (λ n. n < k + 1) ns k below (omega arith));
      all = ap (entries_at es) pushed ∙ map_push (entry_at es) ns k ∙ ap (λ (l : List QuestionEntry). l ++ entry_at es k ∷ []) c.loop-number.invariant.all ∙ sym (take_more es k no_entry few);
    }

pub returns : goal.returns
returns c =
    let es = c.args.questions.now in
    let k = c.loop-number.number in
    let all : length es ≡ k = omega (arith, c.loop-number-test.false, c.loop-number.auto.number-end) in
    record {
      within = subst (λ (m : ℕ). All (λ n. n < m) c.loop-number.numbers.items) (sym all) c.loop-number.invariant.within;
      all = c.loop-number.invariant.all ∙ take_all k es (omega (arith, all));
    }
