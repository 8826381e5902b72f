use Rattle.std.proofs.Common.{ℕ, [], ◌∷◌, ◌++◌, ap, ◌∙◌}
use Rattle.hii_bytes.specs.declared.cause.Fault.{Fault}
use Rattle.ifr_scopes.specs.code.Parts.{option_node}
use Rattle.hii_questions.specs.code.Views.{question_node}
use Rattle.package_faults.specs.AllFaults.{fault_of}
use Rattle.package_faults.proofs.QuestionLemmas.{option_passed, option_told}
use Rattle.package_faults.proofs.questions.add_of_options.Goals as goal

pub loop-option-preserved-in-Continue-1 : goal.loop-option-preserved-in-Continue-1
loop-option-preserved-in-Continue-1 c =
    let told = c.loop-option.faults.items in
    let cause = c.in-Some-option_fault.cause in
    let added = c.in_ok-push.ensures.items ∙ ap (λ (f : Fault). told ++ f ∷ []) (c.fault.ensures ∙ ap (λ (p : ℕ). fault_of cause p) c.op.ensures.place) in
    record {
      can = tt;
      ends = tt;
      so_far = option_told (question_node c.args.question) (option_node c.in-Some.option) _ _ told _ _ cause c.in-Some.ensures.steps c.in-Some-option_fault.ensures added c.loop-option.invariant.so_far;
    }

pub loop-option-preserved : goal.loop-option-preserved
loop-option-preserved c = record {
  can = tt;
  ends = tt;
  so_far = option_passed (question_node c.args.question) (option_node c.in-Some.option) _ _ c.loop-option.faults.items _ c.in-Some.ensures.steps c.in_default.ensures c.loop-option.invariant.so_far;
}
