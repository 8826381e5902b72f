use Rattle.std.proofs.Common.{◌≡◌, ◌∙◌, sym, arith, rules}
use Rattle.std.proofs.lemmas.Grind.{common_steps}
use Rattle.std.proofs.lemmas.Result.{err_from_is_err_and}
use Rattle.browser_rules.specs.Faults.{list_faults}
use Rattle.browser_rules.specs.Packages.{list_length}
use Rattle.hii_bytes.proofs.ChapterFaultLemmas.{least_alone, some_faults}
use Rattle.hii_packages.specs.laws.Faults.{HasHeader}
use Rattle.hii_packages.proofs.ListLemmas.{faults_of_body}
use Rattle.hii_packages.proofs.list.PackageList.read.Goals as goal

pub returns-in_err-check_packages-clause-refused : goal.returns-in_err-check_packages-clause-refused
returns-in_err-check_packages-clause-refused c =
    let told : c.unwrap-size.result ≡ list_length c.args.list.now = grind (arith, common_steps) in
    let header : HasHeader c.args.list.now = record { header = omega arith; low = omega (arith, told); high = omega (arith, told) } in
    let p = err_from_is_err_and c.from_residual.result c.from_residual.ensures.1 in
    rw (p.1, p.2) (least_alone (list_faults c.args.list.now) _ (faults_of_body c.args.list.now c.unwrap-size.result header told ∙ c.in_err-check_packages.ensures.fault))

pub returns-in_err-check_packages-clause-accepted : goal.returns-in_err-check_packages-clause-accepted
returns-in_err-check_packages-clause-accepted c = λ sound.
    let told : c.unwrap-size.result ≡ list_length c.args.list.now = grind (arith, common_steps) in
    let header : HasHeader c.args.list.now = record { header = omega arith; low = omega (arith, told); high = omega (arith, told) } in
    absurd (some_faults _ _ (sym (faults_of_body c.args.list.now c.unwrap-size.result header told ∙ c.in_err-check_packages.ensures.fault) ∙ sound))

pub invariant_of-result : goal.invariant_of-result
invariant_of-result c =
    let told : c.unwrap-size.result ≡ list_length c.args.list.now = grind (arith, common_steps) in
    let header : HasHeader c.args.list.now = record { header = omega arith; low = omega (arith, told); high = omega (arith, told) } in
    record {
      sound = faults_of_body c.args.list.now c.unwrap-size.result header told ∙ c.in_ok-check_packages.ensures.sound;
      told = told;
      small = search rules;
    }

pub returns-clause-sound : goal.returns-clause-sound
returns-clause-sound c =
    let told : c.unwrap-size.result ≡ list_length c.args.list.now = grind (arith, common_steps) in
    let header : HasHeader c.args.list.now = record { header = omega arith; low = omega (arith, told); high = omega (arith, told) } in
    faults_of_body c.args.list.now c.unwrap-size.result header told ∙ c.in_ok-check_packages.ensures.sound
