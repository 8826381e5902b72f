use Rattle.std.proofs.Common.{◌≡◌, ◌<◌, ◌∙◌, length, arith, rules}
use Rattle.std.proofs.lemmas.Grind.{common_steps}
use Rattle.hii_packages.proofs.LeftLemmas.{faults_behind, faults_of_bad, faults_of_end, faults_of_last, faults_of_none, together_behind}
use Rattle.hii_packages.proofs.list.check_packages.Goals as goal

pub returns-in_default-clause-fault : goal.returns-in_default-clause-fault
returns-in_default-clause-fault c =
    let some : 0 < length c.loop-rest.rest.now = search rules in
    rw c.at.ensures (c.loop-rest.invariant.same ∙ faults_of_bad c.loop-rest.at c.loop-rest.rest.now some c.in_default.ensures)

pub returns-then-rest-gt4-clause-fault : goal.returns-then-rest-gt4-clause-fault
returns-then-rest-gt4-clause-fault c =
    rw c.at-then-rest-gt4.ensures (c.loop-rest.invariant.same ∙ faults_of_end c.loop-rest.at c.loop-rest.rest.now c.if-rest-gt4.true c.in-Some.ensures.0 c.if-rest.true)

pub returns-then-rest-clause-sound : goal.returns-then-rest-clause-sound
returns-then-rest-clause-sound c = c.loop-rest.invariant.same ∙ faults_of_last c.loop-rest.at c.loop-rest.rest.now c.if-rest-gt4.false c.in-Some.ensures.0 c.if-rest.true

pub loop-rest-preserved : goal.loop-rest-preserved
loop-rest-preserved c =
    let found = c.in-Some.ensures in
    record {
      same = c.loop-rest.invariant.same ∙ faults_behind c.loop-rest.at c.in-Some.size c.loop-rest.rest.now found.0 c.if-rest.false found.1;
      together = together_behind c.loop-rest.at c.in-Some.size _ c.loop-rest.rest.now found.0 found.1 c.loop-rest.invariant.together;
    }

pub returns-clause-fault : goal.returns-clause-fault
returns-clause-fault c =
    let none : length c.loop-rest.rest.now ≡ 0 = grind (arith, common_steps) in
    rw c.at-2.ensures (c.loop-rest.invariant.same ∙ faults_of_none c.loop-rest.at c.loop-rest.rest.now none)
