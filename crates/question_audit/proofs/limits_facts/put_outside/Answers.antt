use Rattle.std.proofs.Common.{◌≡◌, rules}
use Rattle.ifr_opcodes.specs.Opcode.{number}
use Rattle.ifr_opcodes.specs.declared.codes.TheConstants.{ACTION, DATE, REF, TIME}
use Rattle.hii_questions.specs.code.Views.{question_node}
use Rattle.question_audit.proofs.limits_facts.put_outside.Goals as goal

pub returns-in-Ref : goal.returns-in-Ref
returns-in-Ref g c =
    let is : number (question_node c.args.question).op ≡ REF = search rules in
    rw is c.put.ensures

pub returns-in-Date : goal.returns-in-Date
returns-in-Date g c =
    let is : number (question_node c.args.question).op ≡ DATE = search rules in
    rw is c.put-in-Date.ensures

pub returns-in-Time : goal.returns-in-Time
returns-in-Time g c =
    let is : number (question_node c.args.question).op ≡ TIME = search rules in
    rw is c.put-in-Time.ensures

pub returns-in-Action : goal.returns-in-Action
returns-in-Action g c =
    let is : number (question_node c.args.question).op ≡ ACTION = search rules in
    rw is c.put-in-Action.ensures
