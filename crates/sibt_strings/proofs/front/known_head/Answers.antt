use Rattle.std.proofs.Common.{◌≡◌, ◌-◌, length, take, drop, arith, subst, sym}
use Rattle.std.proofs.lemmas.Grind.{common_steps}
use Rattle.sibt_strings.specs.code.Views.{EndsWith}
use Rattle.sibt_strings.proofs.EndLemmas.{ends_range, ends_trans}
use Rattle.sibt_strings.proofs.front.known_head.Goals as goal

pub returns-in-20-clause-inside : goal.returns-in-20-clause-inside
returns-in-20-clause-inside c = ends_range c.args.bytes.now 1

pub returns-in_ok-get-in-21-clause-inside : goal.returns-in_ok-get-in-21-clause-inside
returns-in_ok-get-in-21-clause-inside c =
    let body = take (length c.args.bytes.now - 1) (drop 1 c.args.bytes.now) in
    let text : c.in_ok-get-in-21.field-0.now ≡ take (length body - 1) (drop 1 body) = grind (arith, common_steps) in
    subst (EndsWith c.args.bytes.now) (sym text) (ends_trans (ends_range c.args.bytes.now 1) (ends_range body 1))

pub returns-in_ok-u16_at-in-22-clause-inside : goal.returns-in_ok-u16_at-in-22-clause-inside
returns-in_ok-u16_at-in-22-clause-inside c = ends_trans (ends_range c.args.bytes.now 1) (ends_range (take (length c.args.bytes.now - 1) (drop 1 c.args.bytes.now)) 2)

pub returns-in_ok-u16_at-in-23-clause-inside : goal.returns-in_ok-u16_at-in-23-clause-inside
returns-in_ok-u16_at-in-23-clause-inside c = ends_trans (ends_range c.args.bytes.now 1) (ends_range (take (length c.args.bytes.now - 1) (drop 1 c.args.bytes.now)) 3)

pub returns-in_ok-u16_at-in-32-clause-inside : goal.returns-in_ok-u16_at-in-32-clause-inside
returns-in_ok-u16_at-in-32-clause-inside c = ends_trans (ends_range c.args.bytes.now 1) (ends_range (take (length c.args.bytes.now - 1) (drop 1 c.args.bytes.now)) 2)

pub returns-in_ok-u16_at-in-33-clause-inside : goal.returns-in_ok-u16_at-in-33-clause-inside
returns-in_ok-u16_at-in-33-clause-inside c = ends_trans (ends_range c.args.bytes.now 1) (ends_range (take (length c.args.bytes.now - 1) (drop 1 c.args.bytes.now)) 2)

pub returns-in_ok-first-in-34-clause-inside : goal.returns-in_ok-first-in-34-clause-inside
returns-in_ok-first-in-34-clause-inside c = ends_trans (ends_range c.args.bytes.now 1) (ends_range (take (length c.args.bytes.now - 1) (drop 1 c.args.bytes.now)) 1)
