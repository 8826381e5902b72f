use Rattle.std.proofs.Common.{arith, ◌≡◌, refl}
use Rattle.std.proofs.lemmas.Grind.{common_steps}
use Rattle.hii_dumps.specs.Dumps.{stated_length}
use Rattle.hii_dumps.proofs.ListLemmas.{FirstList, first_list}
use Rattle.hii_dumps.proofs.lists.split_first.Goals as goal

pub unwrap-size-requires : goal.unwrap-size-requires
unwrap-size-requires c =
    let f = first_list c.args.rest.now _ refl c.requires.lists c.requires.some in grind (arith, common_steps, f)

at_front : (c : goal.After-split_at) → FirstList c.args.rest.now c.unwrap-size.result
at_front c =
    let told : c.unwrap-size.result ≡ stated_length c.args.rest.now = grind (arith, common_steps) in
    first_list c.args.rest.now c.unwrap-size.result told c.requires.lists c.requires.some

pub split_at-requires : goal.split_at-requires
split_at-requires c =
    let told : c.unwrap-size.result ≡ stated_length c.args.rest.now = grind (arith, common_steps) in
    (first_list c.args.rest.now _ told c.requires.lists c.requires.some).within

pub returns-clause-first : goal.returns-clause-first
returns-clause-first c = rw c.split_at.ensures.front (at_front c).first

pub returns-clause-after : goal.returns-clause-after
returns-clause-after c = rw c.split_at.ensures.back (at_front c).after

pub returns-clause-lists : goal.returns-clause-lists
returns-clause-lists c = rw (c.split_at.ensures.front, c.split_at.ensures.back) (at_front c).lists
