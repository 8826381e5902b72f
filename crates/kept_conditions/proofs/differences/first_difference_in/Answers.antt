use Rattle.std.proofs.Common.{◌∙◌, ◌&&◌, nat_lt, length, sym, inl, inr}
use Rattle.kept_conditions.specs.Touching.{difference}
use Rattle.kept_conditions.specs.code.Invalidation.{other_at}
use Rattle.kept_conditions.proofs.DifferenceLemmas.{difference_at, nowhere, one_size}
use Rattle.kept_conditions.proofs.FirstLemmas.{differ_inside, first_alike}
use Rattle.kept_conditions.proofs.differences.first_difference_in.Goals as goal

pub first_difference-requires-clause-same : goal.first_difference-requires-clause-same
first_difference-requires-clause-same c = one_size c.args.old.now c.args.new.now c.requires c.args.store c.in-Some-Some.old.now c.in-Some-Some.new.now c.in-Some-Some.ensures c.in-Some-Some.ensures'

pub returns-in-Some-Some : goal.returns-in-Some-Some
returns-in-Some-Some c =
    let xs = c.in-Some-Some.old.now in
    let ys = c.in-Some-Some.new.now in
    let size = one_size c.args.old.now c.args.new.now c.requires c.args.store xs ys c.in-Some-Some.ensures c.in-Some-Some.ensures' in
    first_alike (λ at. nat_lt at (length xs) && other_at xs ys 0 at) (difference c.args.old.now c.args.new.now c.args.store)
    (λ at. differ_inside xs ys size at ∙ difference_at c.args.old.now c.args.new.now c.args.store xs ys c.in-Some-Some.ensures c.in-Some-Some.ensures' at)
    c.args.from c.first_difference.result c.first_difference.ensures

pub returns-in_default : goal.returns-in_default
returns-in_default c = λ at above. nowhere c.args.old.now c.args.new.now c.requires c.args.store (inr (sym c.in_default.ensures')) at

pub returns-in_default-2 : goal.returns-in_default-2
returns-in_default-2 c = λ at above. nowhere c.args.old.now c.args.new.now c.requires c.args.store (inl (sym c.in_default.ensures)) at
