use Rattle.std.proofs.Common.{◌≡◌, nat_lt, rules}
use Rattle.std.proofs.lemmas.Fn.{answers_by}
use Rattle.kept_conditions.specs.declared.index.Dependency.{Dependency}
use Rattle.kept_conditions.specs.code.Index.{first_of}
use Rattle.kept_conditions.proofs.OverlapLemmas.{parted}
use Rattle.kept_conditions.proofs.index.beginning_before.Goals as goal

pub returns-clause-behind : goal.returns-clause-behind
returns-clause-behind c =
    let point = c.partition_point.ensures.partitioned (λ (r : Dependency). nat_lt (first_of r) c.args.end) (answers_by _ _ (λ f. f.0.now ≡ c.args.end) (λ f a r g called is. (search rules, search rules)) _ (search rules)) (parted c.args.end c.args.dependencies.now c.requires) in
    point.1
