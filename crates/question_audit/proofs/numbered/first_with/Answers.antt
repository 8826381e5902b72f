use Rattle.std.proofs.Common.{◌≡◌, ◌∙◌, ℕ, true, false, ltb, get_or, find, rules, sym, ap, Some, None}
use Rattle.std.specs.Prelude.{◌==◌}
use Rattle.std.specs.List.Sorted.{IsPartitionPoint}
use Rattle.std.proofs.lemmas.List.{get_or_default}
use Rattle.std.proofs.lemmas.List.Sorted.{IsPartitionPoint-from_clause}
use Rattle.hii_bytes.proofs.SearchLemmas.{parted, first_there, first_past}
use Rattle.question_audit.proofs.NameLemmas.{past_all}
use Rattle.question_audit.proofs.numbered.first_with.Goals as goal
use Rattle.question_audit.proofs.numbered.first_with.Goals.{After-partition_point-first, else-first-things-via-then-first-things+else-number, else-first-things-via-else-first-things}

-- the things are parted where the number would stand
split : (g : _) (c : After-partition_point-first g)
    → IsPartitionPoint (λ t. ltb (g.T.Numbered.number_of t) c.args.number ≡ true) (λ t. ltb (g.T.Numbered.number_of t) c.args.number ≡ false) c.args.things.now c.partition_point-first.result
split g c =
    let key = g.T.Numbered.number_of in
    let xs = c.args.things.now in
    IsPartitionPoint-from_clause (λ t. ltb (key t) c.args.number) xs c.partition_point-first.result c.partition_point-first.ensures.partitioned (parted key xs c.args.number c.requires) (λ a r q called. search rules)

pub returns-then-number : goal.returns-then-number
returns-then-number g c =
    let at = (goal.at.returns-then-number g c).After-partition_point-first in
    let key = g.T.Numbered.number_of in
    let xs = c.args.things.now in
    let first = c.partition_point-first.result in
    let here = c.index-things-first-then-number.result in
    let is : key (get_or xs first here) ≡ c.args.number =
    ap key (get_or_default xs first here c.index-things-first.result c.if-first-things.true ∙ sym c.index-things-first.is) ∙ sym c.number.ensures ∙ c.if-number.true in
    ap (λ t. Some t) c.index-things-first-then-number.is ∙ sym (first_there key xs c.args.number first here (split g at) c.if-first-things.true is)

pub returns : goal.returns
returns g c =
    let at = (goal.at.returns g c).After-partition_point-first in
    let key = g.T.Numbered.number_of in
    let xs = c.args.things.now in
    let first = c.partition_point-first.result in
    elim c.else-first-things.branch [
      | else-first-things-via-then-first-things+else-number b ↦
          sym (first_past key xs c.args.number first (split g at) c.requires b.index-things-first.result
          (λ lt is. b.if-number.false (b.number.ensures ∙ ap key b.index-things-first.is ∙ is)))
      | else-first-things-via-else-first-things b ↦ sym (past_all key xs c.args.number first (split g at) c.requires b.if-first-things.false)
    ]
