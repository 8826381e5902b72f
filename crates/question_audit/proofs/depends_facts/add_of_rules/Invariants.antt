use Rattle.std.proofs.Common.{◌≡◌, ℕ, length}
use Rattle.std.specs.Prelude.{◌||◌}
use Rattle.std.specs.List.{list_any}
use Rattle.question_audit.specs.code.Ids.{AreIds, has_id}
use Rattle.question_audit.specs.code.NamedRules.{AreRulesAt, has_id_at}
use Rattle.question_audit.proofs.depends_facts.add_of_rules.Given as goal

-- those of each rule are added or left to be added
abbrev pub invariant-loop-place : goal.invariant-loop-place
invariant-loop-place l = record {
  named : (id : ℕ) → (has_id l.ids id || list_any (has_id_at l.forms id) l.left) ≡ (has_id l.fn.ids id || list_any (has_id_at l.forms id) l.places.keys);
  are : AreIds l.fn.ids → AreIds l.ids;
  rules : AreRulesAt l.forms l.left;
}

abbrev pub decreases-loop-place : goal.decreases-loop-place
decreases-loop-place l = length l.left
