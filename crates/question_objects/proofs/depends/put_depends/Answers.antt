use Rattle.std.proofs.Common.{ℕ, List, decimal, map, ap}
use Rattle.condition_text.proofs.WriteLemmas.{written_as}
use Rattle.audit_json.specs.Objects.{array_member}
use Rattle.question_audit.specs.Dependences.{depends_word}
use Rattle.question_objects.proofs.depends.put_depends.Goals as goal

pub returns-clause-told : goal.returns-clause-told
returns-clause-told g c = written_as (rw c.key_of.ensures at c.put_ids.ensures) (ap (λ (ids : List ℕ). array_member (depends_word c.args.when) (map decimal ids)) c.in_ok-ids.ensures)
