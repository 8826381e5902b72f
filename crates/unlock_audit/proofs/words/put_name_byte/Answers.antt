use Rattle.std.proofs.Common.{ap, sym}
use Rattle.condition_text.proofs.WriteLemmas.{written_as}
use Rattle.std.proofs.Common.{[], ◌∷◌}
use Rattle.audit_json.specs.Json.{json_char}
use Rattle.audit_json.specs.Telling.{told_as}
use Rattle.unlock_audit.proofs.words.put_name_byte.Goals as goal

pub returns-in-Objects : goal.returns-in-Objects
returns-in-Objects g c =
    written_as (rw c.from.ensures at c.put_json_char.ensures) (ap (λ t. told_as t (c.args.byte ∷ []) (json_char c.args.byte)) (sym c.in-Objects.is))
