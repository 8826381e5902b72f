-- What is said of a session over what is given.
use Rattle.std.proofs.Common.{[], Result, Ok, Err, IfErr, OnErr, inl, refl}
use Rattle.audit_json.specs.declared.telling.Telling.{Telling}
use Rattle.audit_json.specs.declared.telling.Telling.TheVariants.{Lines, Objects}
use Rattle.question_audit.specs.declared.origin.Origin.{Origin}
use Rattle.audit_commands.specs.Auditing.{Asked, BeginsAudits}

-- what follows from the error of a result
pub of_error : {X E : Type 0} {Q : E → Type 0} {P : Type 0} (r : Result X E) → ((e : E) → Q e → P) → IfErr r Q → OnErr r P
of_error (Ok x) follows is = tt
of_error (Err e) follows is = follows e is

-- nothing is a beginning
pub begins_none : (telling : Telling) (asked : Asked) (origin : Origin) → BeginsAudits telling asked origin []
begins_none Lines asked origin = refl
begins_none Objects asked origin = inl refl
