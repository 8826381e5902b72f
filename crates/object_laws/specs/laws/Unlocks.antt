-- What can be told in objects of what opens a question.
use Rattle.std.specs.Prelude.{◌<◌, ◌^◌, IfOk, IfSome, List, option_map, ⊤}
use Rattle.std.specs.List.{AllByRecursion}
use Rattle.hii_bytes.specs.Numbers.{AreBytes}
use Rattle.ifr_opcodes.specs.Forest.{Node}
use Rattle.hii_questions.specs.Fields.{asked, question_with}
use Rattle.unlock_audit.specs.Tries.{bytes_taken}
use Rattle.unlock_audit.specs.Unlock.{Answer, Unlock, opened, never, found, written, more, none, driver}
use Rattle.object_laws.specs.laws.Questions.{IsNear}

-- what is written of a field is bytes
abbrev pub CanWrite : List Node → Answer → Type 0
CanWrite ns opened = ⊤
CanWrite ns (never reason) = ⊤
CanWrite ns (found again list) = ⊤
CanWrite ns (written m) = IfSome (option_map (asked ns) (question_with ns m.id)) (λ q. IfOk (bytes_taken q m.value) AreBytes)
CanWrite ns more = ⊤
CanWrite ns none = ⊤
CanWrite ns driver = ⊤

pub record CanUnlock (ns : List Node) (u : Unlock) : Type 0 where
  pub verdict : IfSome u.verdict IsNear
  pub answer : CanWrite ns u.answer
  pub ids : AllByRecursion (λ id. id < 2 ^ 64) u.ids
  pub tried : u.tried < 2 ^ 64
