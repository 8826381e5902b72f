-- What the byte of an opcode counts from (own rule).
use Rattle.std.specs.Prelude.{ℕ, List, codes}
use Rattle.question_audit.specs.declared.origin.Holder.{Holder}
use Rattle.question_audit.specs.declared.origin.Holder.TheVariants as holder

-- what a line calls the file that is given
abbrev pub holder_text : Holder → List ℕ
holder_text holder.List = codes " of the list"
holder_text holder.Dump = codes " of the dump"
