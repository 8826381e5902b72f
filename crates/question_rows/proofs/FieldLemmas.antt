-- Values of questions that have a field.
use Rattle.std.proofs.Common.{◌≡◌, Option, Some, None, [], ◌++◌, codes, sym, ap}
use Rattle.std.specs.Prelude.{option_map}
use Rattle.hii_questions.specs.Fields.{Asked}
use Rattle.hii_questions.specs.code.Ranges.{range_in}
use Rattle.hii_questions.specs.declared.field_range.FieldRange.{FieldRange}
use Rattle.question_audit.specs.Audited.{Audited}
use Rattle.question_rows.specs.Shown.{shown_words, value_part}

pub value_there : (a : Audited) (q : Asked) (found : Option FieldRange) (field : FieldRange) → found ≡ Some field → codes "<p class=\"value\">" ++ shown_words a q ++ codes "</p>" ≡ value_part a q (option_map range_in found)
value_there a q found field e = ap (λ (f : Option FieldRange). value_part a q (option_map range_in f)) (sym e)

pub value_lacking : (a : Audited) (q : Asked) (found : Option FieldRange) → found ≡ None → [] ≡ value_part a q (option_map range_in found)
value_lacking a q found e = ap (λ (f : Option FieldRange). value_part a q (option_map range_in f)) (sym e)
