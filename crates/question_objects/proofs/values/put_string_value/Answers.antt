use Rattle.question_objects.proofs.values.put_string_value.Goals as goal

pub returns-in-Text : goal.returns-in-Text
returns-in-Text g c = rw c.in-Text.is (rw (c.chars.ensures, c.new.ensures) at c.put_shown.ensures)
