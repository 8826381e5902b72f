use Rattle.std.proofs.lemmas.Str.{scalars-chars}
use Rattle.json_laws.proofs.ShownLemmas.{languages_are_characters, shown_are_characters}
use Rattle.json_laws.proofs.WordLemmas.{bytes_are_text, units_are_text}
use Rattle.json_laws.proofs.values.texts_are_characters.Goals as goal

pub returns-clause-bytes : goal.returns-clause-bytes
returns-clause-bytes c = bytes_are_text

pub returns-clause-units : goal.returns-clause-units
returns-clause-units c = units_are_text

pub returns-clause-shown : goal.returns-clause-shown
returns-clause-shown c = shown_are_characters

pub returns-clause-languages : goal.returns-clause-languages
returns-clause-languages c = languages_are_characters

pub returns-clause-path : goal.returns-clause-path
returns-clause-path c = scalars-chars
