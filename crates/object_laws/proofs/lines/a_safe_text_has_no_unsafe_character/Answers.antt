use Rattle.object_laws.proofs.SafeLemmas.{language_safe, safe_bytes, store_name_safe, text_safe}
use Rattle.object_laws.proofs.lines.a_safe_text_has_no_unsafe_character.Goals as goal

pub returns-clause-text : goal.returns-clause-text
returns-clause-text c = text_safe

pub returns-clause-name : goal.returns-clause-name
returns-clause-name c = store_name_safe

pub returns-clause-language : goal.returns-clause-language
returns-clause-language c = language_safe

pub returns-clause-bytes : goal.returns-clause-bytes
returns-clause-bytes c = safe_bytes
