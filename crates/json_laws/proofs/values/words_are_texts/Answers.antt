use Rattle.json_laws.proofs.WordLemmas.{escaped_behind, text_between, word_escaped, word_is_quoted, word_is_text}
use Rattle.json_laws.proofs.values.words_are_texts.Goals as goal

pub returns-clause-quoted : goal.returns-clause-quoted
returns-clause-quoted c = word_is_quoted

pub returns-clause-characters : goal.returns-clause-characters
returns-clause-characters c = word_is_text

pub returns-clause-alone : goal.returns-clause-alone
returns-clause-alone c = word_escaped

pub returns-clause-behind : goal.returns-clause-behind
returns-clause-behind c = escaped_behind

pub returns-clause-between : goal.returns-clause-between
returns-clause-between c = text_between
