use Rattle.std.proofs.Common.{map, drop, codes}
use Rattle.hii_bytes.specs.Watching.{pen_of}
use Rattle.hii_bytes.specs.code.Writing.{Stands}
use Rattle.audit_text.specs.Texts.{joined, language_name}
use Rattle.dump_audit.proofs.ContentLemmas.{words_behind}
use Rattle.dump_audit.proofs.strings.ListStrings.put_languages.Given as goal

-- the languages before those that are left are written
abbrev pub invariant-loop-language : goal.invariant-loop-language
invariant-loop-language g l = Stands (pen_of g.W.Write.contents l.fn.out) (pen_of g.W.Write.contents l.out) (joined (codes ",") (map language_name l.fn.self.languages)) (words_behind (map language_name (map (λ language. language.now) (drop l.language-index l.others))))
