use Rattle.std.proofs.Common.{map, drop, codes}
use Rattle.hii_bytes.specs.Watching.{pen_of}
use Rattle.audit_json.specs.Json.{json_text}
use Rattle.audit_json.proofs.ArrayLemmas.{Lists}
use Rattle.dump_audit.proofs.strings.ListStrings.put_languages_member.Given as goal

-- the languages before those that are left are written
abbrev pub invariant-loop-language : goal.invariant-loop-language
invariant-loop-language g l =
    Lists (codes "languages") (map json_text l.fn.self.languages) (map json_text (map (λ language. language.now) (drop l.language-index l.language-items))) l.is_first
    (pen_of g.W.Write.contents l.fn.out) (pen_of g.W.Write.contents l.out)
