-- How characters are written for lines and for strings of JSON.
use Rattle.std.specs.Prelude.{ℕ, List}
use Rattle.std.specs.List.{flat_map}
use Rattle.audit_json.specs.Json.{json_char}
use Rattle.audit_text.specs.Texts.{safe_char}
use Rattle.question_audit.specs.declared.escaping.Escaping.{Escaping}
use Rattle.question_audit.specs.declared.escaping.Escaping.TheVariants.{Line, Json}

abbrev pub escaped : Escaping → ℕ → List ℕ
escaped Line c = safe_char c
escaped Json c = json_char c

abbrev pub escaped_text : Escaping → List ℕ → List ℕ
escaped_text how text = flat_map (escaped how) text
