use Rattle.std.proofs.Common.{◌+◌, ◌∷◌, List, ℕ, drop, get_or, map}
use Rattle.std.proofs.lemmas.List.{at_drop_all, at_drop_more}
use Rattle.hii_bytes.proofs.WritingLemmas.{Stands-all, past_piece}
use Rattle.audit_text.specs.Texts.{shown_byte}
use Rattle.audit_json.specs.Json.{escaped, json_char}
use Rattle.audit_json.proofs.strings.put_escaped_bytes.Goals as goal

pub loop-byte-preserved : goal.loop-byte-preserved
loop-byte-preserved g c =
    let name = c.args.name.now in
    let i = c.loop-byte.byte-index in
    past_piece _ _ _ _ _ (json_char (shown_byte (get_or name i 0))) (escaped (map shown_byte (drop (i + 1) name))) (at_drop_more (λ (l : List ℕ). escaped (map shown_byte l)) name i 0 c.loop-byte-test.true)
    c.loop-byte.invariant (rw (c.from.ensures, c.shown_byte.ensures) at c.put_json_char.ensures)

pub returns : goal.returns
returns g c = Stands-all _ _ _ _ c.loop-byte.invariant (at_drop_all (λ (l : List ℕ). escaped (map shown_byte l)) c.args.name.now c.loop-byte.byte-index c.loop-byte-test.false)
