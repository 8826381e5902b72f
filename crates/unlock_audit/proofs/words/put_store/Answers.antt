use Rattle.std.proofs.Common.{List, ℕ, [], ◌∷◌, ◌+◌, ◌++◌, ◌≡◌, drop, get_or, map, refl, ◌∙◌}
use Rattle.std.proofs.lemmas.List.{at_drop_more}
use Rattle.hii_bytes.proofs.WritingLemmas.{past_piece}
use Rattle.audit_text.specs.Texts.{shown_byte}
use Rattle.audit_json.specs.Json.{escaped, json_char}
use Rattle.audit_json.specs.Telling.{told_as}
use Rattle.audit_json.specs.declared.telling.Telling.{Telling}
use Rattle.audit_json.specs.declared.telling.Telling.TheVariants.{Lines, Objects}
use Rattle.unlock_audit.specs.Told.{without_bracket}
use Rattle.unlock_audit.proofs.words.put_store.Goals as goal

-- bytes of a name as they are told
abbrev shown : Telling → List ℕ → List ℕ
shown telling name =
    let its = map without_bracket (map shown_byte name) in
    told_as telling its (escaped its)

first : (telling : Telling) (byte : ℕ) (name : List ℕ)
    → shown telling (byte ∷ name) ≡ told_as telling (without_bracket (shown_byte byte) ∷ []) (json_char (without_bracket (shown_byte byte))) ++ shown telling name
first Lines byte name = refl
first Objects byte name = refl

pub loop-byte-preserved : goal.loop-byte-preserved
loop-byte-preserved g c =
    let telling = c.args.telling in
    let name = c.args.name.now in
    let i = c.loop-byte.byte-index in
    let byte = get_or name i 0 in
    let rest = drop (i + 1) name in
    past_piece _ _ _ _ _ (told_as telling (without_bracket (shown_byte byte) ∷ []) (json_char (without_bracket (shown_byte byte)))) (shown telling rest)
    (at_drop_more (shown telling) name i 0 c.loop-byte-test.true ∙ first telling byte rest) c.loop-byte.invariant (rw c.name_byte.ensures at c.put_name_byte.ensures)
