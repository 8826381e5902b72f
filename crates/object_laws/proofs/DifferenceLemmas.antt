-- Objects of `diff` that tell of questions tell facts.
use Rattle.std.proofs.Common.{◌≡◌, ℕ, ◌^◌, ◌<◌, List, Option, Some, None, codes, refl, subst}
use Rattle.hii_bytes.specs.Numbers.{AreBytes}
use Rattle.ifr_opcodes.specs.Fields.{question_id}
use Rattle.ifr_opcodes.specs.Forest.{Node}
use Rattle.hii_questions.specs.Answers.{value_of_field}
use Rattle.hii_questions.specs.Fields.{Field, asked}
use Rattle.guard_policy.specs.Policy.{fixed}
use Rattle.guard_policy.specs.declared.denial.Denial.{Denial}
use Rattle.audit_text.specs.Texts.{ascii_name}
use Rattle.question_audit.specs.Audited.{Audited}
use Rattle.question_audit.specs.QuestionLines.{name_of, store_with, value_told}
use Rattle.image_audit.specs.Difference.{question_members, range_member, shown_string, value_in, value_object, verdict_object, verdict_text}
use Rattle.json_laws.specs.laws.Telling.{IsReadBack, TellsFacts}
use Rattle.json_laws.specs.laws.Written.{IsWord}
use Rattle.json_laws.proofs.TellingLemmas.{read_back, spells_text, tells_behind, tells_member, tells_nothing, tells_spelled, tells_text}
use Rattle.object_laws.specs.laws.Differences.{CanTellValue}
use Rattle.object_laws.specs.laws.Questions.{HasUnits, ShowsTexts}
use Rattle.object_laws.proofs.CheckLemmas.{number_member_told}
use Rattle.object_laws.proofs.FieldLemmas.{two_bytes}
use Rattle.object_laws.proofs.MemberLemmas.{prompt_told, word_told}
use Rattle.object_laws.proofs.QuestionLemmas.{script_told, value_is_text}
use Rattle.object_laws.proofs.StoreLemmas.{name_is_text}
use Rattle.object_laws.proofs.TextPieceLemmas.{denial_word, field_behind}

asked_told : (a : Audited) (n : Node) → ShowsTexts a.texts → AreBytes n.op → n.place < 2 ^ 64 → TellsFacts (question_members a n)
asked_told a n shows are place =
    tells_behind (tells_behind (number_member_told (codes "id") (question_id n.op) refl (two_bytes n.op 6 are)) (prompt_told a.texts n shows are)) (number_member_told (codes "at") n.place refl place)

range_told : (ns : List Node) (field : Option Field) → TellsFacts (range_member ns field)
range_told ns None = tells_nothing
range_told ns (Some field) =
    let name = name_of (store_with ns field.store) in
    tells_member (codes "field") refl (tells_spelled (field_behind field.offset field.width (spells_text (ascii_name name) (name_is_text name))))

shown_told : (key : List ℕ) (a : Audited) (n : Node) → IsWord key → CanTellValue a.texts a.world a.stores n → TellsFacts (shown_string key a n)
shown_told key a n plain can = tells_member key plain (tells_text (value_told a n) (value_is_text a.texts a.world a.stores n can.shows can.bytes can.options can.units))

pub value_back : (a b : Audited) (n : Node) → b.world.nodes ≡ a.world.nodes → n.place < 2 ^ 64 → CanTellValue a.texts a.world a.stores n → CanTellValue b.texts b.world b.stores n → IsReadBack (codes "value") (value_object a b (asked a.world.nodes n))
value_back a b n same place old new =
    let q = asked a.world.nodes n in
    let units : HasUnits (value_in b.stores q) = subst (λ (ns : List Node). HasUnits (value_of_field b.stores n (asked ns n).field)) same new.units in
    read_back (codes "value") refl
    (tells_behind (tells_behind (asked_told a n old.shows old.bytes place) (range_told a.world.nodes q.field))
    (tells_behind
    (tells_behind (tells_behind (script_told (codes "old") n (value_in a.stores q) refl old.units) (script_told (codes "new") n (value_in b.stores q) refl units)) (shown_told (codes "oldShown") a n refl old))
    (shown_told (codes "newShown") b n refl new)))

pub verdict_word : (o : Option Denial) → IsWord (verdict_text o)
verdict_word None = refl
verdict_word (Some denial) = denial_word denial

pub verdict_back : (a b : Audited) (n : Node) → ShowsTexts a.texts → AreBytes n.op → n.place < 2 ^ 64 → IsReadBack (codes "verdict") (verdict_object a b n)
verdict_back a b n shows are place =
    read_back (codes "verdict") refl
    (tells_behind (tells_behind (asked_told a n shows are place) (word_told (codes "old") (verdict_text (fixed a.world n)) refl (verdict_word (fixed a.world n))))
    (word_told (codes "new") (verdict_text (fixed b.world n)) refl (verdict_word (fixed b.world n))))
