-- Objects of `unlock` tell facts.
use Rattle.std.proofs.Common.{◌≡◌, ◌==◌, ℕ, ◌^◌, ◌<◌, nat_le, ℤ, Bool, true, false, List, [], ◌∷◌, ◌++◌, length, map, reverse, Option, Some, None, IfSome, option_map, Result, Ok, Err, IfOk, decimal, codes, refl, arith}
use Rattle.std.specs.Fmt.{signed_decimal}
use Rattle.std.specs.List.{AllByRecursion, find}
use Rattle.std.specs.Str.{all_scalars}
use Rattle.std.proofs.lemmas.Bool.{and_from, cond_both}
use lib.Utf8.{low_scalar}
use mathlib.Core.List.{reverse_aux}
use Rattle.hii_bytes.specs.Numbers.{AreBytes}
use Rattle.ifr_opcodes.specs.Fields.{question_id, statement_prompt}
use Rattle.ifr_opcodes.specs.Forest.{Node}
use Rattle.ifr_nodes.specs.Guards.{guards}
use Rattle.ifr_nodes.specs.Nodes.{nodes_of}
use Rattle.hii_values.specs.declared.denial.DenialKind.{DenialKind}
use Rattle.hii_questions.specs.Fields.{Asked, Field, asked, question_with}
use Rattle.guard_policy.specs.declared.denial.Denial.{Denial}
use Rattle.audit_text.specs.Texts.{ascii_name, shown_byte}
use Rattle.audit_json.specs.declared.telling.Telling.TheVariants.{Objects}
use Rattle.question_audit.specs.FormLines.{denial_text}
use Rattle.question_audit.specs.QuestionLines.{name_of, store_with}
use Rattle.question_audit.specs.ConditionFacts.{condition_words}
use Rattle.image_audit.specs.Lines.{number_digits, number_text}
use Rattle.session_steps.specs.State.{State, texts}
use Rattle.unlock_audit.specs.Told.{answer_members, answer_word, asks_member, bytes_text, command_items, reason_text, set_text, short_condition, taken_text, unlock_object, value_text, verdict_members, without_bracket}
use Rattle.unlock_audit.specs.Tries.{bytes_taken}
use Rattle.unlock_audit.specs.Unlock.{Answer, Unlock, opened, never, found, written, more, none, driver}
use Rattle.unlock_audit.specs.declared.moves.Move.{Move}
use Rattle.json_laws.specs.laws.Telling.{IsReadBack, SpellsText, TellsFacts, TellValues}
use Rattle.json_laws.specs.laws.Written.{IsWord}
use Rattle.json_laws.proofs.TellingLemmas.{each_told, read_back, spells_behind, spells_text, spells_word, tell_more, tell_none, tells_array_member, tells_behind, tells_member, tells_nothing, tells_number, tells_spelled, tells_text, tells_word}
use Rattle.json_laws.proofs.WordLemmas.{Bytes, all_bytes, are_bytes, bytes_word, decimal_word, signed_word, word_behind}
use Rattle.object_laws.specs.laws.Questions.{IsNear, ShowsTexts}
use Rattle.object_laws.specs.laws.Unlocks.{CanUnlock, CanWrite}
use Rattle.object_laws.proofs.CheckLemmas.{number_member_told}
use Rattle.object_laws.proofs.FieldLemmas.{two_bytes}
use Rattle.object_laws.proofs.MemberLemmas.{denial_told, word_told, words_are_word}
use Rattle.object_laws.proofs.StoreLemmas.{byte_shown}
use Rattle.object_laws.proofs.TextPieceLemmas.{denial_word, field_behind}

-- ---- commands and reasons

pub set_word : (m : Move) → IsWord (set_text m)
set_word m =
    word_behind (codes "set " ++ decimal m.id ++ codes " ") (signed_decimal m.value)
    (word_behind (codes "set " ++ decimal m.id) (codes " ") (word_behind (codes "set ") (decimal m.id) refl (decimal_word m.id)) refl) (signed_word m.value)

commands_told : (again : Bool) (list : List Move) → TellValues (command_items again list)
commands_told true [] = tell_more (tells_word (codes "submit") refl) tell_none
commands_told false [] = tell_none
commands_told again (m ∷ list) = tell_more (tells_word (set_text m) (set_word m)) (commands_told again list)

condition_word : (o : Option Node) → IsWord (short_condition o)
condition_word None = refl
condition_word (Some g) =
    cond_both (nat_le (length (condition_words g)) 80) (codes ": " ++ condition_words g) [] IsWord (λ _. word_behind (codes ": ") (condition_words g) refl (words_are_word g)) (λ _. refl)

pub reason_word : (n : Node) (reason : Denial) → IsWord (reason_text n reason)
reason_word n reason =
    word_behind (denial_text reason) (short_condition (find (λ g. g.place == reason.place) (guards n))) (denial_word reason) (condition_word (find (λ g. g.place == reason.place) (guards n)))

-- ---- what is written

bracket_scalars : (name : List ℕ) → all_scalars (map without_bracket (map shown_byte name)) ≡ true
bracket_scalars [] = refl
bracket_scalars (b ∷ name) =
    let c = shown_byte b in
    let small : c < 128 = byte_shown b in
    let other : without_bracket c < 128 = cond_both (c == 93) 63 c (λ n. n < 128) (λ _. omega arith) (λ _. small) in
    and_from _ _ (low_scalar (without_bracket c) (omega arith)) (bracket_scalars name)

name_scalars : (name : List ℕ) → all_scalars (map without_bracket (ascii_name name)) ≡ true
name_scalars [] = refl
name_scalars (b ∷ name) = bracket_scalars (b ∷ name)

reversed : (bytes behind : List ℕ) → Bytes bytes → Bytes behind → Bytes (reverse_aux bytes behind)
reversed [] behind all too = too
reversed (b ∷ bytes) behind all too = reversed bytes (b ∷ behind) all.1 (all.0, too)

pub number_word : (bytes : List ℕ) → AreBytes bytes → IsWord (number_text bytes)
number_word bytes are = word_behind (codes "0x") (number_digits bytes) refl (bytes_word false (reverse bytes) (are_bytes (reverse bytes) (reversed bytes [] (all_bytes bytes are) tt)))

taken_spelled : (ns : List Node) (field : Option Field) (r : Result (List ℕ) DenialKind) → IfOk r AreBytes → SpellsText (taken_text Objects ns field r)
taken_spelled ns (Some field) (Ok bytes) are =
    let name = map without_bracket (ascii_name (name_of (store_with ns field.store))) in
    spells_behind (field_behind field.offset field.width (spells_text name (name_scalars (name_of (store_with ns field.store)))))
    (spells_word (bytes_text bytes) (word_behind (codes "=") (number_text bytes) refl (number_word bytes are)))
taken_spelled ns (Some field) (Err refused) are = spells_word [] refl
taken_spelled ns None r are = spells_word [] refl

value_spelled : (ns : List Node) (value : ℤ) (o : Option Asked) → IfSome o (λ q. IfOk (bytes_taken q value) AreBytes) → SpellsText (value_text Objects ns value o)
value_spelled ns value None are = spells_word [] refl
value_spelled ns value (Some q) are = taken_spelled ns q.field (bytes_taken q value) are

-- ---- objects

verdict_told : (o : Option Denial) → IfSome o IsNear → TellsFacts (verdict_members o)
verdict_told None near = word_told (codes "verdict") (codes "open") refl refl
verdict_told (Some denial) near = denial_told (codes "verdict") (codes "at") denial refl refl near

found_word : (answer : Answer) → IsWord (answer_word answer)
found_word (found true list) = refl
found_word (found false list) = refl
found_word opened = refl
found_word (never reason) = refl
found_word (written m) = refl
found_word more = refl
found_word none = refl
found_word driver = refl

asks_told : (ids : List ℕ) → AllByRecursion (λ id. id < 2 ^ 64) ids → TellsFacts (asks_member ids)
asks_told ids small = tells_array_member (codes "asks") refl (each_told (λ (id : ℕ). id < 2 ^ 64) (λ id. decimal id) ids tells_number small)

answer_told : (ns : List Node) (q : Asked) (u : Unlock) (answer : Answer) → CanWrite ns answer → AllByRecursion (λ id. id < 2 ^ 64) u.ids → TellsFacts (answer_members ns q u answer)
answer_told ns q u opened can small = tells_nothing
answer_told ns q u (never reason) can small = word_told (codes "reason") (reason_text q.node reason) refl (reason_word q.node reason)
answer_told ns q u (found again list) can small = tells_array_member (codes "commands") refl (commands_told again list)
answer_told ns q u (written m) can small = tells_member (codes "write") refl (tells_spelled (value_spelled ns m.value (option_map (asked ns) (question_with ns m.id)) can))
answer_told ns q u more can small = asks_told u.ids small
answer_told ns q u none can small = asks_told u.ids small
answer_told ns q u driver can small = asks_told u.ids small

pub unlock_back : (s : State) (q : Asked) (u : Unlock) → AreBytes q.node.op → ShowsTexts (texts s) → CanUnlock (nodes_of s.ifr) u → IsReadBack (codes "unlock") (unlock_object s q u)
unlock_back s q u are shows can =
    read_back (codes "unlock") refl
    (tells_behind
    (tells_behind
    (tells_behind
    (tells_behind (tells_behind (number_member_told (codes "id") (question_id q.node.op) refl (two_bytes q.node.op 6 are)) (verdict_told u.verdict can.verdict))
    (word_told (codes "found") (answer_word u.answer) refl (found_word u.answer)))
    (answer_told (nodes_of s.ifr) q u u.answer can.answer can.ids))
    (number_member_told (codes "tried") u.tried refl can.tried))
    (tells_member (codes "prompt") refl (tells_text (texts s (statement_prompt q.node.op)) (shows (statement_prompt q.node.op) (two_bytes q.node.op 2 are)))))
