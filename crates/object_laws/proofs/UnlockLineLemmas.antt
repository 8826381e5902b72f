-- Lines of `unlock` stay one line.
use Rattle.std.proofs.Common.{◌≡◌, ◌==◌, ℕ, ℤ, true, List, [], ◌∷◌, map, Option, Some, None, IfSome, option_map, Result, Ok, Err, IfOk, decimal, codes, refl}
use Rattle.std.specs.List.{list_all}
use Rattle.std.proofs.lemmas.Bool.{and_from, and_parts, cond_both}
use Rattle.hii_bytes.specs.Numbers.{AreBytes}
use Rattle.ifr_opcodes.specs.Fields.{question_id, statement_prompt}
use Rattle.ifr_opcodes.specs.Forest.{Node}
use Rattle.ifr_nodes.specs.Nodes.{nodes_of}
use Rattle.hii_values.specs.declared.denial.DenialKind.{DenialKind}
use Rattle.hii_questions.specs.Fields.{Asked, Field, asked, question_with}
use Rattle.audit_text.specs.Texts.{ascii_name, shown_byte}
use Rattle.audit_json.specs.declared.telling.Telling.TheVariants.{Lines}
use Rattle.question_audit.specs.QuestionLines.{name_of, store_with}
use Rattle.image_audit.specs.Lines.{number_text}
use Rattle.session_steps.specs.State.{State, texts}
use Rattle.unlock_audit.specs.Told.{answer_words, field_text, ids_text, reason_text, set_text, store_text, taken_text, unlock_line, value_text, without_bracket}
use Rattle.unlock_audit.specs.Tries.{bytes_taken}
use Rattle.unlock_audit.specs.Unlock.{Answer, Unlock, opened, never, found, written, more, none, driver}
use Rattle.object_laws.specs.laws.Lines.{IsLine, IsSafe}
use Rattle.object_laws.specs.laws.Questions.{ShowsTexts}
use Rattle.object_laws.specs.laws.Unlocks.{CanWrite}
use Rattle.object_laws.proofs.FieldLemmas.{two_bytes}
use Rattle.object_laws.proofs.LineLemmas.{decimal_safe, hex_safe}
use Rattle.object_laws.proofs.QuestionLineLemmas.{verdict_safe, where_safe}
use Rattle.object_laws.proofs.SafeLemmas.{IsPrintable, is_printable, joined_safe, line_safe, name_printable, printable_safe, right_safe, safe_behind, safe_nothing, shown_printable, text_safe, word_safe}
use Rattle.object_laws.proofs.UnlockLemmas.{number_word, reason_word, set_word}

-- ---- what is written

bracket_printable : (name : List ℕ) → IsPrintable name → IsPrintable (map without_bracket name)
bracket_printable [] all = refl
bracket_printable (c ∷ name) all =
    let p = and_parts (is_printable c) (list_all is_printable name) all in
    and_from _ _ (cond_both (c == 93) 63 c (λ n. is_printable n ≡ true) (λ _. refl) (λ _. p.0)) (bracket_printable name p.1)

store_safe : (ns : List Node) (store : ℕ) → IsSafe (store_text Lines ns store)
store_safe ns store =
    let name = name_of (store_with ns store) in printable_safe (map without_bracket (ascii_name name)) (bracket_printable (ascii_name name) (name_printable shown_byte shown_printable name))

written_field_safe : (ns : List Node) (field : Field) → IsSafe (field_text Lines ns field)
written_field_safe ns field =
    safe_behind
    (safe_behind (safe_behind (safe_behind (safe_behind (store_safe ns field.store) (word_safe (codes ":0x") refl)) (hex_safe field.offset)) (word_safe (codes "(") refl)) (decimal_safe field.width))
    (word_safe (codes ")") refl)

taken_safe : (ns : List Node) (field : Option Field) (r : Result (List ℕ) DenialKind) → IfOk r AreBytes → IsSafe (taken_text Lines ns field r)
taken_safe ns (Some field) (Ok bytes) are = safe_behind (written_field_safe ns field) (safe_behind (word_safe (codes "=") refl) (word_safe (number_text bytes) (number_word bytes are)))
taken_safe ns (Some field) (Err refused) are = safe_nothing
taken_safe ns None r are = safe_nothing

written_safe : (ns : List Node) (value : ℤ) (o : Option Asked) → IfSome o (λ q. IfOk (bytes_taken q value) AreBytes) → IsSafe (value_text Lines ns value o)
written_safe ns value None are = safe_nothing
written_safe ns value (Some q) are = taken_safe ns q.field (bytes_taken q value) are

-- ---- answers

ids_safe : (ids : List ℕ) → IsSafe (ids_text ids)
ids_safe ids = joined_safe (codes ", ") (λ id. decimal id) ids (word_safe (codes ", ") refl) decimal_safe

answer_safe : (ns : List Node) (q : Asked) (u : Unlock) (answer : Answer) → CanWrite ns answer → IsSafe (answer_words ns q u answer)
answer_safe ns q u opened can = safe_nothing
answer_safe ns q u (never reason) can = safe_behind (word_safe (codes "never: ") refl) (word_safe (reason_text q.node reason) (reason_word q.node reason))
answer_safe ns q u (found again list) can =
    safe_behind (joined_safe (codes "; ") set_text list (word_safe (codes "; ") refl) (λ m. word_safe (set_text m) (set_word m))) (where_safe again (codes "; submit; open again") (word_safe (codes "; submit; open again") refl))
answer_safe ns q u (written m) can = safe_behind (word_safe (codes "write ") refl) (written_safe ns m.value (option_map (asked ns) (question_with ns m.id)) can)
answer_safe ns q u more can = safe_behind (safe_behind (safe_behind (word_safe (codes "not found in ") refl) (decimal_safe u.tried)) (word_safe (codes " tries: ") refl)) (ids_safe u.ids)
answer_safe ns q u none can = safe_behind (word_safe (codes "not found in 3 commands: ") refl) (ids_safe u.ids)
answer_safe ns q u driver can = safe_behind (word_safe (codes "driver: ") refl) (ids_safe u.ids)

pub unlock_is_line : (s : State) (q : Asked) (u : Unlock) → AreBytes q.node.op → ShowsTexts (texts s) → CanWrite (nodes_of s.ifr) u.answer → IsLine (unlock_line s q u)
unlock_is_line s q u are shows can =
    line_safe
    (safe_behind
    (safe_behind
    (safe_behind
    (safe_behind (safe_behind (safe_behind (right_safe 5 (decimal_safe (question_id q.node.op))) (word_safe (codes " ") refl)) (verdict_safe u.verdict)) (word_safe (codes " [") refl))
    (answer_safe (nodes_of s.ifr) q u u.answer can))
    (word_safe (codes "] ") refl))
    (text_safe (texts s (statement_prompt q.node.op)) (shows (statement_prompt q.node.op) (two_bytes q.node.op 2 are))))
