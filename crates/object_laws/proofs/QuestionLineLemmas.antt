-- Lines of `questions` stay one line.
use Rattle.std.proofs.Common.{◌==◌, ℕ, Bool, true, cond, List, [], ◌∷◌, ◌++◌, Option, Some, None, IfSome, option_and_then, codes, refl}
use Rattle.std.proofs.lemmas.Bool.{cond_both}
use Rattle.hii_bytes.specs.Numbers.{AreBytes}
use Rattle.hii_bytes.specs.Texts.{place_text}
use Rattle.browser_rules.specs.Strings.{characters}
use Rattle.ifr_opcodes.specs.Fields.{form_id, form_title, has_flag, question_flags, question_id, ref_form_set, statement_prompt}
use Rattle.ifr_opcodes.specs.Forest.{Node}
use Rattle.ifr_opcodes.specs.Opcode.{number}
use Rattle.ifr_opcodes.specs.declared.codes.TheConstants.{CHECKBOX, NUMERIC, ONE_OF, ORDERED_LIST, REF, STRING}
use Rattle.ifr_expr.specs.Values.{Value, text}
use Rattle.hii_values.specs.Denials.{kind_name}
use Rattle.hii_questions.specs.Answers.{value_of_field}
use Rattle.hii_questions.specs.Fields.{Asked, Field, asked}
use Rattle.guard_policy.specs.Policy.{fixed}
use Rattle.guard_policy.specs.declared.denial.Denial.{Denial}
use Rattle.audit_text.specs.Texts.{guid_text}
use Rattle.audit_text.specs.Words.{opcode_name}
use Rattle.question_audit.specs.Audited.{Audited}
use Rattle.question_audit.specs.FormLines.{denial_text, form_text, reach_text}
use Rattle.question_audit.specs.QuestionLines.{columns_text, field_columns, field_text, flags_text, form_set_text, is_constant, led_text, name_of, names_no_set, question_line, shown_text, store_with, told_value, undefined_guards, undefined_text, value_told, verdict_columns, word_where}
use Rattle.question_audit.specs.Reach.{reach_of}
use Rattle.question_audit.specs.ScriptValues.{behind, checkbox_script, default_taken, default_value, list_script, numeric_script, one_of_script, script_value, stored_value, string_script}
use Rattle.question_audit.specs.declared.ways.Reach.{Reach}
use Rattle.question_audit.specs.declared.ways.Reach.TheVariants.{Open, Hidden, Closed, Below, Unnamed}
use Rattle.json_laws.specs.laws.Written.{IsWord}
use Rattle.json_laws.proofs.WordLemmas.{Bytes, opcode_word, units_are_text}
use Rattle.object_laws.specs.laws.Differences.{CanTellValue}
use Rattle.object_laws.specs.laws.Lines.{IsLine, IsSafe}
use Rattle.object_laws.specs.laws.Questions.{HasUnits, ShowsTexts}
use Rattle.object_laws.proofs.FieldLemmas.{form_set_bytes, two_bytes}
use Rattle.object_laws.proofs.LineLemmas.{decimal_safe, guid_safe, hex_safe, place_safe}
use Rattle.object_laws.proofs.MemberLemmas.{kind_word}
use Rattle.object_laws.proofs.QuestionLemmas.{checkbox_word, elements_word, numeric_word, one_of_word, value_is_text}
use Rattle.object_laws.proofs.SafeLemmas.{any_safe, left_safe, line_safe, right_safe, safe_behind, safe_nothing, spaces_safe, store_name_safe, text_safe, word_safe}
use Rattle.object_laws.proofs.TextPieceLemmas.{denial_word}

-- ---- forms

pub denial_safe : (denial : Denial) → IsSafe (denial_text denial)
denial_safe denial = word_safe (denial_text denial) (denial_word denial)

reach_safe : (reach : Reach) → IsSafe (reach_text reach)
reach_safe Open = safe_nothing
reach_safe (Hidden denial) = safe_behind (safe_behind (word_safe (codes " (") refl) (denial_safe denial)) (word_safe (codes ")") refl)
reach_safe (Closed denial) = safe_behind (safe_behind (word_safe (codes " (closed reference: ") refl) (denial_safe denial)) (word_safe (codes ")") refl)
reach_safe Below = word_safe (codes " (only below forms that are not reached)") refl
reach_safe Unnamed = word_safe (codes " (no reference names it)") refl

pub form_safe : (a : Audited) (is_reached : ℕ → Bool) (form : Node) → ShowsTexts a.texts → AreBytes form.op → IsSafe (form_text a is_reached form)
form_safe a is_reached form shows are =
    safe_behind
    (safe_behind (safe_behind (decimal_safe (form_id form.op)) (word_safe (codes " ") refl)) (text_safe (a.texts (form_title form.op)) (shows (form_title form.op) (two_bytes form.op 4 are))))
    (reach_safe (reach_of a.world is_reached form))

pub form_is_line : (a : Audited) (is_reached : ℕ → Bool) (form : Node) → ShowsTexts a.texts → AreBytes form.op → IsLine (codes "FORM " ++ form_text a is_reached form ++ codes "\n")
form_is_line a is_reached form shows are = line_safe (safe_behind (word_safe (codes "FORM ") refl) (form_safe a is_reached form shows are))

-- ---- values

words_safe : (o : Option (List ℕ)) → IfSome o IsWord → IfSome o IsSafe
words_safe None plain = tt
words_safe (Some its) plain = word_safe its plain

string_safe : (v : Value) → HasUnits v → IfSome (string_script v) IsSafe
string_safe (text units) are = text_safe (characters units) (units_are_text units are)
string_safe _ are = tt

pub script_safe : (n : Node) (v : Value) → HasUnits v → IfSome (script_value n v) IsSafe
script_safe n v are =
    let at_list = cond (number n.op == ORDERED_LIST) (list_script v n) None in
    let at_string = cond (number n.op == STRING) (string_script v) at_list in
    let at_choice = cond (number n.op == ONE_OF) (one_of_script v) at_string in
    let at_number = cond (number n.op == NUMERIC) (numeric_script v n.op) at_choice in
    cond_both (number n.op == CHECKBOX) (checkbox_script v) at_number (λ o. IfSome o IsSafe) (λ _. words_safe (checkbox_script v) (checkbox_word v))
    (λ _. cond_both (number n.op == NUMERIC) (numeric_script v n.op) at_choice (λ o. IfSome o IsSafe) (λ _. words_safe (numeric_script v n.op) (numeric_word v n.op))
    (λ _. cond_both (number n.op == ONE_OF) (one_of_script v) at_string (λ o. IfSome o IsSafe) (λ _. words_safe (one_of_script v) (one_of_word v))
    (λ _. cond_both (number n.op == STRING) (string_script v) at_list (λ o. IfSome o IsSafe) (λ _. string_safe v are)
    (λ _. cond_both (number n.op == ORDERED_LIST) (list_script v n) None (λ o. IfSome o IsSafe) (λ _. words_safe (list_script v n) (elements_word v n)) (λ _. tt)))))

pub default_safe : (n : Node) (o : Option Value) → IfSome o HasUnits → IfSome (option_and_then (script_value n) o) IsSafe
default_safe n None are = tt
default_safe n (Some v) are = script_safe n v are

pub behind_safe : (before : List ℕ) (o : Option (List ℕ)) → IsSafe before → IfSome o IsSafe → IsSafe (behind before o)
behind_safe before None safe too = safe_nothing
behind_safe before (Some its) safe too = safe_behind safe too

pub value_safe : (a : Audited) (n : Node) → CanTellValue a.texts a.world a.stores n → IsSafe (told_value a n)
value_safe a n can = text_safe (value_told a n) (value_is_text a.texts a.world a.stores n can.shows can.bytes can.options can.units)

-- ---- columns

pub verdict_safe : (o : Option Denial) → IsSafe (verdict_columns o)
verdict_safe None = safe_behind (left_safe 10 (word_safe (codes "open") refl)) (spaces_safe 9)
verdict_safe (Some denial) = safe_behind (safe_behind (left_safe 10 (word_safe (kind_name denial.kind) (kind_word denial.kind))) (word_safe (codes " ") refl)) (place_safe denial.place)

pub field_safe : (ns : List Node) (field : Field) → IsSafe (field_text ns field)
field_safe ns field =
    safe_behind
    (safe_behind
    (safe_behind (safe_behind (safe_behind (store_name_safe (name_of (store_with ns field.store))) (word_safe (codes ":0x") refl)) (hex_safe field.offset)) (word_safe (codes "(") refl))
    (decimal_safe field.width))
    (word_safe (codes ")") refl)

field_column_safe : (ns : List Node) (o : Option Field) → IsSafe (field_columns ns o)
field_column_safe ns None = left_safe 18 (word_safe (codes "-") refl)
field_column_safe ns (Some field) = left_safe 18 (field_safe ns field)

columns_safe : (a : Audited) (q : Asked) → IsSafe (columns_text a q)
columns_safe a q =
    let space : IsSafe (codes " ") = word_safe (codes " ") refl in
    safe_behind
    (safe_behind
    (safe_behind
    (safe_behind
    (safe_behind (safe_behind (safe_behind (right_safe 5 (decimal_safe (question_id q.node.op))) space) (verdict_safe (fixed a.world q.node))) space)
    (left_safe 12 (word_safe (opcode_name (number q.node.op)) (opcode_word (number q.node.op)))))
    space)
    (field_column_safe a.world.nodes q.field))
    space

-- ---- what stands behind

pub where_safe : (holds : Bool) (word : List ℕ) → IsSafe word → IsSafe (word_where holds word)
where_safe holds word safe = cond_both holds word [] IsSafe (λ _. safe) (λ _. safe_nothing)

flags_safe : (op : List ℕ) → IsSafe (flags_text op)
flags_safe op =
    safe_behind (where_safe (has_flag (question_flags op) 0x04) (codes " callback") (word_safe (codes " callback") refl))
    (where_safe (has_flag (question_flags op) 0x10) (codes " reset") (word_safe (codes " reset") refl))

set_behind_safe : (o : Option (List ℕ)) → IfSome o Bytes → IsSafe (form_set_text o)
set_behind_safe None all = safe_nothing
set_behind_safe (Some guid) all =
    cond_both (names_no_set guid) [] (codes " formset " ++ guid_text true guid) IsSafe (λ _. safe_nothing) (λ _. safe_behind (word_safe (codes " formset ") refl) (guid_safe guid all))

led_safe : (op : List ℕ) → AreBytes op → IsSafe (led_text op)
led_safe op are = cond_both (number op == REF) (form_set_text (ref_form_set op)) [] IsSafe (λ _. set_behind_safe (ref_form_set op) (form_set_bytes op are)) (λ _. safe_nothing)

undefined_safe : (gs : List Node) → IsSafe (undefined_text gs)
undefined_safe [] = safe_nothing
undefined_safe (g ∷ gs) =
    safe_behind (word_safe (codes " undefined") refl) (any_safe (λ g. codes " " ++ place_text g.place) (g ∷ gs) (λ g. safe_behind (word_safe (codes " ") refl) (place_safe g.place)))

shown_safe : (a : Audited) (n : Node) → CanTellValue a.texts a.world a.stores n → IsSafe (shown_text a n)
shown_safe a n can =
    safe_behind
    (safe_behind (safe_behind (text_safe (a.texts (statement_prompt n.op)) (can.shows (statement_prompt n.op) (two_bytes n.op 2 can.bytes))) (word_safe (codes " [") refl)) (value_safe a n can))
    (word_safe (codes "]") refl)

pub question_is_line : (a : Audited) (n : Node) → CanTellValue a.texts a.world a.stores n → IfSome (default_taken a (asked a.world.nodes n) 0) HasUnits → IsLine (question_line a (asked a.world.nodes n))
question_is_line a n can units =
    let q = asked a.world.nodes n in
    line_safe
    (safe_behind
    (safe_behind
    (safe_behind
    (safe_behind
    (safe_behind
    (safe_behind (safe_behind (columns_safe a q) (shown_safe a n can)) (behind_safe (codes " value ") (stored_value a.stores q) (word_safe (codes " value ") refl) (script_safe n (value_of_field a.stores n q.field) can.units)))
    (behind_safe (codes " default ") (default_value a q 0) (word_safe (codes " default ") refl) (default_safe n (default_taken a q 0) units)))
    (where_safe (is_constant a.world.nodes n (fixed a.world n)) (codes " constant") (word_safe (codes " constant") refl)))
    (flags_safe n.op))
    (led_safe n.op can.bytes))
    (undefined_safe (undefined_guards a n)))
