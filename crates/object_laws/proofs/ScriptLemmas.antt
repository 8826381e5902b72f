-- Objects of `apply` tell facts.
use Rattle.std.proofs.Common.{◌≡◌, ◌==◌, ℕ, ◌+◌, ◌-◌, ◌^◌, ◌<◌, min, nat_lt, not, Bool, true, cond, bytes_eq, List, [], ◌∷◌, ◌++◌, Option, Some, None, IfSome, decimal, codes, refl, subst, append_assoc}
use Rattle.std.specs.List.{flat_map, list_any}
use Rattle.std.specs.Str.{all_scalars}
use Rattle.std.proofs.lemmas.Bool.{cond_both}
use Rattle.bstr.specs.Utf8.{lossy_chars}
use Rattle.browser_rules.specs.Script.{cut_word}
use Rattle.browser_rules.specs.Strings.{characters}
use Rattle.hii_bytes.specs.Cause.{name_of, number_of}
use Rattle.hii_bytes.specs.Numbers.{AreBytes}
use Rattle.hii_bytes.specs.Texts.{cause_text, place_text}
use Rattle.hii_bytes.specs.declared.cause.Cause.{Cause}
use Rattle.hii_bytes.specs.declared.cause.Cause.TheVariants.{BadCommand, LineTooLong, NoForms}
use Rattle.ifr_opcodes.specs.declared.codes.TheConstants.{CHECKBOX, NUMERIC, ONE_OF, ORDERED_LIST, PASSWORD, REF, STRING}
use Rattle.ifr_opcodes.specs.Fields.{display, has_no_empty_set, is_unique_set, numeric_maximum, numeric_minimum, numeric_step, option_value, ordered_list_containers, password_maximum, password_minimum, question_id, statement_prompt, string_maximum, string_minimum}
use Rattle.ifr_opcodes.specs.Forest.{Node}
use Rattle.ifr_opcodes.specs.Opcode.{number}
use Rattle.ifr_expr.specs.Values.{Value, text}
use Rattle.ifr_nodes.specs.Nodes.{options}
use Rattle.hii_varstore.specs.Stores.{StoreMap}
use Rattle.hii_values.specs.Denials.{has_text, kind_name}
use Rattle.hii_values.specs.declared.denial.DenialKind.{DenialKind}
use Rattle.hii_values.specs.declared.denial.DenialKind.TheVariants.{Kind, Length, NoOption, NotButton, NotRef, Outside, Range, Locked}
use Rattle.hii_questions.specs.Answers.{value_of_field}
use Rattle.hii_questions.specs.Fields.{Asked, Field, asked, question_with}
use Rattle.guard_policy.specs.Policy.{fixed}
use Rattle.guard_policy.specs.declared.denial.Denial.{Denial}
use Rattle.audit_text.specs.Texts.{ascii_name, hex_text}
use Rattle.audit_text.specs.Words.{opcode_name}
use Rattle.audit_json.specs.Objects.{member_key, number_member, object_kind}
use Rattle.audit_json.specs.declared.telling.Telling.{Telling}
use Rattle.audit_json.specs.declared.telling.Telling.TheVariants.{Objects}
use Rattle.question_audit.specs.QuestionLines.{is_undefined, name_of as name_of_store, store_with}
use Rattle.question_audit.specs.ScriptValues.{behind, script_value}
use Rattle.session_steps.specs.declared.reply.Reply.{Reply}
use Rattle.session_steps.specs.declared.reply.Reply.TheVariants.{Accepted, Denied, Refused}
use Rattle.question_audit.specs.ConditionFacts.{condition_words, id_text, verdict_text}
use Rattle.question_audit.specs.Limits.{shown_number, step_text, shown_step}
use Rattle.script_audit.specs.Apply.{change_told, id_told, ids_told, over_stores, unsubmitted_told}
use Rattle.script_audit.specs.Because.{answer_text, answer_told, because_told, cause_words, condition_text, denial_words, element_limits, fixed_words, kind_words, length_limits, limits_words, line_chars, line_told, name_words, number_limits, of_question, of_statement, option_word, question_at, question_words, reason_words, statement_at, statement_words, taken_word}
use Rattle.script_audit.specs.Depends.{answer_text as answer_of, depends_told, field_behind as field_of_answer, question_text}
use Rattle.script_audit.specs.Script.{Line, has_mark}
use Rattle.script_audit.specs.Sentences.{arguments_text, bad_command_text, command_text, decimal_text, no_number, number_text, told_word, words_text}
use Rattle.script_audit.specs.Told.{back, error_told, front, spelled}
use Rattle.script_audit.specs.Values.{Seen, script_told, text_told, value_chars, value_told}
use Rattle.script_audit.specs.Words as word
use Rattle.script_audit.specs.Words.{Words, begins_with_space, behind_spaces, ends_with_space, first_word, has_two_spaces, hexadecimal_in, is_decimal, is_in_capitals, is_space, is_tab, is_too_great, last_word, second_word, wanted_words, word_count}
use Rattle.json_laws.specs.laws.Telling.{IsReadBack, SpellsText}
use Rattle.json_laws.specs.laws.Written.{IsWord}
use Rattle.json_laws.proofs.TellingLemmas.{read_back, spells_behind, spells_text, spells_word, tells_behind, tells_member, tells_spelled}
use Rattle.json_laws.proofs.WordLemmas.{Bytes, all_bytes, are_bytes, decimal_word, hexadecimal_word, opcode_word, units_are_text, word_behind}
use Rattle.object_laws.specs.laws.Differences.{CanTellValue}
use Rattle.object_laws.specs.laws.Questions.{HasUnits, ShowsTexts}
use Rattle.object_laws.specs.laws.Scripts.{HasMessage}
use Rattle.object_laws.proofs.CheckLemmas.{number_member_told}
use Rattle.object_laws.proofs.FieldLemmas.{shown_word, step_word, two_bytes}
use Rattle.object_laws.proofs.LossyLemmas.{lossy_are_text, taken_are_text}
use Rattle.object_laws.proofs.MemberLemmas.{kind_word, outside_word, words_are_word}
use Rattle.object_laws.proofs.QuestionLemmas.{script_word, value_is_text}
use Rattle.object_laws.proofs.StoreLemmas.{name_is_text}
use Rattle.object_laws.proofs.TextPieceLemmas.{denial_word, place_word}

-- ---- ways in which texts are told

-- what holds of words, of texts as they are spelled, and of one behind another
pub record Way (telling : Telling) (P : List ℕ → Type 0) : Type 0 where
  pub word : (w : List ℕ) → IsWord w → P w
  pub text : (characters : List ℕ) → all_scalars characters ≡ true → P (spelled telling characters)
  pub behind : {one other : List ℕ} → P one → P other → P (one ++ other)

spelling : Way Objects SpellsText
spelling = record { word = spells_word; text = spells_text; behind = spells_behind }

-- ---- objects with one text

one_text : (kind key body : List ℕ) → (kind ++ (key ++ (codes "\"" ++ body ++ codes "\""))) ++ codes "}\n" ≡ ((kind ++ key ++ codes "\"") ++ body) ++ codes "\"}\n"
one_text kind key body = simp append_assoc

text_back : {body : List ℕ} (words kind key : List ℕ) → IsWord kind → IsWord key → SpellsText body → IsReadBack kind (front Objects words kind key ++ body ++ back Objects)
text_back {body} words kind key plain too s =
    subst (λ (l : List ℕ). IsReadBack kind l) (one_text (object_kind kind) (member_key key) body) (read_back kind plain (tells_member key too (tells_spelled s)))

-- ---- the line at which a script ends

numbered_text : (kind number key body : List ℕ) → (kind ++ (number ++ (key ++ (codes "\"" ++ body ++ codes "\"")))) ++ codes "}\n" ≡ ((kind ++ number ++ key ++ codes "\"") ++ body) ++ codes "\"}\n"
numbered_text kind number key body = simp append_assoc

pub line_back : (line : Line) → line.number < 2 ^ 64 → AreBytes line.bytes → IsReadBack (codes "line") (line_told Objects line)
line_back line small are =
    let body = spelled Objects (line_chars line.bytes) in
    subst (λ (l : List ℕ). IsReadBack (codes "line") l) (numbered_text (object_kind (codes "line")) (number_member (codes "line") line.number) (member_key (codes "command")) body)
    (read_back (codes "line") refl
    (tells_behind (number_member_told (codes "line") line.number refl small)
    (tells_member (codes "command") refl (tells_spelled (spells_text (line_chars line.bytes) (taken_are_text 200 (lossy_chars line.bytes) (lossy_are_text line.bytes are)))))))

-- ---- its answer

pub cause_word : (cause : Cause) → IsWord (name_of cause)
cause_word NoForms = refl
cause_word _ = refl

pub refused_word : (cause : Cause) → IsWord (cause_text cause)
refused_word cause =
    word_behind (codes "REFUSED " ++ decimal (number_of cause) ++ codes " ") (name_of cause)
    (word_behind (codes "REFUSED " ++ decimal (number_of cause)) (codes " ") (word_behind (codes "REFUSED ") (decimal (number_of cause)) refl (decimal_word (number_of cause))) refl) (cause_word cause)

pub answer_spelled : {telling : Telling} {P : List ℕ → Type 0} (way : Way telling P) (a : Seen) (reply : Reply) → ShowsTexts a.texts → HasMessage reply → P (answer_text telling a reply)
answer_spelled {telling} {P} way a Accepted shows small = way.word [] refl
answer_spelled {telling} {P} way a (Denied denial) shows small =
    let front = codes "DENIED " ++ kind_name denial.kind ++ codes " at " ++ place_text denial.place in
    let message = codes " " ++ spelled telling (a.texts denial.message) in
    way.behind
    (way.word front
    (word_behind (codes "DENIED " ++ kind_name denial.kind ++ codes " at ") (place_text denial.place)
    (word_behind (codes "DENIED " ++ kind_name denial.kind) (codes " at ") (word_behind (codes "DENIED ") (kind_name denial.kind) refl (kind_word denial.kind)) refl) (place_word denial.place)))
    (cond_both (has_text denial.kind) message [] P (λ _. way.behind (way.word (codes " ") refl) (way.text (a.texts denial.message) (shows denial.message small))) (λ _. way.word [] refl))
answer_spelled {telling} {P} way a (Refused cause) shows small = way.word (cause_text cause) (refused_word cause)

pub answer_back : (a : Seen) (reply : Reply) → ShowsTexts a.texts → HasMessage reply → IsReadBack (codes "answer") (answer_told Objects a reply)
answer_back a reply shows small = text_back (codes "") (codes "answer") (codes "answer") refl refl (answer_spelled spelling a reply shows small)

-- ---- a condition that forbids it

pub condition_text_word : (package_place : ℕ) (state : List ℕ) (c : Node) → IsWord state → IsWord (condition_text package_place state c)
condition_text_word package_place state c plain =
    let name = opcode_name (number c.op) in
    let byte = hex_text (min (package_place + c.place) (2 ^ 64 - 1)) in
    let one = word_behind (name ++ codes " at ") (place_text c.place) (word_behind name (codes " at ") (opcode_word (number c.op)) refl) (place_word c.place) in
    let two = word_behind (name ++ codes " at " ++ place_text c.place ++ codes " (byte ") byte (word_behind (name ++ codes " at " ++ place_text c.place) (codes " (byte ") one refl) (hexadecimal_word (min (package_place + c.place) (2 ^ 64 - 1))) in
    let three = word_behind (name ++ codes " at " ++ place_text c.place ++ codes " (byte " ++ byte ++ codes ") ") state
    (word_behind (name ++ codes " at " ++ place_text c.place ++ codes " (byte " ++ byte) (codes ") ") two refl) plain in
    word_behind (name ++ codes " at " ++ place_text c.place ++ codes " (byte " ++ byte ++ codes ") " ++ state ++ codes ": ") (condition_words c)
    (word_behind (name ++ codes " at " ++ place_text c.place ++ codes " (byte " ++ byte ++ codes ") " ++ state) (codes ": ") three refl) (words_are_word c)

pub forbidden_back : (package_place : ℕ) (state : List ℕ) (c : Node) → IsWord state → IsReadBack (codes "because") (because_told Objects (condition_text package_place state c))
forbidden_back package_place state c plain =
    text_back (codes "because  ") (codes "because") (codes "text") refl refl (spells_word (condition_text package_place state c) (condition_text_word package_place state c plain))

-- ---- words of a denial

pub step_is_word : (op : List ℕ) (step : ℕ) → IsWord (step_text op step)
step_is_word op step =
    cond_both (step == 0) [] (codes ", step " ++ shown_step (display op) op step) IsWord (λ _. refl)
    (λ _. word_behind (codes ", step ") (shown_step (display op) op step) refl (step_word (display op) op step))

numbers_word : (op : List ℕ) → IsWord (number_limits op)
numbers_word op =
    let least = shown_number op (numeric_minimum op) in
    let most = shown_number op (numeric_maximum op) in
    word_behind (codes "range " ++ least ++ codes " to " ++ most) (step_text op (numeric_step op))
    (word_behind (codes "range " ++ least ++ codes " to ") most
    (word_behind (codes "range " ++ least) (codes " to ") (word_behind (codes "range ") least refl (shown_word op (numeric_minimum op))) refl) (shown_word op (numeric_maximum op)))
    (step_is_word op (numeric_step op))

lengths_word : (least most : ℕ) (what : List ℕ) → IsWord what → IsWord (length_limits least most what)
lengths_word least most what plain =
    word_behind (codes "length " ++ decimal least ++ codes " to " ++ decimal most) what
    (word_behind (codes "length " ++ decimal least ++ codes " to ") (decimal most)
    (word_behind (codes "length " ++ decimal least) (codes " to ") (word_behind (codes "length ") (decimal least) refl (decimal_word least)) refl) (decimal_word most)) plain

elements_word : (op : List ℕ) → IsWord (element_limits op)
elements_word op =
    lengths_word (cond (has_no_empty_set op) 1 0) (ordered_list_containers op) (cond (is_unique_set op) (codes " elements, each once") (codes " elements"))
    (cond_both (is_unique_set op) (codes " elements, each once") (codes " elements") IsWord (λ _. refl) (λ _. refl))

limits_word : (n : Node) → IsWord (limits_words n)
limits_word n =
    let string = length_limits (string_minimum n.op) (string_maximum n.op) (codes " characters") in
    let secret = length_limits (password_minimum n.op) (password_maximum n.op) (codes " characters") in
    let at_list = cond (number n.op == ORDERED_LIST) (element_limits n.op) [] in
    let at_secret = cond (number n.op == PASSWORD) secret at_list in
    let at_string = cond (number n.op == STRING) string at_secret in
    cond_both (number n.op == CHECKBOX) (codes "range 0 to 1") (cond (number n.op == NUMERIC) (number_limits n.op) at_string) IsWord (λ _. refl)
    (λ _. cond_both (number n.op == NUMERIC) (number_limits n.op) at_string IsWord (λ _. numbers_word n.op)
    (λ _. cond_both (number n.op == STRING) string at_secret IsWord (λ _. lengths_word (string_minimum n.op) (string_maximum n.op) (codes " characters") refl)
    (λ _. cond_both (number n.op == PASSWORD) secret at_list IsWord (λ _. lengths_word (password_minimum n.op) (password_maximum n.op) (codes " characters") refl)
    (λ _. cond_both (number n.op == ORDERED_LIST) (element_limits n.op) [] IsWord (λ _. elements_word n.op) (λ _. refl)))))

each_option_word : (os : List Node) → IsWord (flat_map option_word os)
each_option_word [] = refl
each_option_word (o ∷ os) = word_behind (option_word o) (flat_map option_word os) (word_behind (codes " ") (decimal (option_value o.op)) refl (decimal_word (option_value o.op))) (each_option_word os)

takes_word : (n : Node) → IsWord (taken_word n)
takes_word n =
    let at_reference = cond (number n.op == REF) (codes "go") (codes "no value here") in
    let at_list = cond (number n.op == ORDERED_LIST) (codes "order") at_reference in
    let at_secret = cond (number n.op == PASSWORD) (codes "text") at_list in
    let at_string = cond (number n.op == STRING) (codes "text") at_secret in
    let at_choice = cond (number n.op == ONE_OF) (codes "set") at_string in
    cond_both (number n.op == CHECKBOX) (codes "set") (cond (number n.op == NUMERIC) (codes "set") at_choice) IsWord (λ _. refl)
    (λ _. cond_both (number n.op == NUMERIC) (codes "set") at_choice IsWord (λ _. refl)
    (λ _. cond_both (number n.op == ONE_OF) (codes "set") at_string IsWord (λ _. refl)
    (λ _. cond_both (number n.op == STRING) (codes "text") at_secret IsWord (λ _. refl)
    (λ _. cond_both (number n.op == PASSWORD) (codes "text") at_list IsWord (λ _. refl)
    (λ _. cond_both (number n.op == ORDERED_LIST) (codes "order") at_reference IsWord (λ _. refl)
    (λ _. cond_both (number n.op == REF) (codes "go") (codes "no value here") IsWord (λ _. refl) (λ _. refl)))))))

named_word : (n : Node) → IsWord (name_words n)
named_word n = word_behind (codes "it is a ") (opcode_name (number n.op)) refl (opcode_word (number n.op))

kinds_word : (n : Node) → IsWord (kind_words n)
kinds_word n =
    let name = opcode_name (number n.op) in
    word_behind (codes "a " ++ name ++ codes " takes ") (taken_word n) (word_behind (codes "a " ++ name) (codes " takes ") (word_behind (codes "a ") name refl (opcode_word (number n.op))) refl) (takes_word n)

of_question_word : (kind : DenialKind) (o : Option Asked) → IsWord (of_question (question_words kind) o)
of_question_word denied None = refl
of_question_word Outside (Some q) = outside_word q.node
of_question_word Kind (Some q) = kinds_word q.node
of_question_word Range (Some q) = limits_word q.node
of_question_word Length (Some q) = limits_word q.node
of_question_word NoOption (Some q) = word_behind (codes "its options are") (flat_map option_word (options q.node)) refl (each_option_word (options q.node))
of_question_word NotRef (Some q) = named_word q.node
of_question_word _ (Some q) = refl

of_statement_word : (kind : DenialKind) (o : Option Node) → IsWord (of_statement (statement_words kind) o)
of_statement_word denied None = refl
of_statement_word NotButton (Some n) = named_word n
of_statement_word _ (Some n) = refl

alone_word : (kind : DenialKind) → IsWord (fixed_words kind)
alone_word Locked = refl
alone_word _ = refl

denied_word : (ns : List Node) (denial : Denial) → IsWord (denial_words ns denial)
denied_word ns denial =
    let asked_for = of_question (question_words denial.kind) (question_at ns denial.place) in
    let stated = of_statement (statement_words denial.kind) (statement_at ns denial.place) in
    word_behind (asked_for ++ stated) (fixed_words denial.kind)
    (word_behind asked_for stated (of_question_word denial.kind (question_at ns denial.place)) (of_statement_word denial.kind (statement_at ns denial.place))) (alone_word denial.kind)

-- ---- sentences about a line that is no command

first_bytes : (said : List ℕ) → Bytes said → Bytes (cut_word said).0
first_bytes [] all = tt
first_bytes (b ∷ said) all = cond_both {A = List ℕ × Option (List ℕ)} (b == 32) ([], Some said) (b ∷ (cut_word said).0, (cut_word said).1) (λ cut. Bytes cut.0) (λ _. tt) (λ _. (all.0, first_bytes said all.1))

rest_bytes : (said : List ℕ) → Bytes said → IfSome (cut_word said).1 Bytes
rest_bytes [] all = tt
rest_bytes (b ∷ said) all = cond_both {A = List ℕ × Option (List ℕ)} (b == 32) ([], Some said) (b ∷ (cut_word said).0, (cut_word said).1) (λ cut. IfSome cut.1 Bytes) (λ _. all.1) (λ _. rest_bytes said all.1)

behind_bytes : (o : Option (List ℕ)) → IfSome o Bytes → Bytes (word.word_behind o)
behind_bytes None all = tt
behind_bytes (Some rest) all = first_bytes rest all

last_bytes : (last said : List ℕ) → Bytes last → Bytes said → Bytes (behind_spaces last said)
last_bytes last [] here all = here
last_bytes last (b ∷ said) here all =
    cond_both (is_space b) (behind_spaces said said) (behind_spaces last said) Bytes (λ _. last_bytes said said all.1 all.1) (λ _. last_bytes last said here all.1)

word_spelled : {telling : Telling} {P : List ℕ → Type 0} (way : Way telling P) (w : List ℕ) → Bytes w → P (told_word telling w)
word_spelled {telling} {P} way w all = way.text (lossy_chars w) (lossy_are_text w (are_bytes w all))

no_number_spelled : {telling : Telling} {P : List ℕ → Type 0} (way : Way telling P) (w : List ℕ) → Bytes w → P (no_number telling w)
no_number_spelled {telling} {P} way w all = way.behind (way.word (codes "no number: ") refl) (word_spelled way w all)

decimal_spelled : {telling : Telling} {P : List ℕ → Type 0} (way : Way telling P) (w last : List ℕ) → Bytes w → Bytes last → P (decimal_text telling w last)
decimal_spelled {telling} {P} way w last all too =
    let great = codes "a number above 65535" in
    let end = no_number telling last in
    cond_both (not (is_decimal w)) (no_number telling w) (cond (is_too_great w) great end) P (λ _. no_number_spelled way w all)
    (λ _. cond_both (is_too_great w) great end P (λ _. way.word great refl) (λ _. no_number_spelled way last too))

number_spelled : {telling : Telling} {P : List ℕ → Type 0} (way : Way telling P) (w last : List ℕ) (o : Option ℕ) → Bytes w → Bytes last → P (number_text telling w last o)
number_spelled {telling} {P} way w last None all too = decimal_spelled way w last all too
number_spelled {telling} {P} way w last (Some n) all too =
    way.behind (way.word (codes "a number in hexadecimal, where a decimal one is wanted: ") refl) (way.word (decimal n) (decimal_word n))

arguments_spelled : {telling : Telling} {P : List ℕ → Type 0} (way : Way telling P) (said : List ℕ) (takes_number : Bool) → Bytes said → P (arguments_text telling said takes_number)
arguments_spelled {telling} {P} way said takes_number all =
    let second = behind_bytes (cut_word said).1 (rest_bytes said all) in
    let last = last_bytes said said all all in
    let language = codes "no language: " ++ told_word telling (second_word said) in
    let end = no_number telling (last_word said) in
    cond_both takes_number (number_text telling (second_word said) (last_word said) (hexadecimal_in (second_word said))) (cond (bytes_eq (first_word said) (codes "lang")) language end) P
    (λ _. number_spelled way (second_word said) (last_word said) (hexadecimal_in (second_word said)) second last)
    (λ _. cond_both (bytes_eq (first_word said) (codes "lang")) language end P
    (λ _. way.behind (way.word (codes "no language: ") refl) (word_spelled way (second_word said) second)) (λ _. no_number_spelled way (last_word said) last))

words_spelled : {telling : Telling} {P : List ℕ → Type 0} (way : Way telling P) (said : List ℕ) (words : Words) → Bytes said → P (words_text telling said words)
words_spelled {telling} {P} way said words all =
    let few = codes "too few words" in
    let many = codes "too many words" in
    let arguments = arguments_text telling said words.takes_number in
    let at_most = cond (nat_lt words.most (word_count said)) many arguments in
    cond_both (has_two_spaces said) (codes "two spaces, where one is wanted") (cond (nat_lt (word_count said) words.least) few at_most) P (λ _. way.word (codes "two spaces, where one is wanted") refl)
    (λ _. cond_both (nat_lt (word_count said) words.least) few at_most P (λ _. way.word few refl)
    (λ _. cond_both (nat_lt words.most (word_count said)) many arguments P (λ _. way.word many refl) (λ _. arguments_spelled way said words.takes_number all)))

command_spelled : {telling : Telling} {P : List ℕ → Type 0} (way : Way telling P) (said : List ℕ) (o : Option Words) → Bytes said → P (command_text telling said o)
command_spelled {telling} {P} way said (Some words) all = words_spelled way said words all
command_spelled {telling} {P} way said None all =
    cond_both (is_in_capitals (first_word said)) (codes "a command in capitals") (codes "no command") P (λ _. way.word (codes "a command in capitals") refl) (λ _. way.word (codes "no command") refl)

sentence_spelled : {telling : Telling} {P : List ℕ → Type 0} (way : Way telling P) (said : List ℕ) → Bytes said → P (bad_command_text telling said)
sentence_spelled {telling} {P} way said all =
    let command = command_text telling said (wanted_words (first_word said)) in
    let tab = codes "a tab, where one space is wanted" in
    let begins = codes "a space at the beginning" in
    let ends = codes "a space at the end" in
    let at_end = cond (ends_with_space said) ends command in
    let at_begin = cond (begins_with_space said) begins at_end in
    cond_both (has_mark said) (codes "a byte order mark") (cond (list_any is_tab said) tab at_begin) P (λ _. way.word (codes "a byte order mark") refl)
    (λ _. cond_both (list_any is_tab said) tab at_begin P (λ _. way.word tab refl)
    (λ _. cond_both (begins_with_space said) begins at_end P (λ _. way.word begins refl)
    (λ _. cond_both (ends_with_space said) ends command P (λ _. way.word ends refl) (λ _. command_spelled way said (wanted_words (first_word said)) all))))

cause_spelled : {telling : Telling} {P : List ℕ → Type 0} (way : Way telling P) (line : List ℕ) (cause : Cause) → Bytes line → P (cause_words telling line cause)
cause_spelled {telling} {P} way line cause all =
    let long = codes "a line has at most 4096 bytes" in
    let other = codes "the configuration text has a fault" in
    cond_both (number_of cause == number_of BadCommand) (bad_command_text telling line) (cond (number_of cause == number_of LineTooLong) long other) P (λ _. sentence_spelled way line all)
    (λ _. cond_both (number_of cause == number_of LineTooLong) long other P (λ _. way.word long refl) (λ _. way.word other refl))

pub reason_spelled : {telling : Telling} {P : List ℕ → Type 0} (way : Way telling P) (ns : List Node) (line : List ℕ) (reply : Reply) → AreBytes line → P (reason_words telling ns line reply)
reason_spelled {telling} {P} way ns line Accepted are = way.word [] refl
reason_spelled {telling} {P} way ns line (Denied denial) are = way.word (denial_words ns denial) (denied_word ns denial)
reason_spelled {telling} {P} way ns line (Refused cause) are = cause_spelled way line cause (all_bytes line are)

pub because_back : (ns : List Node) (line : List ℕ) (reply : Reply) → AreBytes line → IsReadBack (codes "because") (because_told Objects (reason_words Objects ns line reply))
because_back ns line reply are = text_back (codes "because  ") (codes "because") (codes "text") refl refl (reason_spelled spelling ns line reply are)

-- ---- on what it depends

pub value_spelled : {telling : Telling} {P : List ℕ → Type 0} (way : Way telling P) (a : Seen) (n : Node) → CanTellValue a.texts a.world a.stores n → P (value_told telling a n)
value_spelled {telling} {P} way a n can = way.text (value_chars a n) (value_is_text a.texts a.world a.stores n can.shows can.bytes can.options can.units)

text_spelled : {telling : Telling} {P : List ℕ → Type 0} (way : Way telling P) (v : Value) → HasUnits v → P (text_told telling v)
text_spelled {telling} {P} way (text units) are = way.behind (way.word (codes " value ") refl) (way.text (characters units) (units_are_text units are))
text_spelled {telling} {P} way _ are = way.word [] refl

behind_word : (o : Option (List ℕ)) → IfSome o IsWord → IsWord (behind (codes " value ") o)
behind_word None plain = refl
behind_word (Some its) plain = word_behind (codes " value ") its refl plain

script_spelled : {telling : Telling} {P : List ℕ → Type 0} (way : Way telling P) (n : Node) (v : Value) → HasUnits v → P (script_told telling n v)
script_spelled {telling} {P} way n v are =
    let its = behind (codes " value ") (script_value n v) in
    cond_both (number n.op == STRING) (text_told telling v) its P (λ _. text_spelled way v are) (λ other. way.word its (behind_word (script_value n v) (script_word n v other)))

field_spelled : {telling : Telling} {P : List ℕ → Type 0} (way : Way telling P) (ns : List Node) (field : Option Field) → P (field_of_answer telling ns field)
field_spelled {telling} {P} way ns None = way.word [] refl
field_spelled {telling} {P} way ns (Some field) =
    let name = name_of_store (store_with ns field.store) in
    way.behind (way.word (codes " ") refl)
    (way.behind
    (way.behind
    (way.behind (way.behind (way.behind (way.text (ascii_name name) (name_is_text name)) (way.word (codes ":0x") refl)) (way.word (hex_text field.offset) (hexadecimal_word field.offset)))
    (way.word (codes "(") refl))
    (way.word (decimal field.width) (decimal_word field.width)))
    (way.word (codes ")") refl))

pub verdict_word : (o : Option Denial) → IsWord (verdict_text o)
verdict_word None = refl
verdict_word (Some denial) = denial_word denial

answer_of_spelled : {telling : Telling} {P : List ℕ → Type 0} (way : Way telling P) (a : Seen) (n : Node) → CanTellValue a.texts a.world a.stores n → P (answer_of telling a (asked a.world.nodes n))
answer_of_spelled {telling} {P} way a n can =
    let q = asked a.world.nodes n in
    let its = value_of_field a.stores n q.field in
    let told = codes "[" ++ value_told telling a n ++ codes "]" ++ script_told telling n its ++ field_of_answer telling a.world.nodes q.field ++ codes " " ++ verdict_text (fixed a.world n) in
    cond_both (is_undefined its) (codes "has no answer here") told P (λ _. way.word (codes "has no answer here") refl)
    (λ _. way.behind
    (way.behind
    (way.behind (way.behind (way.behind (way.behind (way.word (codes "[") refl) (value_spelled way a n can)) (way.word (codes "]") refl)) (script_spelled way n its can.units)) (field_spelled way a.world.nodes q.field))
    (way.word (codes " ") refl))
    (way.word (verdict_text (fixed a.world n)) (verdict_word (fixed a.world n))))

pub question_spelled : {telling : Telling} {P : List ℕ → Type 0} (way : Way telling P) (a : Seen) (o : Option Node) → IfSome o (CanTellValue a.texts a.world a.stores) → P (question_text telling a o)
question_spelled {telling} {P} way a None can = way.word (codes "no such question") refl
question_spelled {telling} {P} way a (Some n) can =
    way.behind (way.behind (way.text (a.texts (statement_prompt n.op)) (can.shows (statement_prompt n.op) (two_bytes n.op 2 can.bytes))) (way.word (codes " ") refl)) (answer_of_spelled way a n can)

pub id_word : (id : ℕ) → IsWord (id_text id)
id_word id =
    word_behind (decimal id ++ codes " (0x" ++ hex_text id) (codes ")") (word_behind (decimal id ++ codes " (0x") (hex_text id) (word_behind (decimal id) (codes " (0x") (decimal_word id) refl) (hexadecimal_word id)) refl

asked_text : (begin id between question end : List ℕ) → begin ++ (id ++ between ++ question) ++ end ≡ begin ++ id ++ between ++ question ++ end
asked_text begin id between question end = simp append_assoc

pub depends_back : (a : Seen) (id : ℕ) → IfSome (question_with a.world.nodes id) (CanTellValue a.texts a.world a.stores) → IsReadBack (codes "depends") (depends_told Objects a id)
depends_back a id can =
    subst (λ (l : List ℕ). IsReadBack (codes "depends") l)
    (asked_text (front Objects (codes "depends  ") (codes "depends") (codes "text")) (id_text id) (codes " ") (question_text Objects a (question_with a.world.nodes id)) (back Objects))
    (text_back (codes "depends  ") (codes "depends") (codes "text") refl refl
    (spells_behind (spells_behind (spells_word (id_text id) (id_word id)) (spells_word (codes " ") refl)) (question_spelled spelling a (question_with a.world.nodes id) can)))

-- ---- what is left

pub ids_word : (qs : List Asked) → IsWord (ids_told qs)
ids_word [] = refl
ids_word (q ∷ qs) = word_behind (id_told q) (ids_told qs) (word_behind (codes " ") (decimal (question_id q.node.op)) refl (decimal_word (question_id q.node.op))) (ids_word qs)

left_text : (begin words ids end : List ℕ) → begin ++ (words ++ ids) ++ end ≡ begin ++ words ++ ids ++ end
left_text begin words ids end = simp append_assoc

pub unsubmitted_back : (qs : List Asked) → IsReadBack (codes "error") (unsubmitted_told Objects qs)
unsubmitted_back qs =
    let body = codes "not submitted:" ++ ids_told qs in
    subst (λ (l : List ℕ). IsReadBack (codes "error") l) (left_text (front Objects (codes "") (codes "error") (codes "text")) (codes "not submitted:") (ids_told qs) (back Objects))
    (text_back (codes "") (codes "error") (codes "text") refl refl (spells_word body (word_behind (codes "not submitted:") (ids_told qs) refl (ids_word qs))))

changed_text : (kind id key prompt old_key old new_key new : List ℕ)
    → (kind ++ (id ++ (key ++ (codes "\"" ++ prompt ++ codes "\"")) ++ (old_key ++ (codes "\"" ++ old ++ codes "\"")) ++ (new_key ++ (codes "\"" ++ new ++ codes "\"")))) ++ codes "}\n"
    ≡ (kind ++ id ++ key ++ codes "\"") ++ prompt ++ (codes "\"" ++ old_key ++ codes "\"") ++ old ++ (codes "\"" ++ new_key ++ codes "\"") ++ new ++ codes "\"}\n"
changed_text kind id key prompt old_key old new_key new = simp append_assoc

pub change_back : (a : Seen) (one other : StoreMap) (n : Node) → CanTellValue a.texts a.world one n → CanTellValue a.texts a.world other n → IsReadBack (codes "changed") (change_told Objects a one other n)
change_back a one other n old new =
    let prompt = spelled Objects (a.texts (statement_prompt n.op)) in
    let before = value_told Objects (over_stores a one) n in
    let after = value_told Objects (over_stores a other) n in
    subst (λ (l : List ℕ). IsReadBack (codes "changed") l)
    (changed_text (object_kind (codes "changed")) (number_member (codes "id") (question_id n.op)) (member_key (codes "prompt")) prompt (member_key (codes "old")) before (member_key (codes "new")) after)
    (read_back (codes "changed") refl
    (tells_behind
    (tells_behind
    (tells_behind (number_member_told (codes "id") (question_id n.op) refl (two_bytes n.op 6 old.bytes))
    (tells_member (codes "prompt") refl (tells_spelled (spells_text (a.texts (statement_prompt n.op)) (old.shows (statement_prompt n.op) (two_bytes n.op 2 old.bytes))))))
    (tells_member (codes "old") refl (tells_spelled (value_spelled spelling (over_stores a one) n old))))
    (tells_member (codes "new") refl (tells_spelled (value_spelled spelling (over_stores a other) n new)))))

pub error_back : (said : List ℕ) → IsWord said → IsReadBack (codes "error") (error_told Objects said)
error_back said plain = text_back (codes "") (codes "error") (codes "text") refl refl (spells_word said plain)
