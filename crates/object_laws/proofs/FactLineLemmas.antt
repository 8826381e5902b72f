-- Lines of `question` stay one line.
use Rattle.std.proofs.Common.{◌≡◌, ◌==◌, ◌+◌, ℕ, Bool, true, false, cond, List, [], ◌∷◌, ◌++◌, filter, is_some, Option, Some, None, IfSome, codes, refl}
use Rattle.std.specs.List.{AllByRecursion}
use Rattle.std.specs.Str.{all_scalars}
use Rattle.std.proofs.lemmas.Bool.{cond_both}
use Rattle.hii_bytes.specs.Numbers.{AreBytes}
use Rattle.ifr_opcodes.specs.Fields.{form_title, has_flag, is_unique_set, numeric_maximum, numeric_minimum, numeric_step, option_text, option_value, ordered_list_containers, password_maximum, password_minimum, question_flags, question_id, ref_form_set, ref_target, rule_id, statement_help, statement_prompt, string_maximum, string_minimum}
use Rattle.ifr_opcodes.specs.Forest.{Node}
use Rattle.ifr_opcodes.specs.Opcode.{number}
use Rattle.ifr_opcodes.specs.declared.codes.TheConstants.{CHECKBOX, NUMERIC, ONE_OF, ORDERED_LIST, PASSWORD, REF, STRING}
use Rattle.ifr_expr.specs.Values.{Value, natural}
use Rattle.ifr_nodes.specs.Guards.{guards}
use Rattle.ifr_nodes.specs.Nodes.{is_form, is_store, options}
use Rattle.ifr_nodes.specs.ReferenceFaults.{form_with, has_form_id}
use Rattle.ifr_nodes.specs.Rules.{as_rule}
use Rattle.ifr_scopes.specs.Stores.{store_guid, store_id}
use Rattle.hii_questions.specs.Answers.{value_of_field}
use Rattle.hii_questions.specs.Fields.{Asked, Field, asked, question_with, questions}
use Rattle.guard_policy.specs.Policy.{fixed, is_never_changed}
use Rattle.guard_policy.specs.declared.denial.Denial.{Denial}
use Rattle.form_page.specs.RowValues.{choice}
use Rattle.condition_text.specs.Senses.{sense}
use Rattle.audit_text.specs.Texts.{guid_text, safe_text}
use Rattle.audit_text.specs.Words as lists
use Rattle.audit_text.specs.Words.{opcode_name}
use Rattle.question_audit.specs.Audited.{Audited}
use Rattle.question_audit.specs.ConditionFacts.{check_fact, checks, column, condition_fact, condition_words, fact, guard_fact, guard_state, id_text, state_text, value_at, verdict_text}
use Rattle.question_audit.specs.Dependences.{answer_text, decided_by, decides_fact, decides_facts, dependence_text, depends_fact, depends_facts, depends_word, field_behind, is_decided_by, support_ids, when_text}
use Rattle.question_audit.specs.Limits.{flags_fact, form_behind, leads_fact, limits_fact, list_least, list_length, numeric_range, outside_fact, outside_text, set_fact, shown_number, span, step_text, words_fact}
use Rattle.question_audit.specs.OptionFacts.{beside_question, deciding, deciding_words, option_fact, option_facts_behind, option_verdict, own_denial, with_place}
use Rattle.question_audit.specs.Origins.{holder_text}
use Rattle.question_audit.specs.QuestionFacts.{behind_number, choice_behind, condition_facts, dependence_facts, field_fact, form_fact, form_of, guid_behind, has_within, help_fact, kind_facts, named_default, no_question, opcode_fact, opcode_facts, option_behind, prompt_line, question_facts, told_default, value_facts, value_line, value_text, verdict_facts}
use Rattle.question_audit.specs.QuestionLines.{is_undefined, names_no_set, store_with, told_value, unguarded}
use Rattle.question_audit.specs.Reasons.{all_reasons, also_fact, further}
use Rattle.question_audit.specs.RuleFacts.{named_rules, rule_fact, rule_words}
use Rattle.question_audit.specs.ScriptValues.{behind, default_taken, script_value, stored_value}
use Rattle.question_audit.specs.declared.origin.Holder.{Holder}
use Rattle.question_audit.specs.declared.origin.Holder.TheVariants as holders
use Rattle.question_audit.specs.declared.origin.Origin.{Origin}
use Rattle.question_audit.specs.declared.when.When.{When}
use Rattle.question_audit.specs.declared.when.When.TheVariants.{AtCommands, AtOpening}
use Rattle.json_laws.specs.laws.Written.{IsWord}
use Rattle.json_laws.proofs.ConditionLemmas.{condition_word}
use Rattle.json_laws.proofs.ListLemmas.{found_of, some_of}
use Rattle.json_laws.proofs.WordLemmas.{Bytes, all_bytes, opcode_word}
use Rattle.object_laws.specs.laws.Differences.{CanTellValue}
use Rattle.object_laws.specs.laws.Lines.{AreLines, IsLine, IsSafe}
use Rattle.object_laws.specs.laws.Questions.{HasUnits, ShowsTexts}
use Rattle.object_laws.proofs.FieldLemmas.{form_set_bytes, shown_word, two_bytes}
use Rattle.object_laws.proofs.LineLemmas.{decimal_safe, guid_safe, hex_safe, place_safe}
use Rattle.object_laws.proofs.MemberLemmas.{guard_word, outside_word, state_word, words_are_word}
use Rattle.object_laws.proofs.QuestionLemmas.{asked_bytes, beside_word, choice_shown, deciding_word, depends_is_word}
use Rattle.object_laws.proofs.QuestionLineLemmas.{behind_safe, denial_safe, field_safe, form_safe, script_safe, value_safe}
use Rattle.object_laws.proofs.SafeLemmas.{any_lines, each_line, left_safe, line_safe, lines_behind, no_lines, one_line, safe_behind, safe_nothing, text_safe, word_safe}
use Rattle.object_laws.proofs.ScriptLemmas.{id_word, step_is_word, verdict_word}
use Rattle.object_laws.proofs.StoreLemmas.{guid_bytes_of}

-- ---- pieces

column_safe : (word : List ℕ) → IsWord word → IsSafe (column word)
column_safe word plain = safe_behind (left_safe 8 (word_safe word plain)) (word_safe (codes " ") refl)

fact_line : {its : List ℕ} (word : List ℕ) → IsWord word → IsSafe its → IsLine (fact word its)
fact_line word plain safe = line_safe (safe_behind (column_safe word plain) safe)

one_fact : {its : List ℕ} (word : List ℕ) → IsWord word → IsSafe its → AreLines (fact word its)
one_fact word plain safe = one_line (fact_line word plain safe)

pub id_safe : (id : ℕ) → IsSafe (id_text id)
id_safe id = word_safe (id_text id) (id_word id)

pub prompt_safe : (a : Audited) (n : Node) → ShowsTexts a.texts → AreBytes n.op → IsSafe (safe_text (a.texts (statement_prompt n.op)))
prompt_safe a n shows are = text_safe (a.texts (statement_prompt n.op)) (shows (statement_prompt n.op) (two_bytes n.op 2 are))

title_safe : (a : Audited) (form : Node) → ShowsTexts a.texts → AreBytes form.op → IsSafe (safe_text (a.texts (form_title form.op)))
title_safe a form shows are = text_safe (a.texts (form_title form.op)) (shows (form_title form.op) (two_bytes form.op 4 are))

-- ---- what its opcode says

prompt_is_line : (a : Audited) (n : Node) → ShowsTexts a.texts → AreBytes n.op → IsLine (prompt_line a n)
prompt_is_line a n shows are =
    line_safe (safe_behind (safe_behind (safe_behind (word_safe (codes "QUESTION ") refl) (id_safe (question_id n.op))) (word_safe (codes " ") refl)) (prompt_safe a n shows are))

help_lines : (help : List ℕ) → all_scalars help ≡ true → AreLines (help_fact help)
help_lines [] scalars = no_lines
help_lines (c ∷ help) scalars = one_fact (codes "help") refl (text_safe (c ∷ help) scalars)

form_lines : (a : Audited) (is_reached : ℕ → Bool) (o : Option Node) → ShowsTexts a.texts → IfSome o (λ f. AreBytes f.op) → AreLines (form_fact a is_reached o)
form_lines a is_reached None shows are = no_lines
form_lines a is_reached (Some form) shows are = one_fact (codes "form") refl (form_safe a is_reached form shows are)

store_guid_safe : (o : Option Node) → IfSome o (λ n. AreBytes n.op) → IsSafe (guid_behind o)
store_guid_safe None are = safe_nothing
store_guid_safe (Some store) are = safe_behind (word_safe (codes " ") refl) (guid_safe (store_guid store.op) (guid_bytes_of store.op (all_bytes store.op are)))

field_lines : (ns : List Node) (o : Option Field) → AllByRecursion (λ n. AreBytes n.op) ns → AreLines (field_fact ns o)
field_lines ns None are = no_lines
field_lines ns (Some field) are =
    one_fact (codes "field") refl
    (safe_behind (safe_behind (safe_behind (field_safe ns field) (word_safe (codes ", varstore ") refl)) (decimal_safe field.store))
    (store_guid_safe (store_with ns field.store)
    (found_of (λ (n : Node). AreBytes n.op) (λ n. store_id n.op == field.store) (filter is_store ns) (some_of (λ (n : Node). AreBytes n.op) is_store ns are))))

-- ---- its kind

flag_lines : (a b c : Bool) → AreLines (words_fact (lists.word_where a (codes "readonly") ++ lists.word_where b (codes "callback") ++ lists.word_where c (codes "reset")))
flag_lines true true true = one_fact (codes "flags") refl (word_safe (codes "readonly, callback, reset") refl)
flag_lines true true false = one_fact (codes "flags") refl (word_safe (codes "readonly, callback") refl)
flag_lines true false true = one_fact (codes "flags") refl (word_safe (codes "readonly, reset") refl)
flag_lines true false false = one_fact (codes "flags") refl (word_safe (codes "readonly") refl)
flag_lines false true true = one_fact (codes "flags") refl (word_safe (codes "callback, reset") refl)
flag_lines false true false = one_fact (codes "flags") refl (word_safe (codes "callback") refl)
flag_lines false false true = one_fact (codes "flags") refl (word_safe (codes "reset") refl)
flag_lines false false false = no_lines

flags_lines : (op : List ℕ) → AreLines (flags_fact op)
flags_lines op = let flags = question_flags op in flag_lines (has_flag flags 0x01) (has_flag flags 0x04) (has_flag flags 0x10)

numeric_lines : (op : List ℕ) → AreLines (numeric_range op)
numeric_lines op =
    one_fact (codes "range") refl
    (safe_behind
    (safe_behind (safe_behind (word_safe (shown_number op (numeric_minimum op)) (shown_word op (numeric_minimum op))) (word_safe (codes " to ") refl))
    (word_safe (shown_number op (numeric_maximum op)) (shown_word op (numeric_maximum op))))
    (word_safe (step_text op (numeric_step op)) (step_is_word op (numeric_step op))))

span_lines : (least most : ℕ) (what : List ℕ) → IsSafe what → AreLines (span least most what)
span_lines least most what safe = one_fact (codes "length") refl (safe_behind (safe_behind (safe_behind (decimal_safe least) (word_safe (codes " to ") refl)) (decimal_safe most)) safe)

each_once_safe : (is_unique : Bool) → IsSafe (cond is_unique (codes " elements, each once") (codes " elements"))
each_once_safe true = word_safe (codes " elements, each once") refl
each_once_safe false = word_safe (codes " elements") refl

form_behind_safe : (a : Audited) (id : ℕ) (o : Option Node) → ShowsTexts a.texts → IfSome o (λ f. AreBytes f.op) → IsSafe (form_behind a id o)
form_behind_safe a id None shows are = safe_nothing
form_behind_safe a id (Some form) shows are = safe_behind (safe_behind (safe_behind (word_safe (codes "form ") refl) (decimal_safe id)) (word_safe (codes " ") refl)) (title_safe a form shows are)

set_lines : (o : Option (List ℕ)) → IfSome o Bytes → AreLines (set_fact o)
set_lines None all = no_lines
set_lines (Some guid) all =
    cond_both (names_no_set guid) [] (fact (codes "leads") (codes "form set " ++ guid_text true guid)) AreLines (λ _. no_lines)
    (λ _. one_fact (codes "leads") refl (safe_behind (word_safe (codes "form set ") refl) (guid_safe guid all)))

leads_lines : (a : Audited) (op : List ℕ) (o : Option ℕ) → ShowsTexts a.texts → AllByRecursion (λ m. AreBytes m.op) a.world.nodes → AreBytes op → AreLines (leads_fact a op o)
leads_lines a op None shows all are = set_lines (ref_form_set op) (form_set_bytes op are)
leads_lines a op (Some id) shows all are =
    one_fact (codes "leads") refl (form_behind_safe a id (form_with a.world.nodes id) shows (found_of (λ (n : Node). AreBytes n.op) (has_form_id id) a.world.nodes all))

limits_lines : (a : Audited) (n : Node) → ShowsTexts a.texts → AllByRecursion (λ m. AreBytes m.op) a.world.nodes → AreBytes n.op → AreLines (limits_fact a n)
limits_lines a n shows all are =
    let text = span (string_minimum n.op) (string_maximum n.op) (codes " characters") in
    let secret = span (password_minimum n.op) (password_maximum n.op) (codes " characters") in
    let leads = leads_fact a n.op (ref_target n.op) in
    let at_reference = cond (number n.op == REF) leads [] in
    let at_list = cond (number n.op == ORDERED_LIST) (list_length n.op) at_reference in
    let at_secret = cond (number n.op == PASSWORD) secret at_list in
    let at_text = cond (number n.op == STRING) text at_secret in
    let box = fact (codes "range") (codes "0 to 1") in
    cond_both (number n.op == CHECKBOX) box (cond (number n.op == NUMERIC) (numeric_range n.op) at_text) AreLines (λ _. one_fact (codes "range") refl (word_safe (codes "0 to 1") refl))
    (λ _. cond_both (number n.op == NUMERIC) (numeric_range n.op) at_text AreLines (λ _. numeric_lines n.op)
    (λ _. cond_both (number n.op == STRING) text at_secret AreLines (λ _. span_lines (string_minimum n.op) (string_maximum n.op) (codes " characters") (word_safe (codes " characters") refl))
    (λ _. cond_both (number n.op == PASSWORD) secret at_list AreLines
    (λ _. span_lines (password_minimum n.op) (password_maximum n.op) (codes " characters") (word_safe (codes " characters") refl))
    (λ _. cond_both (number n.op == ORDERED_LIST) (list_length n.op) at_reference AreLines (λ _. span_lines (list_least n.op) (ordered_list_containers n.op) _ (each_once_safe (is_unique_set n.op)))
    (λ _. cond_both (number n.op == REF) leads [] AreLines (λ _. leads_lines a n.op (ref_target n.op) shows all are) (λ _. no_lines))))))

outside_lines : (q : Asked) → AreLines (outside_fact q)
outside_lines q =
    cond_both (is_never_changed q) (fact (codes "outside") (outside_text q.node)) [] AreLines
    (λ _. one_fact (codes "outside") refl (word_safe (outside_text q.node) (outside_word q.node))) (λ _. no_lines)

-- ---- its value and its defaults

number_behind_safe : (o : Option (List ℕ)) → IfSome o (λ its. all_scalars its ≡ true) → IsSafe (behind_number o)
number_behind_safe None scalars = safe_nothing
number_behind_safe (Some its) scalars = safe_behind (word_safe (codes " ") refl) (text_safe its scalars)

choice_safe : (a : Audited) (n : Node) (v : Value) → ShowsTexts a.texts → AllByRecursion (λ o. AreBytes o.op) (options n) → IsSafe (choice_behind a n v)
choice_safe a n (natural m) shows are = number_behind_safe (choice a.texts (unguarded a.world) n m) (choice_shown a.texts (unguarded a.world) n m shows are)
choice_safe a n _ shows are = safe_nothing

option_safe : (a : Audited) (n : Node) (v : Value) → ShowsTexts a.texts → AllByRecursion (λ o. AreBytes o.op) (options n) → IsSafe (option_behind a n v)
option_safe a n v shows are = cond_both (number n.op == ONE_OF) (choice_behind a n v) [] IsSafe (λ _. choice_safe a n v shows are) (λ _. safe_nothing)

value_lines : (a : Audited) (n : Node) (v : Value) → ShowsTexts a.texts → AllByRecursion (λ o. AreBytes o.op) (options n) → HasUnits v → AreLines (value_line a n v)
value_lines a n v shows are units =
    cond_both (is_undefined v) [] (fact (codes "value") (value_text a n v)) AreLines (λ _. no_lines)
    (λ _. one_fact (codes "value") refl (safe_behind (behind_safe [] (script_value n v) safe_nothing (script_safe n v units)) (option_safe a n v shows are)))

told_lines : (name choice : List ℕ) (o : Option (List ℕ)) → IsWord name → IsSafe choice → IfSome o IsSafe → AreLines (told_default name choice o)
told_lines name choice None plain safe too = no_lines
told_lines name choice (Some its) plain safe too =
    one_fact (codes "default") refl (safe_behind (safe_behind (safe_behind (safe_behind too safe) (word_safe (codes " (") refl)) (word_safe name plain)) (word_safe (codes ")") refl))

default_lines : (a : Audited) (n : Node) (name : List ℕ) (o : Option Value) → IsWord name → ShowsTexts a.texts → AllByRecursion (λ p. AreBytes p.op) (options n) → IfSome o HasUnits
    → AreLines (named_default a n name o)
default_lines a n name None plain shows are units = no_lines
default_lines a n name (Some v) plain shows are units = told_lines name (option_behind a n v) (script_value n v) plain (option_safe a n v shows are) (script_safe n v units)

-- ---- conditions, rules and options

condition_is_line : (word : List ℕ) (package_place : ℕ) (c : Node) (state : List ℕ) → IsWord word → IsWord state → IsLine (condition_fact word package_place c state)
condition_is_line word package_place c state plain too =
    line_safe
    (safe_behind
    (safe_behind
    (safe_behind
    (safe_behind
    (safe_behind
    (safe_behind
    (safe_behind (safe_behind (safe_behind (column_safe word plain) (word_safe (opcode_name (number c.op)) (opcode_word (number c.op)))) (word_safe (codes " at ") refl)) (place_safe c.place))
    (word_safe (codes " (byte ") refl))
    (hex_safe (package_place + c.place)))
    (word_safe (codes ") ") refl))
    (word_safe state too))
    (word_safe (codes ": ") refl))
    (word_safe (condition_words c) (words_are_word c)))

rule_is_line : (package_place : ℕ) (r : Node) → IsLine (rule_fact package_place r)
rule_is_line package_place r =
    line_safe
    (safe_behind
    (safe_behind
    (safe_behind
    (safe_behind
    (safe_behind (safe_behind (safe_behind (column_safe (codes "rule") refl) (decimal_safe (rule_id r.op))) (word_safe (codes " at ") refl)) (place_safe r.place))
    (word_safe (codes " (byte ") refl))
    (hex_safe (package_place + r.place)))
    (word_safe (codes "): ") refl))
    (word_safe (rule_words r) (condition_word (sense (as_rule r).tree))))

option_verdict_safe : (is_denied : Bool) (o : Option Denial) → IsSafe (option_verdict is_denied o)
option_verdict_safe is_denied (Some denial) = denial_safe denial
option_verdict_safe is_denied None = word_safe (beside_question is_denied) (beside_word is_denied)

deciding_safe : (places : List ℕ) (o : Node) (denial : Option Denial) → IsSafe (deciding places o denial)
deciding_safe places o denial = behind_safe (codes ": ") (deciding_words places o denial) (word_safe (codes ": ") refl) (words_some (deciding_words places o denial) (deciding_word places o denial))
  where
    words_some : (words : Option (List ℕ)) → IfSome words IsWord → IfSome words IsSafe
    words_some None plain = tt
    words_some (Some words) plain = word_safe words plain

option_is_line : (a : Audited) (place : ℕ) (is_denied : Bool) (places : List ℕ) (o : Node) → ShowsTexts a.texts → AreBytes o.op → IsLine (option_fact a place is_denied places o)
option_is_line a place is_denied places o shows are =
    let denial = own_denial a.world place o in
    fact_line (codes "option") refl
    (safe_behind
    (safe_behind
    (safe_behind (safe_behind (safe_behind (decimal_safe (option_value o.op)) (word_safe (codes " ") refl)) (text_safe (a.texts (option_text o.op)) (shows (option_text o.op) (two_bytes o.op 2 are)))) (word_safe (codes ": ") refl))
    (option_verdict_safe is_denied denial))
    (deciding_safe places o denial))

option_lines : (a : Audited) (place : ℕ) (is_denied : Bool) (places : List ℕ) (os : List Node) → ShowsTexts a.texts → AllByRecursion (λ o. AreBytes o.op) os
    → AreLines (option_facts_behind a place is_denied places os)
option_lines a place is_denied places [] shows are = no_lines
option_lines a place is_denied places (o ∷ os) shows are =
    lines_behind (one_line (option_is_line a place is_denied places o shows are.0)) (option_lines a place is_denied (with_place (own_denial a.world place o) places) os shows are.1)

-- ---- on what it depends, and what depends on it

field_behind_safe : (ns : List Node) (o : Option Field) → IsSafe (field_behind ns o)
field_behind_safe ns None = safe_nothing
field_behind_safe ns (Some field) = safe_behind (word_safe (codes " ") refl) (field_safe ns field)

answer_safe : (a : Audited) (n : Node) → CanTellValue a.texts a.world a.stores n → IsSafe (answer_text a (asked a.world.nodes n))
answer_safe a n can =
    let q = asked a.world.nodes n in
    let its = value_of_field a.stores n q.field in
    cond_both (is_undefined its) (codes "has no answer here")
    (codes "[" ++ told_value a n ++ codes "]" ++ behind (codes " value ") (stored_value a.stores q) ++ field_behind a.world.nodes q.field ++ codes " " ++ verdict_text (fixed a.world n)) IsSafe
    (λ _. word_safe (codes "has no answer here") refl)
    (λ _. safe_behind
    (safe_behind
    (safe_behind
    (safe_behind (safe_behind (safe_behind (word_safe (codes "[") refl) (value_safe a n can)) (word_safe (codes "]") refl))
    (behind_safe (codes " value ") (stored_value a.stores q) (word_safe (codes " value ") refl) (script_safe n its can.units)))
    (field_behind_safe a.world.nodes q.field))
    (word_safe (codes " ") refl))
    (word_safe (verdict_text (fixed a.world n)) (verdict_word (fixed a.world n))))

dependence_safe : (a : Audited) (o : Option Node) → IfSome o (CanTellValue a.texts a.world a.stores) → IsSafe (dependence_text a o)
dependence_safe a None can = word_safe (codes "no such question") refl
dependence_safe a (Some n) can = safe_behind (safe_behind (prompt_safe a n can.shows can.bytes) (word_safe (codes " ") refl)) (answer_safe a n can)

depends_lines : (when : When) (a : Audited) (n : Node) → ((id : ℕ) → IfSome (question_with a.world.nodes id) (CanTellValue a.texts a.world a.stores)) → AreLines (depends_facts when a n)
depends_lines when a n can =
    any_lines (depends_fact when a) (support_ids when a.world.nodes n)
    (λ id. one_fact (depends_word when) (depends_is_word when)
    (safe_behind (safe_behind (id_safe id) (word_safe (codes " ") refl)) (dependence_safe a (question_with a.world.nodes id) (can id))))

when_safe : (when : When) → IsSafe (when_text when)
when_safe AtCommands = safe_nothing
when_safe AtOpening = word_safe (codes " (at opening)") refl

decides_lines : (when : When) (a : Audited) (n : Node) → ShowsTexts a.texts → AllByRecursion (λ m. AreBytes m.op) a.world.nodes → AreLines (decides_facts when a n)
decides_lines when a n shows are =
    let id = question_id n.op in
    each_line (λ (q : Asked). AreBytes q.node.op) (decides_fact when a) (decided_by when a.world.nodes id)
    (λ q is. one_fact (codes "decides") refl
    (safe_behind (safe_behind (safe_behind (decimal_safe (question_id q.node.op)) (word_safe (codes " ") refl)) (prompt_safe a q.node shows is)) (when_safe when)))
    (some_of (λ (q : Asked). AreBytes q.node.op) (is_decided_by when a.world.nodes id) (questions a.world.nodes) (asked_bytes a.world.nodes are))

-- ---- all that is known

holder_safe : (holder : Holder) → IsSafe (holder_text holder)
holder_safe holders.List = word_safe (codes " of the list") refl
holder_safe holders.Dump = word_safe (codes " of the dump") refl

opcode_is_line : (origin : Origin) (n : Node) → AreLines (opcode_fact origin n)
opcode_is_line origin n =
    one_fact (codes "opcode") refl
    (safe_behind
    (safe_behind
    (safe_behind
    (safe_behind (safe_behind (word_safe (opcode_name (number n.op)) (opcode_word (number n.op))) (word_safe (codes " at ") refl)) (place_safe n.place))
    (word_safe (codes ", byte ") refl))
    (hex_safe (origin.place + n.place)))
    (holder_safe origin.holder))

opcode_lines : (a : Audited) (is_reached : ℕ → Bool) (origin : Origin) (n : Node) → ShowsTexts a.texts → AllByRecursion (λ m. AreBytes m.op) a.world.nodes → AreBytes n.op
    → AreLines (opcode_facts a is_reached origin (asked a.world.nodes n))
opcode_lines a is_reached origin n shows all are =
    let ns = a.world.nodes in
    lines_behind
    (lines_behind
    (lines_behind
    (lines_behind (one_line (prompt_is_line a n shows are)) (help_lines (a.texts (statement_help n.op)) (shows (statement_help n.op) (two_bytes n.op 4 are))))
    (form_lines a is_reached (form_of ns n) shows (found_of (λ (f : Node). AreBytes f.op) (has_within n) (filter is_form ns) (some_of (λ (f : Node). AreBytes f.op) is_form ns all))))
    (opcode_is_line origin n))
    (field_lines ns (asked ns n).field all)

kind_lines : (a : Audited) (n : Node) → ShowsTexts a.texts → AllByRecursion (λ m. AreBytes m.op) a.world.nodes → AreBytes n.op → AreLines (kind_facts a (asked a.world.nodes n))
kind_lines a n shows all are = lines_behind (lines_behind (flags_lines n.op) (limits_lines a n shows all are)) (outside_lines (asked a.world.nodes n))

all_values : (a : Audited) (n : Node) → CanTellValue a.texts a.world a.stores n → ((class : ℕ) → IfSome (default_taken a (asked a.world.nodes n) class) HasUnits) → AreLines (value_facts a (asked a.world.nodes n))
all_values a n can units =
    let q = asked a.world.nodes n in
    lines_behind
    (lines_behind (value_lines a n (value_of_field a.stores n q.field) can.shows can.options can.units) (default_lines a n (codes "standard") (default_taken a q 0) refl can.shows can.options (units 0)))
    (default_lines a n (codes "manufacturing") (default_taken a q 1) refl can.shows can.options (units 1))

all_verdicts : (a : Audited) (q : Asked) → AreLines (verdict_facts a q)
all_verdicts a q =
    lines_behind (one_fact (codes "verdict") refl (word_safe (verdict_text (fixed a.world q.node)) (verdict_word (fixed a.world q.node))))
    (any_lines also_fact (further (all_reasons a.world q)) (λ denial. one_fact (codes "also") refl (denial_safe denial)))

all_conditions : (a : Audited) (package_place : ℕ) (n : Node) → ShowsTexts a.texts → AllByRecursion (λ o. AreBytes o.op) (options n) → AreLines (condition_facts a package_place n)
all_conditions a package_place n shows are =
    lines_behind
    (lines_behind
    (lines_behind (any_lines (guard_fact a package_place) (guards n) (λ g. one_line (condition_is_line (codes "guard") package_place g (guard_state a g) refl (guard_word a g))))
    (any_lines (check_fact a package_place) (checks n) (λ c. one_line (condition_is_line (codes "check") package_place c (state_text (value_at a c)) refl (state_word (value_at a c))))))
    (any_lines (rule_fact package_place) (named_rules a.world.nodes n) (λ r. one_line (rule_is_line package_place r))))
    (option_lines a n.place (is_some (fixed a.world n)) [] (options n) shows are)

all_dependences : (a : Audited) (n : Node) → ShowsTexts a.texts → AllByRecursion (λ m. AreBytes m.op) a.world.nodes → ((id : ℕ) → IfSome (question_with a.world.nodes id) (CanTellValue a.texts a.world a.stores))
    → AreLines (dependence_facts a n)
all_dependences a n shows all can =
    lines_behind (lines_behind (depends_lines AtCommands a n can) (depends_lines AtOpening a n can)) (lines_behind (decides_lines AtCommands a n shows all) (decides_lines AtOpening a n shows all))

pub question_lines : (a : Audited) (is_reached : ℕ → Bool) (origin : Origin) (n : Node) → AllByRecursion (λ m. AreBytes m.op) a.world.nodes → CanTellValue a.texts a.world a.stores n
    → ((class : ℕ) → IfSome (default_taken a (asked a.world.nodes n) class) HasUnits) → ((id : ℕ) → IfSome (question_with a.world.nodes id) (CanTellValue a.texts a.world a.stores))
    → AreLines (question_facts a is_reached origin (asked a.world.nodes n))
question_lines a is_reached origin n all can units others =
    lines_behind
    (lines_behind
    (lines_behind
    (lines_behind (lines_behind (opcode_lines a is_reached origin n can.shows all can.bytes) (kind_lines a n can.shows all can.bytes)) (all_values a n can units))
    (all_verdicts a (asked a.world.nodes n)))
    (all_conditions a origin.place n can.shows can.options))
    (all_dependences a n can.shows all others)

pub no_question_is_line : (id : ℕ) → IsLine (no_question id)
no_question_is_line id = line_safe (safe_behind (word_safe (codes "NO QUESTION ") refl) (decimal_safe id))
