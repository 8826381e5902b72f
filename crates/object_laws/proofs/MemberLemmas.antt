-- Members of objects of questions tell facts.
use Rattle.std.proofs.Common.{◌≡◌, ◌==◌, ℕ, ◌+◌, ◌^◌, ◌<◌, Bool, true, false, cond, List, [], ◌++◌, filter, Option, Some, None, IfSome, decimal, codes, refl, sym, subst, append_assoc, arith}
use Rattle.std.specs.List.{AllByRecursion}
use Rattle.std.specs.Str.{all_scalars}
use Rattle.std.proofs.lemmas.Bool.{cond_both}
use Rattle.hii_bytes.specs.Numbers.{AreBytes}
use Rattle.ifr_opcodes.specs.Fields.{has_flag, is_unique_set, numeric_maximum, numeric_minimum, numeric_step, ordered_list_containers, password_maximum, password_minimum, question_flags, question_id, question_store, ref_form_set, ref_target, rule_id, statement_help, statement_prompt, string_maximum, string_minimum, display, has_no_empty_set}
use Rattle.ifr_opcodes.specs.Forest.{Node}
use Rattle.ifr_opcodes.specs.Opcode.{number}
use Rattle.ifr_opcodes.specs.declared.codes.TheConstants.{ACTION, DATE, DISABLE_IF, NUMERIC, ORDERED_LIST, PASSWORD, REF, STRING, TIME}
use Rattle.ifr_expr.specs.Values.{Value, holds}
use Rattle.ifr_nodes.specs.NodeExpressions.{expression_tree, message}
use Rattle.ifr_nodes.specs.Nodes.{is_store}
use Rattle.ifr_nodes.specs.Rules.{as_rule}
use Rattle.ifr_scopes.specs.Stores.{store_guid, store_id}
use Rattle.hii_values.specs.Denials.{kind_name}
use Rattle.hii_values.specs.declared.denial.DenialKind.{DenialKind}
use Rattle.hii_values.specs.declared.denial.DenialKind.TheVariants.{DisableIf}
use Rattle.hii_questions.specs.Fields.{Asked, Field}
use Rattle.guard_policy.specs.Policy.{is_never_changed, is_removed}
use Rattle.guard_policy.specs.declared.denial.Denial.{Denial}
use Rattle.condition_text.specs.Senses.{sense}
use Rattle.audit_text.specs.Texts.{guid_text}
use Rattle.audit_text.specs.Words.{opcode_name, word_where}
use Rattle.audit_json.specs.Objects.{first_member, guid_member, inner_object, quoted, text_member, true_member, word_member}
use Rattle.question_audit.specs.Audited.{Audited}
use Rattle.question_audit.specs.QuestionLines.{has_no_text, is_undefined, names_no_set, store_with}
use Rattle.question_audit.specs.ConditionFacts.{condition_words, guard_state, state_text, value_at}
use Rattle.question_audit.specs.Limits.{flag_words, list_least, outside_text, shown_number, shown_step, unstored_text}
use Rattle.question_audit.specs.RuleFacts.{rule_words}
use Rattle.question_objects.specs.Conditions.{check_item, condition_members, guard_item, rule_item, rule_members}
use Rattle.question_objects.specs.Heads.{field_members, form_member, guid_of_store, head_members, id_members, store_members, text_members}
use Rattle.question_objects.specs.Limits.{count_members, flags_member, kind_members, leads_member, limit_members, list_members, numeric_members, outside_member, set_member, step_member}
use Rattle.question_objects.specs.Members.{denial_members, member_where, place_members, shown_member}
use Rattle.question_objects.specs.declared.detail.Detail.{Detail}
use Rattle.question_objects.specs.declared.detail.Detail.TheVariants.{Alone, Listed}
use Rattle.json_laws.specs.Reading.{truth}
use Rattle.json_laws.specs.laws.Telling.{TellsFacts, TellsValue}
use Rattle.json_laws.specs.laws.Written.{IsWord}
use Rattle.json_laws.proofs.ConditionLemmas.{condition_word}
use Rattle.json_laws.proofs.TellingLemmas.{each_told, tells_array_member, tells_behind, tells_inner, tells_member, tells_nothing, tells_number, tells_text, tells_value, tells_word}
use Rattle.json_laws.proofs.WordLemmas.{Bytes, all_bytes, are_bytes, decimal_word, guid_word, opcode_word, word_behind}
use Rattle.object_laws.specs.laws.Questions.{IsNear, IsPlaced, IsSpan, ShowsTexts}
use Rattle.object_laws.proofs.CheckLemmas.{number_member_told}
use Rattle.object_laws.proofs.ExportLemmas.{name_told}
use Rattle.object_laws.proofs.FieldLemmas.{form_set_bytes, message_small, one_byte, shown_word, step_word, target_small, two_bytes}
use Rattle.json_laws.proofs.ListLemmas.{found_of, some_of}
use Rattle.object_laws.proofs.StoreLemmas.{guid_bytes_of}

-- ---- members that several objects have

pub word_told : (key word : List ℕ) → IsWord key → IsWord word → TellsFacts (word_member key word)
word_told key word plain too = tells_member key plain (tells_word word too)

pub shown_told : (key text : List ℕ) → IsWord key → all_scalars text ≡ true → TellsFacts (shown_member key text)
shown_told key text plain scalars = cond_both (has_no_text text) [] (text_member key text) TellsFacts (λ _. tells_nothing) (λ _. tells_member key plain (tells_text text scalars))

pub where_told : (holds : Bool) (key : List ℕ) → IsWord key → TellsFacts (member_where holds key)
where_told holds key plain = cond_both holds (true_member key) [] TellsFacts (λ _. tells_member key plain (tells_value truth tt)) (λ _. tells_nothing)

pub place_told : (package_place : ℕ) (n : Node) → IsPlaced package_place n → TellsFacts (place_members package_place n)
place_told package_place n is =
    tells_behind (number_member_told (codes "at") n.place refl is.place) (number_member_told (codes "byte") (package_place + n.place) refl is.byte)

pub kind_word : (kind : DenialKind) → IsWord (kind_name kind)
kind_word DisableIf = refl
kind_word _ = refl

pub denial_told : (key place_key : List ℕ) (denial : Denial) → IsWord key → IsWord place_key → IsNear denial → TellsFacts (denial_members key place_key denial)
denial_told key place_key denial plain too near = tells_behind (word_told key (kind_name denial.kind) plain (kind_word denial.kind)) (number_member_told place_key denial.place too near)

pub guid_told : (key guid : List ℕ) → IsWord key → Bytes guid → TellsFacts (guid_member key guid)
guid_told key guid plain all = word_told key (guid_text true guid) plain (guid_word true guid (are_bytes guid all))

-- ---- conditions

pub state_word : (its : Value) → IsWord (state_text its)
state_word its =
    cond_both (is_undefined its) (codes "undefined") (cond (holds its) (codes "holds") (codes "does not hold")) IsWord (λ _. refl)
    (λ _. cond_both (holds its) (codes "holds") (codes "does not hold") IsWord (λ _. refl) (λ _. refl))

pub guard_word : (a : Audited) (g : Node) → IsWord (guard_state a g)
guard_word a g =
    cond_both (number g.op == DISABLE_IF) (cond (is_removed a.world.removed g) (codes "removed") (codes "kept")) (state_text (value_at a g)) IsWord
    (λ _. cond_both (is_removed a.world.removed g) (codes "removed") (codes "kept") IsWord (λ _. refl) (λ _. refl)) (λ _. state_word (value_at a g))

pub words_are_word : (c : Node) → IsWord (condition_words c)
words_are_word c = condition_word (sense (expression_tree c))

pub condition_told : (package_place : ℕ) (c : Node) (state : List ℕ) → IsPlaced package_place c → IsWord state → TellsFacts (condition_members package_place c state)
condition_told package_place c state is plain =
    tells_behind (tells_behind (place_told package_place c is) (word_told (codes "state") state refl plain)) (word_told (codes "condition") (condition_words c) refl (words_are_word c))

pub rule_told : (package_place : ℕ) (r : Node) → IsPlaced package_place r → TellsFacts (rule_members package_place r)
rule_told package_place r is = tells_behind (place_told package_place r is) (word_told (codes "condition") (rule_words r) refl (condition_word (sense (as_rule r).tree)))

pub guard_item_told : (detail : Detail) (a : Audited) (package_place : ℕ) (g : Node) → IsPlaced package_place g → TellsValue (guard_item detail a package_place g)
guard_item_told Alone a package_place g is =
    tells_inner (codes "opcode") refl (tells_word (opcode_name (number g.op)) (opcode_word (number g.op))) (condition_told package_place g (guard_state a g) is (guard_word a g))
guard_item_told Listed a package_place g is = tells_number g.place is.place

pub check_item_told : (a : Audited) (package_place : ℕ) (c : Node) → ShowsTexts a.texts → IsPlaced package_place c → TellsValue (check_item a package_place c)
check_item_told a package_place c shows is =
    let state = state_text (value_at a c) in
    let first = first_member (codes "opcode") (quoted (opcode_name (number c.op))) in
    let text = shown_member (codes "text") (a.texts (message c.op)) in
    subst (λ (l : List ℕ). TellsValue (inner_object l)) (sym (append_assoc first (condition_members package_place c state) text))
    (tells_inner (codes "opcode") refl (tells_word (opcode_name (number c.op)) (opcode_word (number c.op)))
    (tells_behind (condition_told package_place c state is (state_word (value_at a c))) (shown_told (codes "text") (a.texts (message c.op)) refl (shows (message c.op) (message_small c.op is.bytes)))))

pub rule_item_told : (package_place : ℕ) (r : Node) → IsPlaced package_place r → TellsValue (rule_item package_place r)
rule_item_told package_place r is = tells_inner (codes "rule") refl (tells_number (rule_id r.op) (one_byte r.op 2 is.bytes)) (rule_told package_place r is)

-- ---- the head of a question

form_told : (form : Option Node) → IfSome form (λ f. AreBytes f.op) → TellsFacts (form_member form)
form_told None are = tells_nothing
form_told (Some form) are = number_member_told (codes "form") _ refl (two_bytes form.op 2 are)

id_told : (package_place : ℕ) (form : Option Node) (n : Node) → IfSome form (λ f. AreBytes f.op) → IsPlaced package_place n → TellsFacts (id_members package_place form n)
id_told package_place form n are is =
    tells_behind
    (tells_behind (tells_behind (number_member_told (codes "id") (question_id n.op) refl (two_bytes n.op 6 is.bytes)) (form_told form are)) (word_told (codes "opcode") (opcode_name (number n.op)) refl (opcode_word (number n.op))))
    (place_told package_place n is)

pub prompt_told : (texts : ℕ → List ℕ) (n : Node) → ShowsTexts texts → AreBytes n.op → TellsFacts (shown_member (codes "prompt") (texts (statement_prompt n.op)))
prompt_told texts n shows are = shown_told (codes "prompt") (texts (statement_prompt n.op)) refl (shows (statement_prompt n.op) (two_bytes n.op 2 are))

texts_told : (a : Audited) (n : Node) → ShowsTexts a.texts → AreBytes n.op → TellsFacts (text_members a n)
texts_told a n shows are =
    tells_behind (prompt_told a.texts n shows are) (shown_told (codes "help") (a.texts (statement_help n.op)) refl (shows (statement_help n.op) (two_bytes n.op 4 are)))

guid_of_told : (o : Option Node) → IfSome o (λ n. AreBytes n.op) → TellsFacts (guid_of_store o)
guid_of_told None are = tells_nothing
guid_of_told (Some store) are = guid_told (codes "guid") (store_guid store.op) refl (guid_bytes_of store.op (all_bytes store.op are))

store_told : (ns : List Node) (id : ℕ) → AllByRecursion (λ n. AreBytes n.op) ns → id < 2 ^ 64 → TellsFacts (store_members ns id)
store_told ns id are small =
    tells_behind (tells_behind (number_member_told (codes "store") id refl small) (name_told ns id are))
    (guid_of_told (store_with ns id) (found_of (λ (n : Node). AreBytes n.op) (λ n. store_id n.op == id) (filter is_store ns) (some_of (λ (n : Node). AreBytes n.op) is_store ns are)))

field_told : (ns : List Node) (field : Option Field) → AllByRecursion (λ n. AreBytes n.op) ns → IfSome field IsSpan → TellsFacts (field_members ns field)
field_told ns None are is = tells_nothing
field_told ns (Some field) are is =
    tells_behind (tells_behind (store_told ns field.store are is.store) (number_member_told (codes "offset") field.offset refl is.offset))
    (number_member_told (codes "width") field.width refl is.width)

pub head_told : (a : Audited) (package_place : ℕ) (form : Option Node) (q : Asked) → AllByRecursion (λ n. AreBytes n.op) a.world.nodes → ShowsTexts a.texts
    → IfSome form (λ f. AreBytes f.op) → IsPlaced package_place q.node → IfSome q.field IsSpan → TellsFacts (head_members a package_place form q)
head_told a package_place form q are shows within is span =
    tells_behind (tells_behind (id_told package_place form q.node within is) (texts_told a q.node shows is.bytes)) (field_told a.world.nodes q.field are span)

-- ---- what it takes

pub are_words : (a b c : Bool) → AllByRecursion IsWord (word_where a (codes "readonly") ++ word_where b (codes "callback") ++ word_where c (codes "reset"))
are_words true true true = (refl, (refl, (refl, tt)))
are_words true true false = (refl, (refl, tt))
are_words true false true = (refl, (refl, tt))
are_words true false false = (refl, tt)
are_words false true true = (refl, (refl, tt))
are_words false true false = (refl, tt)
are_words false false true = (refl, tt)
are_words false false false = tt

flags_told : (op : List ℕ) → TellsFacts (flags_member op)
flags_told op =
    let flags = question_flags op in
    tells_array_member (codes "flags") refl (each_told IsWord quoted (flag_words flags) tells_word (are_words (has_flag flags 0x01) (has_flag flags 0x04) (has_flag flags 0x10)))

step_told : (op : List ℕ) (step : ℕ) → TellsFacts (step_member op step)
step_told op step =
    cond_both (step == 0) [] (word_member (codes "step") (shown_step (display op) op step)) TellsFacts (λ _. tells_nothing)
    (λ _. word_told (codes "step") (shown_step (display op) op step) refl (step_word (display op) op step))

numeric_told : (op : List ℕ) → TellsFacts (numeric_members op)
numeric_told op =
    tells_behind
    (tells_behind (word_told (codes "minimum") (shown_number op (numeric_minimum op)) refl (shown_word op (numeric_minimum op)))
    (word_told (codes "maximum") (shown_number op (numeric_maximum op)) refl (shown_word op (numeric_maximum op))))
    (step_told op (numeric_step op))

count_told : (least most : ℕ) → least < 2 ^ 64 → most < 2 ^ 64 → TellsFacts (count_members least most)
count_told least most small too = tells_behind (number_member_told (codes "least") least refl small) (number_member_told (codes "most") most refl too)

list_told : (op : List ℕ) → AreBytes op → TellsFacts (list_members op)
list_told op are =
    tells_behind
    (count_told (list_least op) (ordered_list_containers op) (cond_both (has_no_empty_set op) 1 0 (λ n. n < 2 ^ 64) (λ _. omega arith) (λ _. omega arith)) (one_byte op 13 are))
    (where_told (is_unique_set op) (codes "unique") refl)

set_told : (o : Option (List ℕ)) → IfSome o Bytes → TellsFacts (set_member o)
set_told None all = tells_nothing
set_told (Some guid) all = cond_both (names_no_set guid) [] (guid_member (codes "formset") guid) TellsFacts (λ _. tells_nothing) (λ _. guid_told (codes "formset") guid refl all)

leads_told : (op : List ℕ) (o : Option ℕ) → AreBytes op → IfSome o (λ id. id < 2 ^ 64) → TellsFacts (leads_member op o)
leads_told op None are small = set_told (ref_form_set op) (form_set_bytes op are)
leads_told op (Some id) are small = number_member_told (codes "leads") id refl small

limits_told : (op : List ℕ) → AreBytes op → TellsFacts (limit_members op)
limits_told op are =
    let text = count_members (string_minimum op) (string_maximum op) in
    let secret = count_members (password_minimum op) (password_maximum op) in
    let leads = leads_member op (ref_target op) in
    let at_reference = cond (number op == REF) leads [] in
    let at_list = cond (number op == ORDERED_LIST) (list_members op) at_reference in
    let at_secret = cond (number op == PASSWORD) secret at_list in
    cond_both (number op == NUMERIC) (numeric_members op) (cond (number op == STRING) text at_secret) TellsFacts (λ _. numeric_told op)
    (λ _. cond_both (number op == STRING) text at_secret TellsFacts (λ _. count_told (string_minimum op) (string_maximum op) (one_byte op 13 are) (one_byte op 14 are))
    (λ _. cond_both (number op == PASSWORD) secret at_list TellsFacts (λ _. count_told (password_minimum op) (password_maximum op) (two_bytes op 13 are) (two_bytes op 15 are))
    (λ _. cond_both (number op == ORDERED_LIST) (list_members op) at_reference TellsFacts (λ _. list_told op are)
    (λ _. cond_both (number op == REF) leads [] TellsFacts (λ _. leads_told op (ref_target op) are (target_small op are)) (λ _. tells_nothing)))))

unstored_word : (store : ℕ) → IsWord (unstored_text store)
unstored_word store =
    cond_both (store == 0) (codes "store 0: its driver keeps the value") (codes "store " ++ decimal store ++ codes " is a store of names and values") IsWord (λ _. refl)
    (λ _. word_behind (codes "store " ++ decimal store) (codes " is a store of names and values") (word_behind (codes "store ") (decimal store) refl (decimal_word store)) refl)

pub outside_word : (n : Node) → IsWord (outside_text n)
outside_word n =
    let unstored = unstored_text (question_store n.op) in
    let at_action = cond (number n.op == ACTION) (codes "an ACTION has no value") unstored in
    let at_time = cond (number n.op == TIME) (codes "a TIME, whose value is not kept here") at_action in
    let at_date = cond (number n.op == DATE) (codes "a DATE, whose value is not kept here") at_time in
    cond_both (number n.op == REF) (codes "it leads to no form of this form set") at_date IsWord (λ _. refl)
    (λ _. cond_both (number n.op == DATE) (codes "a DATE, whose value is not kept here") at_time IsWord (λ _. refl)
    (λ _. cond_both (number n.op == TIME) (codes "a TIME, whose value is not kept here") at_action IsWord (λ _. refl)
    (λ _. cond_both (number n.op == ACTION) (codes "an ACTION has no value") unstored IsWord (λ _. refl) (λ _. unstored_word (question_store n.op)))))

outside_told : (q : Asked) → TellsFacts (outside_member q)
outside_told q =
    cond_both (is_never_changed q) (word_member (codes "outside") (outside_text q.node)) [] TellsFacts
    (λ _. word_told (codes "outside") (outside_text q.node) refl (outside_word q.node)) (λ _. tells_nothing)

pub kinds_told : (q : Asked) → AreBytes q.node.op → TellsFacts (kind_members q)
kinds_told q are = tells_behind (tells_behind (flags_told q.node.op) (limits_told q.node.op are)) (outside_told q)
