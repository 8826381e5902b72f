-- Objects of questions, of their forms and of conditions tell facts.
use Rattle.std.proofs.Common.{◌≡◌, ◌==◌, ℕ, ◌^◌, ◌<◌, Bool, true, false, cond, List, [], ◌∷◌, ◌++◌, map, filter, is_some, Option, Some, None, IfSome, option_map, decimal, codes, refl, sym, subst, append_assoc, ◌∙◌, arith}
use Rattle.std.specs.List.{AllByRecursion, flat_map}
use Rattle.std.specs.Str.{all_scalars}
use Rattle.std.proofs.lemmas.Bool.{cond_both}
use Rattle.std.proofs.str.Laws.{scalars-append}
use Rattle.hii_bytes.specs.Numbers.{AreBytes}
use Rattle.browser_rules.specs.Strings.{characters}
use Rattle.ifr_opcodes.specs.Fields.{display, form_id, form_title, numeric_width, option_text, option_value, question_id, ref_target, rule_id, text_second}
use Rattle.ifr_opcodes.specs.Forest.{Node}
use Rattle.ifr_opcodes.specs.Opcode.{number}
use Rattle.ifr_opcodes.specs.Rows.{is_among}
use Rattle.ifr_opcodes.specs.declared.codes.TheConstants.{CHECKBOX, NUMERIC, ONE_OF, ORDERED_LIST, PASSWORD, REF, RESET_BUTTON, STRING, TEXT}
use Rattle.ifr_expr.specs.Values.{Value, boolean, natural, text, buffer}
use Rattle.ifr_nodes.specs.Guards.{guards}
use Rattle.ifr_nodes.specs.Nodes.{is_question, options}
use Rattle.hii_varstore.specs.Stores.{StoreMap}
use Rattle.hii_values.specs.Denials.{kind_name}
use Rattle.hii_values.specs.Items.{items_in}
use Rattle.hii_values.specs.Types.{element_width}
use Rattle.hii_questions.specs.Answers.{value_of_field}
use Rattle.hii_questions.specs.Fields.{Asked, asked, field_of, questions}
use Rattle.guard_policy.specs.Policy.{fixed}
use Rattle.guard_policy.specs.World.{World}
use Rattle.guard_policy.specs.declared.denial.Denial.{Denial}
use Rattle.form_page.specs.RowValues as shown
use Rattle.form_page.specs.RowValues.{checkbox_shown, choice, choice_text, later_text, list_shown, number_text, numeric_shown, one_of_shown, option_with, password_shown, question_shown, reference_text, stored_shown, string_shown, value_shown}
use Rattle.audit_text.specs.Words.{opcode_name}
use Rattle.audit_json.specs.Objects.{first_member, inner_object, quoted}
use Rattle.question_audit.specs.Audited.{Audited}
use Rattle.question_audit.specs.QuestionLines.{is_constant, is_undefined_guard, undefined_guards, unguarded, value_told}
use Rattle.question_audit.specs.Reach.{reach_of}
use Rattle.question_audit.specs.ScriptValues.{checkbox_script, default_taken, list_script, list_text, numeric_script, one_of_script, script_value, string_characters, string_script}
use Rattle.question_audit.specs.declared.ways.Reach.{Reach}
use Rattle.question_audit.specs.declared.ways.Reach.TheVariants.{Open, Hidden, Closed, Below, Unnamed}
use Rattle.question_audit.specs.ConditionFacts.{checks, condition_words, guard_state}
use Rattle.question_audit.specs.Dependences.{all_ids, decided_by, depends_word, is_decided_by, support_ids, supports}
use Rattle.question_audit.specs.OptionFacts.{beside_question, deciding_words, guard_at, own_denial, with_place}
use Rattle.question_audit.specs.QuestionFacts.{no_question_words}
use Rattle.question_audit.specs.Reasons.{all_reasons, further}
use Rattle.question_audit.specs.RuleFacts.{named_rules}
use Rattle.question_audit.specs.declared.when.When.{When}
use Rattle.question_audit.specs.declared.when.When.TheVariants.{AtCommands, AtOpening}
use Rattle.question_objects.specs.Conditions.{check_item, condition_lists, guard_item, rule_item, rules_member}
use Rattle.question_objects.specs.Dependences.{decides_key, decides_member, dependence_members, depends_member, id_of}
use Rattle.question_objects.specs.FormSets.{form_object, guard_object, reach_members, rule_object}
use Rattle.question_objects.specs.Members.{shown_member}
use Rattle.question_objects.specs.Objects.{detail_members, no_question_object, plain_members, question_members, question_object}
use Rattle.question_objects.specs.Options.{option_item, option_items, option_verdict_members, told_words}
use Rattle.question_objects.specs.Values.{script_if_there, script_member, text_if_there, value_members, word_if_there}
use Rattle.question_objects.specs.Verdicts.{all_verdict_members, place_of, reason_object, verdict_members}
use Rattle.question_objects.specs.declared.detail.Detail.{Detail}
use Rattle.question_objects.specs.declared.detail.Detail.TheVariants.{Alone, Listed}
use Rattle.json_laws.specs.laws.Telling.{IsReadBack, TellsFacts, TellsValue, TellValues}
use Rattle.json_laws.specs.laws.Written.{IsWord}
use Rattle.json_laws.proofs.TellingLemmas.{each_told, read_back, tell_more, tell_none, tells_array_member, tells_behind, tells_inner, tells_member, tells_nothing, tells_number, tells_text, tells_word}
use Rattle.json_laws.proofs.WordLemmas.{decimal_word, opcode_word, units_are_text, word_behind, word_is_text}
use Rattle.object_laws.specs.laws.Questions.{CanShow, HasUnits, IsNear, IsNearReach, IsOption, IsPlaced, ShowsTexts}
use Rattle.object_laws.proofs.CheckLemmas.{number_member_told}
use Rattle.object_laws.proofs.FieldLemmas.{number_word, one_byte, spelled_word, two_bytes}
use Rattle.json_laws.proofs.ListLemmas.{behind_first, each_below, each_of, found_of, some_of, some_with}
use Rattle.object_laws.proofs.MemberLemmas.{check_item_told, condition_told, denial_told, guard_item_told, guard_word, head_told, kind_word, kinds_told, rule_item_told, rule_told, shown_told, where_told, word_told, words_are_word}

-- ---- what is shown of values

abbrev IsText : List ℕ → Type 0
IsText shown = all_scalars shown ≡ true

pub choice_shown : (texts : ℕ → List ℕ) (w : World) (n : Node) (its : ℕ) → ShowsTexts texts → AllByRecursion (λ o. AreBytes o.op) (options n) → IfSome (choice texts w n its) IsText
choice_shown texts w n its shows are =
    some_with (λ (o : Node). AreBytes o.op) IsText (λ o. texts (option_text o.op)) (option_with w (options n) its) (λ o is. shows (option_text o.op) (two_bytes o.op 2 is))
    (found_of (λ (o : Node). AreBytes o.op) _ (options n) are)

pub chosen_shown : (o : Option (List ℕ)) → IfSome o IsText → IsText (choice_text o)
chosen_shown None good = refl
chosen_shown (Some its) good = good

later_shown : (choices : List (Option (List ℕ))) → AllByRecursion (λ o. IfSome o IsText) choices → IsText (later_text choices)
later_shown [] all = refl
later_shown (o ∷ choices) all =
    scalars-append (codes ", " ++ choice_text o) (later_text choices) (scalars-append (codes ", ") (choice_text o) refl (chosen_shown o all.0)) (later_shown choices all.1)

choices_shown : (choices : List (Option (List ℕ))) → AllByRecursion (λ o. IfSome o IsText) choices → IsText (shown.list_text choices)
choices_shown [] all = refl
choices_shown (o ∷ choices) all = scalars-append (choice_text o) (later_text choices) (chosen_shown o all.0) (later_shown choices all.1)

each_choice : (texts : ℕ → List ℕ) (w : World) (n : Node) (items : List ℕ) → ShowsTexts texts → AllByRecursion (λ o. AreBytes o.op) (options n)
    → AllByRecursion (λ o. IfSome o IsText) (map (choice texts w n) items)
each_choice texts w n [] shows are = tt
each_choice texts w n (its ∷ items) shows are = (choice_shown texts w n its shows are, each_choice texts w n items shows are)

checkbox_is_text : (v : Value) → IsText (checkbox_shown v)
checkbox_is_text (boolean true) = refl
checkbox_is_text (boolean false) = refl
checkbox_is_text _ = refl

numeric_is_text : (op : List ℕ) (v : Value) → IsText (numeric_shown op v)
numeric_is_text op (natural n) = word_is_text (number_text (display op) (numeric_width op) n) (number_word (display op) (numeric_width op) n)
numeric_is_text op _ = refl

one_of_is_text : (texts : ℕ → List ℕ) (w : World) (n : Node) (v : Value) → ShowsTexts texts → AllByRecursion (λ o. AreBytes o.op) (options n) → IsText (one_of_shown texts w n v)
one_of_is_text texts w n (natural its) shows are =
    let said = choice_text (choice texts w n its) in
    scalars-append (codes "<" ++ said) (codes ">") (scalars-append (codes "<") said refl (chosen_shown (choice texts w n its) (choice_shown texts w n its shows are))) refl
one_of_is_text texts w n _ shows are = refl

string_is_text : (v : Value) → HasUnits v → IsText (string_shown v)
string_is_text (text units) are = units_are_text units are
string_is_text _ are = refl

password_is_text : (v : Value) → IsText (password_shown v)
password_is_text (text []) = refl
password_is_text (text (unit ∷ units)) = refl
password_is_text _ = refl

list_is_text : (texts : ℕ → List ℕ) (w : World) (n : Node) (v : Value) → ShowsTexts texts → AllByRecursion (λ o. AreBytes o.op) (options n) → IsText (list_shown texts w n v)
list_is_text texts w n (buffer bytes) shows are =
    choices_shown (map (choice texts w n) (items_in (element_width n) bytes)) (each_choice texts w n (items_in (element_width n) bytes) shows are)
list_is_text texts w n _ shows are = refl

stored_is_text : (texts : ℕ → List ℕ) (w : World) (n : Node) (v : Value) → ShowsTexts texts → AllByRecursion (λ o. AreBytes o.op) (options n) → HasUnits v → IsText (stored_shown texts w n v)
stored_is_text texts w n v shows are units =
    let at_list = cond (number n.op == ORDERED_LIST) (list_shown texts w n v) [] in
    let at_secret = cond (number n.op == PASSWORD) (password_shown v) at_list in
    let at_string = cond (number n.op == STRING) (string_shown v) at_secret in
    let at_choice = cond (number n.op == ONE_OF) (one_of_shown texts w n v) at_string in
    cond_both (number n.op == CHECKBOX) (checkbox_shown v) (cond (number n.op == NUMERIC) (numeric_shown n.op v) at_choice) IsText (λ _. checkbox_is_text v)
    (λ _. cond_both (number n.op == NUMERIC) (numeric_shown n.op v) at_choice IsText (λ _. numeric_is_text n.op v)
    (λ _. cond_both (number n.op == ONE_OF) (one_of_shown texts w n v) at_string IsText (λ _. one_of_is_text texts w n v shows are)
    (λ _. cond_both (number n.op == STRING) (string_shown v) at_secret IsText (λ _. string_is_text v units)
    (λ _. cond_both (number n.op == PASSWORD) (password_shown v) at_list IsText (λ _. password_is_text v)
    (λ _. cond_both (number n.op == ORDERED_LIST) (list_shown texts w n v) [] IsText (λ _. list_is_text texts w n v shows are) (λ _. refl))))))

reference_is_text : (o : Option ℕ) → IsText (reference_text o)
reference_is_text None = refl
reference_is_text (Some form) = word_is_text (codes "->" ++ decimal form) (word_behind (codes "->") (decimal form) refl (decimal_word form))

pub option_bytes : (w : World) (place : ℕ) (os : List Node) → AllByRecursion (IsOption w place) os → AllByRecursion (λ o. AreBytes o.op) os
option_bytes w place [] all = tt
option_bytes w place (o ∷ os) all = (all.0.bytes, option_bytes w place os all.1)

pub value_is_text : (texts : ℕ → List ℕ) (w : World) (stores : StoreMap) (n : Node) → ShowsTexts texts → AreBytes n.op → AllByRecursion (λ o. AreBytes o.op) (options n)
    → HasUnits (value_of_field stores n (asked w.nodes n).field) → IsText (value_shown texts (unguarded w) stores n)
value_is_text texts world stores n shows are options_are units =
    let w = unguarded world in
    let v = value_of_field stores n (field_of w.nodes n) in
    let asks = question_shown texts w stores n in
    let leads = cond (number n.op == REF) (reference_text (ref_target n.op)) asks in
    cond_both (number n.op == TEXT) (texts (text_second n.op)) (cond (number n.op == RESET_BUTTON) (codes "reset") leads) IsText (λ _. shows (text_second n.op) (two_bytes n.op 6 are))
    (λ _. cond_both (number n.op == RESET_BUTTON) (codes "reset") leads IsText (λ _. refl)
    (λ _. cond_both (number n.op == REF) (reference_text (ref_target n.op)) asks IsText (λ _. reference_is_text (ref_target n.op))
    (λ _. cond_both (is_question n) (stored_shown texts w n v) [] IsText (λ _. stored_is_text texts w n v shows options_are units) (λ _. refl))))

-- ---- values as scripts take them

pub checkbox_word : (v : Value) → IfSome (checkbox_script v) IsWord
checkbox_word (boolean true) = refl
checkbox_word (boolean false) = refl
checkbox_word _ = tt

pub numeric_word : (v : Value) (op : List ℕ) → IfSome (numeric_script v op) IsWord
numeric_word (natural n) op = spelled_word (number_text (display op) (numeric_width op) n) (number_word (display op) (numeric_width op) n)
numeric_word _ op = tt

pub one_of_word : (v : Value) → IfSome (one_of_script v) IsWord
one_of_word (natural n) = decimal_word n
one_of_word _ = tt

more_word : (ns : List ℕ) → IsWord (flat_map (λ m. codes "," ++ decimal m) ns)
more_word [] = refl
more_word (n ∷ ns) = word_behind (codes "," ++ decimal n) (flat_map (λ m. codes "," ++ decimal m) ns) (word_behind (codes ",") (decimal n) refl (decimal_word n)) (more_word ns)

list_word : (ns : List ℕ) → IsWord (list_text ns)
list_word [] = refl
list_word (n ∷ ns) = word_behind (decimal n) (flat_map (λ m. codes "," ++ decimal m) ns) (decimal_word n) (more_word ns)

pub elements_word : (v : Value) (n : Node) → IfSome (list_script v n) IsWord
elements_word (buffer bytes) n = list_word (items_in (element_width n) bytes)
elements_word _ n = tt

pub script_word : (n : Node) (v : Value) → (number n.op == STRING) ≡ false → IfSome (script_value n v) IsWord
script_word n v other =
    let at_list = cond (number n.op == ORDERED_LIST) (list_script v n) None in
    let at_string = cond (number n.op == STRING) (string_script v) at_list in
    let at_choice = cond (number n.op == ONE_OF) (one_of_script v) at_string in
    let at_number = cond (number n.op == NUMERIC) (numeric_script v n.op) at_choice in
    cond_both (number n.op == CHECKBOX) (checkbox_script v) at_number (λ o. IfSome o IsWord) (λ _. checkbox_word v)
    (λ _. cond_both (number n.op == NUMERIC) (numeric_script v n.op) at_choice (λ o. IfSome o IsWord) (λ _. numeric_word v n.op)
    (λ _. cond_both (number n.op == ONE_OF) (one_of_script v) at_string (λ o. IfSome o IsWord) (λ _. one_of_word v)
    (λ _. cond_both (number n.op == STRING) (string_script v) at_list (λ o. IfSome o IsWord) (λ here. let bad : false ≡ true = sym other ∙ here in absurd cc)
    (λ _. cond_both (number n.op == ORDERED_LIST) (list_script v n) None (λ o. IfSome o IsWord) (λ _. elements_word v n) (λ _. tt)))))

characters_told : (key : List ℕ) (v : Value) → IsWord key → HasUnits v → TellsFacts (text_if_there key (string_characters v))
characters_told key (text units) plain are = tells_member key plain (tells_text (characters units) (units_are_text units are))
characters_told key _ plain are = tells_nothing

if_word_told : (key : List ℕ) (o : Option (List ℕ)) → IsWord key → IfSome o IsWord → TellsFacts (word_if_there key o)
if_word_told key None plain too = tells_nothing
if_word_told key (Some word) plain too = word_told key word plain too

pub script_told : (key : List ℕ) (n : Node) (v : Value) → IsWord key → HasUnits v → TellsFacts (script_member key n v)
script_told key n v plain are =
    cond_both (number n.op == STRING) (text_if_there key (string_characters v)) (word_if_there key (script_value n v)) TellsFacts
    (λ _. characters_told key v plain are) (λ other. if_word_told key (script_value n v) plain (script_word n v other))

default_told : (key : List ℕ) (n : Node) (o : Option Value) → IsWord key → IfSome o HasUnits → TellsFacts (script_if_there key n o)
default_told key n None plain are = tells_nothing
default_told key n (Some v) plain are = script_told key n v plain are

values_told : (a : Audited) (package_place : ℕ) (n : Node) → CanShow a package_place n → TellsFacts (value_members a (asked a.world.nodes n))
values_told a package_place n can =
    let q = asked a.world.nodes n in
    tells_behind
    (tells_behind
    (tells_behind (script_told (codes "value") n (value_of_field a.stores n q.field) refl can.value)
    (shown_told (codes "shown") (value_told a n) refl (value_is_text a.texts a.world a.stores n can.texts can.placed.bytes (option_bytes a.world n.place (options n) can.options) can.value)))
    (default_told (codes "default") n (default_taken a q 0) refl (can.defaults 0)))
    (default_told (codes "manufacturing") n (default_taken a q 1) refl (can.defaults 1))

-- ---- verdicts

verdict_told : (o : Option Denial) → IfSome o IsNear → TellsFacts (verdict_members o)
verdict_told None near = word_told (codes "verdict") (codes "open") refl refl
verdict_told (Some denial) near = denial_told (codes "verdict") (codes "decider") denial refl refl near

reason_told : (denial : Denial) → IsNear denial → TellsValue (reason_object denial)
reason_told denial near =
    tells_inner (codes "kind") refl (tells_word (kind_name denial.kind) (kind_word denial.kind)) (number_member_told (codes "at") denial.place refl near)

verdicts_told : (a : Audited) (package_place : ℕ) (n : Node) → CanShow a package_place n → TellsFacts (all_verdict_members a (asked a.world.nodes n))
verdicts_told a package_place n can =
    let reasons = all_reasons a.world (asked a.world.nodes n) in
    tells_behind
    (tells_behind (tells_behind (verdict_told (fixed a.world n) can.verdict) (where_told (is_constant a.world.nodes n (fixed a.world n)) (codes "constant") refl))
    (tells_array_member (codes "also") refl (each_told IsNear reason_object (further reasons) reason_told (behind_first IsNear reasons can.reasons))))
    (tells_array_member (codes "undefined") refl
    (each_told (IsPlaced package_place) place_of (undefined_guards a n) (λ g is. tells_number g.place is.place) (some_of (IsPlaced package_place) (is_undefined_guard a) (guards n) can.guards)))

-- ---- conditions

rules_told : (detail : Detail) (ns : List Node) (package_place : ℕ) (n : Node) → AllByRecursion (IsPlaced package_place) (named_rules ns n) → TellsFacts (rules_member detail ns package_place n)
rules_told Alone ns package_place n all = tells_array_member (codes "rules") refl (each_told (IsPlaced package_place) (rule_item package_place) (named_rules ns n) (rule_item_told package_place) all)
rules_told Listed ns package_place n all = tells_nothing

conditions_told : (detail : Detail) (a : Audited) (package_place : ℕ) (n : Node) → CanShow a package_place n → TellsFacts (condition_lists detail a package_place n)
conditions_told detail a package_place n can =
    tells_behind
    (tells_behind
    (tells_array_member (codes "guards") refl (each_told (IsPlaced package_place) (guard_item detail a package_place) (guards n) (guard_item_told detail a package_place) can.guards))
    (tells_array_member (codes "checks") refl
    (each_told (IsPlaced package_place) (check_item a package_place) (checks n) (λ c is. check_item_told a package_place c can.texts is) can.checks)))
    (rules_told detail a.world.nodes package_place n can.rules)

-- ---- options

pub beside_word : (is_denied : Bool) → IsWord (beside_question is_denied)
beside_word true = refl
beside_word false = refl

option_verdict_told : (is_denied : Bool) (o : Option Denial) → IfSome o IsNear → TellsFacts (option_verdict_members is_denied o)
option_verdict_told is_denied (Some denial) near = denial_told (codes "verdict") (codes "at") denial refl refl near
option_verdict_told is_denied None near = word_told (codes "verdict") (beside_question is_denied) refl (beside_word is_denied)

guard_words : (o : Option Node) → IfSome (option_map condition_words o) IsWord
guard_words None = tt
guard_words (Some g) = words_are_word g

pub deciding_word : (places : List ℕ) (o : Node) (denial : Option Denial) → IfSome (deciding_words places o denial) IsWord
deciding_word places o None = tt
deciding_word places o (Some denial) =
    cond_both (is_among denial.place places) None (option_map condition_words (guard_at denial.place o)) (λ words. IfSome words IsWord) (λ _. tt) (λ _. guard_words (guard_at denial.place o))

told_word : (detail : Detail) (places : List ℕ) (o : Node) (denial : Option Denial) → IfSome (told_words detail places o denial) IsWord
told_word Alone places o denial = deciding_word places o denial
told_word Listed places o denial = tt

behind_first_member : (first said verdict condition : List ℕ) → first ++ said ++ verdict ++ condition ≡ first ++ (said ++ verdict ++ condition)
behind_first_member first said verdict condition = simp append_assoc

option_told : (detail : Detail) (a : Audited) (place : ℕ) (is_denied : Bool) (places : List ℕ) (o : Node) → ShowsTexts a.texts → IsOption a.world place o
    → TellsValue (option_item detail a place is_denied places o)
option_told detail a place is_denied places o shows is =
    let denial = own_denial a.world place o in
    let first = first_member (codes "value") (quoted (decimal (option_value o.op))) in
    let text = shown_member (codes "text") (a.texts (option_text o.op)) in
    let verdict = option_verdict_members is_denied denial in
    let condition = word_if_there (codes "condition") (told_words detail places o denial) in
    subst (λ (l : List ℕ). TellsValue (inner_object l)) (sym (behind_first_member first text verdict condition))
    (tells_inner (codes "value") refl (tells_word (decimal (option_value o.op)) (decimal_word (option_value o.op)))
    (tells_behind (tells_behind (shown_told (codes "text") (a.texts (option_text o.op)) refl (shows (option_text o.op) (two_bytes o.op 2 is.bytes))) (option_verdict_told is_denied denial is.denial))
    (if_word_told (codes "condition") (told_words detail places o denial) refl (told_word detail places o denial))))

each_option : (detail : Detail) (a : Audited) (place : ℕ) (is_denied : Bool) (places : List ℕ) (os : List Node) → ShowsTexts a.texts → AllByRecursion (IsOption a.world place) os
    → TellValues (option_items detail a place is_denied places os)
each_option detail a place is_denied places [] shows all = tell_none
each_option detail a place is_denied places (o ∷ os) shows all =
    tell_more (option_told detail a place is_denied places o shows all.0) (each_option detail a place is_denied (with_place (own_denial a.world place o) places) os shows all.1)

-- ---- on what it depends

pub depends_is_word : (when : When) → IsWord (depends_word when)
depends_is_word AtCommands = refl
depends_is_word AtOpening = refl

decides_is_word : (when : When) → IsWord (decides_key when)
decides_is_word AtCommands = refl
decides_is_word AtOpening = refl

ids_small : AllByRecursion (λ id. id < 2 ^ 64) all_ids
unfolding all_ids
ids_small = each_below 0 65536 (2 ^ 64) (omega arith)

depends_told : (when : When) (ns : List Node) (n : Node) → TellsFacts (depends_member when ns n)
depends_told when ns n =
    tells_array_member (depends_word when) (depends_is_word when) (each_told (λ (id : ℕ). id < 2 ^ 64) decimal (support_ids when ns n) tells_number (some_of (λ (id : ℕ). id < 2 ^ 64) (supports when ns n) all_ids ids_small))

pub asked_bytes : (ns : List Node) → AllByRecursion (λ n. AreBytes n.op) ns → AllByRecursion (λ q. AreBytes q.node.op) (questions ns)
asked_bytes ns are = each_of (λ (n : Node). AreBytes n.op) (λ (q : Asked). AreBytes q.node.op) (asked ns) (filter is_question ns) (λ n is. is) (some_of (λ (n : Node). AreBytes n.op) is_question ns are)

decides_told : (when : When) (ns : List Node) (id : ℕ) → AllByRecursion (λ n. AreBytes n.op) ns → TellsFacts (decides_member when ns id)
decides_told when ns id are =
    tells_array_member (decides_key when) (decides_is_word when)
    (each_told (λ (q : Asked). AreBytes q.node.op) id_of (decided_by when ns id) (λ q is. tells_number (question_id q.node.op) (two_bytes q.node.op 6 is))
    (some_of (λ (q : Asked). AreBytes q.node.op) (is_decided_by when ns id) (questions ns) (asked_bytes ns are)))

dependences_told : (detail : Detail) (ns : List Node) (n : Node) → AllByRecursion (λ m. AreBytes m.op) ns → TellsFacts (dependence_members detail ns n)
dependences_told Alone ns n are =
    tells_behind (tells_behind (depends_told AtCommands ns n) (depends_told AtOpening ns n)) (tells_behind (decides_told AtCommands ns (question_id n.op) are) (decides_told AtOpening ns (question_id n.op) are))
dependences_told Listed ns n are = tells_nothing

-- ---- objects

plain_told : (a : Audited) (package_place : ℕ) (form : Option Node) (n : Node) → CanShow a package_place n → IfSome form (λ f. AreBytes f.op)
    → TellsFacts (plain_members a package_place form (asked a.world.nodes n))
plain_told a package_place form n can within =
    let q = asked a.world.nodes n in
    tells_behind (tells_behind (tells_behind (head_told a package_place form q can.nodes can.texts within can.placed can.field) (kinds_told q can.placed.bytes)) (values_told a package_place n can))
    (verdicts_told a package_place n can)

details_told : (detail : Detail) (a : Audited) (package_place : ℕ) (n : Node) → CanShow a package_place n → TellsFacts (detail_members detail a package_place n)
details_told detail a package_place n can =
    tells_behind
    (tells_behind (conditions_told detail a package_place n can)
    (tells_array_member (codes "options") refl (each_option detail a n.place (is_some (fixed a.world n)) [] (options n) can.texts can.options)))
    (dependences_told detail a.world.nodes n can.nodes)

pub question_told : (detail : Detail) (a : Audited) (package_place : ℕ) (form : Option Node) (n : Node) → CanShow a package_place n → IfSome form (λ f. AreBytes f.op)
    → TellsFacts (question_members detail a package_place form (asked a.world.nodes n))
question_told detail a package_place form n can within = tells_behind (plain_told a package_place form n can within) (details_told detail a package_place n can)

pub question_back : (detail : Detail) (a : Audited) (package_place : ℕ) (form : Option Node) (n : Node) → CanShow a package_place n → IfSome form (λ f. AreBytes f.op)
    → IsReadBack (codes "question") (question_object detail a package_place form (asked a.world.nodes n))
question_back detail a package_place form n can within = read_back (codes "question") refl (question_told detail a package_place form n can within)

pub none_asked_back : (id : ℕ) → IsReadBack (codes "error") (no_question_object id)
none_asked_back id =
    read_back (codes "error") refl (word_told (codes "text") (no_question_words id) refl (word_behind (codes "NO QUESTION ") (decimal id) refl (decimal_word id)))

reach_told : (reach : Reach) → IsNearReach reach → TellsFacts (reach_members reach)
reach_told Open near = word_told (codes "reach") (codes "open") refl refl
reach_told (Hidden denial) near = denial_told (codes "reach") (codes "decider") denial refl refl near
reach_told (Closed denial) near = tells_behind (word_told (codes "reach") (codes "closed") refl refl) (number_member_told (codes "decider") denial.place refl near)
reach_told Below near = word_told (codes "reach") (codes "below") refl refl
reach_told Unnamed near = word_told (codes "reach") (codes "unnamed") refl refl

pub form_back : (a : Audited) (is_reached : ℕ → Bool) (form : Node) → ShowsTexts a.texts → AreBytes form.op → form.place < 2 ^ 64 → IsNearReach (reach_of a.world is_reached form)
    → IsReadBack (codes "form") (form_object a is_reached form)
form_back a is_reached form shows are place near =
    read_back (codes "form") refl
    (tells_behind
    (tells_behind (tells_behind (number_member_told (codes "id") (form_id form.op) refl (two_bytes form.op 2 are)) (number_member_told (codes "at") form.place refl place))
    (shown_told (codes "title") (a.texts (form_title form.op)) refl (shows (form_title form.op) (two_bytes form.op 4 are))))
    (reach_told (reach_of a.world is_reached form) near))

pub guard_back : (a : Audited) (package_place : ℕ) (g : Node) → IsPlaced package_place g → IsReadBack (codes "guard") (guard_object a package_place g)
guard_back a package_place g is =
    read_back (codes "guard") refl
    (tells_behind (word_told (codes "opcode") (opcode_name (number g.op)) refl (opcode_word (number g.op))) (condition_told package_place g (guard_state a g) is (guard_word a g)))

pub rule_back : (package_place : ℕ) (r : Node) → IsPlaced package_place r → IsReadBack (codes "rule") (rule_object package_place r)
rule_back package_place r is =
    read_back (codes "rule") refl (tells_behind (number_member_told (codes "rule") (rule_id r.op) refl (one_byte r.op 2 is.bytes)) (rule_told package_place r is))
