-- The page of a form by the chapters.
use Rattle.std.proofs.Common.{◌≡◌, ◌==◌, ℕ, suc, ◌+◌, ◌-◌, ◌*◌, Bool, true, false, Option, Some, None, List, [], ◌∷◌, ◌++◌, length, map, replicate, refl, sym, ap, subst, ◌∙◌, arith, append_assoc}
use Rattle.std.proofs.Math.Path.{fun_ext}
use Rattle.std.specs.Prelude.{◌&&◌, ◌||◌, not, if◌then◌else◌, Contains, filter, option_map, unwrap_or, is_none, is_some, nat_le, bit_and, codes, decimal, encode_utf8}
use Rattle.std.specs.List.{find, flat_map}
use Rattle.std.specs.Fmt.{signed_decimal}
use Rattle.std.proofs.lemmas.Bool.{cond-true, cond-false, eqb-true, ne_eqb}
use Rattle.unicode_width.specs.Width.{char_width}
use Rattle.browser_rules.specs.Nodes as rows
use Rattle.browser_rules.specs.Opcodes.{field, field_in, number_width, FLAGGED_QUESTION, FORM, ONE_OF, ONE_OF_OPTION, PASSWORD, REF, RESET_BUTTON, STATEMENT_HEADER, SUBTITLE, TEXT}
use Rattle.browser_rules.specs.Pages as chapter
use Rattle.browser_rules.specs.Policy as policy
use Rattle.browser_rules.specs.Questions as questions
use Rattle.browser_rules.specs.Strings.{characters}
use Rattle.browser_rules.specs.Values as values
use Rattle.browser_rules.specs.Words.{right_aligned}
use Rattle.hii_bytes.specs.Faults.{HasNone}
use Rattle.ifr_opcodes.specs.Fields.{numeric_flags, option_text, option_value, question_id, ref_target, statement_prompt, text_second, display_of_flags}
use Rattle.ifr_opcodes.specs.Forest.{Node, below}
use Rattle.ifr_opcodes.specs.Opcode.{number}
use Rattle.ifr_opcodes.specs.Reading.{tree_of}
use Rattle.ifr_opcodes.specs.declared.codes.TheConstants as numbers
use Rattle.ifr_opcodes.specs.declared.numbers.Display.TheVariants.{Signed, Unsigned, Hexadecimal}
use Rattle.ifr_expr.specs.Values.{Value, undefined}
use Rattle.ifr_nodes.specs.Nodes as node
use Rattle.ifr_nodes.specs.Nodes.{nodes_of}
use Rattle.ifr_nodes.proofs.ViewLemmas.{below_within, further}
use Rattle.hii_varstore.specs.StoreNodes.{layout_of}
use Rattle.hii_varstore.specs.Stores.{StoreMap, shape_of}
use Rattle.hii_values.specs.Answers.{answer_in}
use Rattle.hii_values.specs.FieldTypes.{FieldType, size_of_type}
use Rattle.hii_values.specs.Items.{items_in}
use Rattle.hii_values.specs.Types.{element_width, type_of}
use Rattle.hii_questions.specs.Answers.{value_of_bytes, value_of_field}
use Rattle.hii_questions.specs.Changes.{field_bytes}
use Rattle.hii_questions.specs.Faults.{IsQuestionFault}
use Rattle.hii_questions.specs.Fields.{Field, field_of}
use Rattle.hii_questions.proofs.FieldLemmas.{passing}
use Rattle.guard_policy.specs.Policy.{hidden, fixed}
use Rattle.guard_policy.specs.World.{World}
use Rattle.guard_policy.specs.declared.denial.Denial.{Denial}
use Rattle.form_page.specs.Pages.{id_text, listed_statements, mark_of, page_text, row_of, row_text, rows_from}
use Rattle.form_page.specs.RowValues.{checkbox_text, choice, choice_text, hex_digits, later_text, list_text, number_text, option_with, password_text, question_shown, reference_text, stored_shown, value_shown}
use Rattle.form_page.specs.Texts.{columns, columns_or, cut_to, in_columns, utf8, width}
use Rattle.rules_laws.specs.laws.Opcodes.{value_for}
use Rattle.rules_laws.specs.laws.Pages.{EachAnswersAlike}
use Rattle.rules_laws.specs.laws.Policy.{AreAlike}
use Rattle.rules_laws.specs.Denials.{denial_for}
use Rattle.rules_laws.specs.laws.Stores.{stores_for}
use Rattle.rules_laws.proofs.NodeLemmas.{is_question_same, options_same, statements_same}
use Rattle.rules_laws.proofs.PolicyLemmas.{fixed_same, hidden_same, same_kept, same_find, none_same}
use Rattle.rules_laws.proofs.QuestionLemmas.{answer_same, element_same, value_same, whole_there}

-- ---- columns

-- Those of the chapters that cannot be named are said again here.
abbrev chapter_columns : ℕ → List ℕ → List ℕ
chapter_columns room [] = replicate room 32
chapter_columns room (c ∷ text) =
    let columns = unwrap_or (char_width false c) 0 in
    if nat_le columns room then encode_utf8 c ++ chapter_columns (room - columns) text else replicate room 32

wide_same : (o : Option ℕ) → unwrap_or o 0 ≡ columns_or o
wide_same None = refl
wide_same (Some n) = refl

-- a text behind its first character
one_more : (room wide rest : ℕ) (first cut : List ℕ) → first ++ (cut ++ replicate (room - wide - rest) 32) ≡ (first ++ cut) ++ replicate (room - (wide + rest)) 32
one_more room wide rest first cut =
    let left : room - wide - rest ≡ room - (wide + rest) = omega arith in
    ap (λ (n : ℕ). first ++ (cut ++ replicate n 32)) left ∙ sym (append_assoc first cut (replicate (room - (wide + rest)) 32))

no_more : (room : ℕ) → replicate {A = ℕ} room 32 ≡ replicate (room - 0) 32
no_more room =
    let all : room ≡ room - 0 = omega arith in
    ap (λ (n : ℕ). replicate {A = ℕ} n 32) all

with_rest : (room wide : ℕ) (first rest cut : List ℕ) → rest ≡ utf8 cut ++ replicate (room - wide - width cut) 32 → first ++ rest ≡ (first ++ utf8 cut) ++ replicate (room - (wide + width cut)) 32
with_rest room wide first rest cut same = ap (λ (its : List ℕ). first ++ its) same ∙ one_more room wide (width cut) first (utf8 cut)

by_room : (b : Bool) (room c : ℕ) (text rest : List ℕ) → rest ≡ in_columns (room - columns c) text → (if b then encode_utf8 c ++ rest else replicate room 32)
    ≡ utf8 (if b then c ∷ cut_to (room - columns c) text else []) ++ replicate (room - width (if b then c ∷ cut_to (room - columns c) text else [])) 32
by_room true room c text rest same = with_rest room (columns c) (encode_utf8 c) rest (cut_to (room - columns c) text) same
by_room false room c text rest same = no_more room

columns_same : (room : ℕ) (text : List ℕ) → chapter_columns room text ≡ in_columns room text
columns_same room [] = no_more room
columns_same room (c ∷ text) =
    ap (λ (n : ℕ). if nat_le n room then encode_utf8 c ++ chapter_columns (room - n) text else replicate room 32) (wide_same (char_width false c))
    ∙ by_room (nat_le (columns c) room) room c text (chapter_columns (room - columns c) text) (columns_same (room - columns c) text)

-- ---- rows

inside : (bytes : List ℕ) (test : Node → Bool) (n m : Node) → Contains (nodes_of bytes) n → Contains (filter test (below n)) m → Contains (nodes_of bytes) m
inside bytes test n m within there = below_within (tree_of bytes) 4 [] n m within (passing test (below n) m there).0

some_same : (o : Option Denial) → is_some (option_map denial_for o) ≡ is_some o
some_same None = refl
some_same (Some d) = refl

seen_same : (bytes : List ℕ) (w : policy.World) (v : World) (n : Node) → AreAlike bytes w v → Contains (nodes_of bytes) n → is_none (policy.hidden_by w n) ≡ is_none (hidden v n)
seen_same bytes w v n alike within = ap (λ (d : Option policy.Denial). is_none d) (hidden_same bytes w v n alike within) ∙ none_same (hidden v n)

pub rows_same : (bytes : List ℕ) (w : policy.World) (v : World) (form : Node) → AreAlike bytes w v → Contains (nodes_of bytes) form → chapter.rows_of w form ≡ listed_statements v form
rows_same bytes w v form alike within =
    ap (λ (ns : List Node). filter (λ n. is_none (policy.hidden_by w n)) ns) (statements_same form)
    ∙ same_kept (λ n. is_none (policy.hidden_by w n)) (λ n. is_none (hidden v n)) (node.statements form) (λ n there. seen_same bytes w v n alike (inside bytes node.is_statement form n within there))

-- ---- what is shown of a value

abbrev chapter_number : ℕ → ℕ → List ℕ
chapter_number flags n =
    if bit_and flags 0x30 == 0 then signed_decimal (questions.number_of_bits true (number_width flags) n)
    else if bit_and flags 0x30 == 0x20 then codes "0x" ++ hex_digits (2 * number_width flags) n
    else decimal n

abbrev chapter_choice : (ℕ → List ℕ) → policy.World → Node → ℕ → List ℕ
chapter_choice texts w q value =
    let seen = find (λ o. questions.option_value o == value && is_none (policy.hidden_by w o)) (rows.options q) in
    unwrap_or (option_map (λ o. texts (field ONE_OF_OPTION "Option" o.op)) seen) (codes "?")

abbrev chapter_commas : List (List ℕ) → List ℕ
chapter_commas [] = []
chapter_commas (text ∷ texts) = text ++ flat_map (λ t. codes ", " ++ t) texts

abbrev chapter_answer : (ℕ → List ℕ) → policy.World → Node → values.Value → List ℕ
chapter_answer texts w q (values.boolean b) = codes (if b then "x" else " ")
chapter_answer texts w q (values.natural n) =
    if rows.is ONE_OF q then codes "<" ++ chapter_choice texts w q n ++ codes ">"
    else chapter_number (field_in FLAGGED_QUESTION "Flags" q.op) n
chapter_answer texts w q (values.text bytes) =
    if not (rows.is PASSWORD q) then characters bytes else if length bytes == 0 then [] else codes "****"
chapter_answer texts w q (values.buffer bytes) = chapter_commas (map (chapter_choice texts w q) (questions.items (questions.element_width q) bytes))
chapter_answer texts w q _ = []

abbrev chapter_value : (ℕ → List ℕ) → policy.World → Node → List ℕ
chapter_value texts w n =
    if rows.is TEXT n then texts (field TEXT "TextTwo" n.op)
    else if rows.is RESET_BUTTON n then codes "reset"
    else if rows.is REF n then codes "->" ++ unwrap_or (option_map decimal (rows.ref_target n)) []
    else if rows.is_question n then chapter_answer texts w n (questions.answer_of w.nodes w.stores n)
    else []

flag_same : (b : Bool) → codes (if b then "x" else " ") ≡ checkbox_text b
flag_same true = refl
flag_same false = refl

number_by : (b c : Bool) (wide n : ℕ) → (if b then signed_decimal (questions.number_of_bits true wide n) else if c then codes "0x" ++ hex_digits (2 * wide) n else decimal n)
    ≡ number_text (if b then Signed else (if c then Hexadecimal else Unsigned)) wide n
number_by true c wide n = refl
number_by false true wide n = refl
number_by false false wide n = refl

number_same : (flags n : ℕ) → chapter_number flags n ≡ number_text (display_of_flags flags) (number_width flags) n
number_same flags n =
    number_by (bit_and flags 0x30 == 0) (bit_and flags 0x30 == 0x20) (number_width flags) n

text_of_found : (texts : ℕ → List ℕ) (o : Option Node) → unwrap_or (option_map (λ (n : Node). texts (option_text n.op)) o) (codes "?") ≡ choice_text (option_map (λ (n : Node). texts (option_text n.op)) o)
text_of_found texts None = refl
text_of_found texts (Some n) = refl

abbrev has_value : policy.World → ℕ → Node → Bool
has_value w value o = questions.option_value o == value && is_none (policy.hidden_by w o)

choice_same : (texts : ℕ → List ℕ) (bytes : List ℕ) (w : policy.World) (v : World) (q : Node) → AreAlike bytes w v → Contains (nodes_of bytes) q → node.is_question q ≡ true
    → (value : ℕ) → chapter_choice texts w q value ≡ choice_text (choice texts v q value)
choice_same texts bytes w v q alike within is value =
    ap (λ (found : Option Node). unwrap_or (option_map (λ (o : Node). texts (option_text o.op)) found) (codes "?"))
    (same_find (has_value w value) (λ (o : Node). (option_value o.op == value) && is_none (hidden v o)) (rows.options q)
    (λ o there. ap (λ (n : ℕ). (n == value) && is_none (policy.hidden_by w o)) (value_same o) ∙ ap (λ (b : Bool). (option_value o.op == value) && b) (seen_same bytes w v o alike (option_within o there)))
    ∙ ap (λ (os : List Node). option_with v os value) (options_same q is))
    ∙ text_of_found texts (option_with v (node.options q) value)
  where
    option_within : (o : Node) → Contains (rows.options q) o → Contains (nodes_of bytes) o
    option_within o there = below_within (tree_of bytes) 4 [] q o within (passing _ (below q) o there).0

later_same : (texts : ℕ → List ℕ) (w : policy.World) (v : World) (q : Node) → ((value : ℕ) → chapter_choice texts w q value ≡ choice_text (choice texts v q value))
    → (ns : List ℕ) → flat_map (λ (t : List ℕ). codes ", " ++ t) (map (chapter_choice texts w q) ns) ≡ later_text (map (choice texts v q) ns)
later_same texts w v q same [] = refl
later_same texts w v q same (n ∷ ns) =
    ap (λ (t : List ℕ). (codes ", " ++ t) ++ flat_map (λ (t : List ℕ). codes ", " ++ t) (map (chapter_choice texts w q) ns)) (same n)
    ∙ ap (λ (rest : List ℕ). (codes ", " ++ choice_text (choice texts v q n)) ++ rest) (later_same texts w v q same ns)

list_same : (texts : ℕ → List ℕ) (w : policy.World) (v : World) (q : Node) → ((value : ℕ) → chapter_choice texts w q value ≡ choice_text (choice texts v q value))
    → (ns : List ℕ) → chapter_commas (map (chapter_choice texts w q) ns) ≡ list_text (map (choice texts v q) ns)
list_same texts w v q same [] = refl
list_same texts w v q same (n ∷ ns) =
    ap (λ (t : List ℕ). t ++ flat_map (λ (t : List ℕ). codes ", " ++ t) (map (chapter_choice texts w q) ns)) (same n)
    ∙ ap (λ (rest : List ℕ). choice_text (choice texts v q n) ++ rest) (later_same texts w v q same ns)

password_same : (bytes : List ℕ) → (if length bytes == 0 then [] else codes "****") ≡ password_text bytes
password_same [] = refl
password_same (b ∷ bytes) = cond-false (length (b ∷ bytes) == 0) [] (codes "****") (ne_eqb (suc (length bytes)) 0 (λ e. omega arith))

-- What a question of a type shows of what it answers is this.
record Shows (texts : ℕ → List ℕ) (w : policy.World) (q : Node) (held : Option (List ℕ)) (t : Option FieldType) (f : Value → List ℕ) : Type 0 where
  shows : chapter_answer texts w q (value_for (value_of_bytes t held)) ≡ f (value_of_bytes t held)

by_test : (texts : ℕ → List ℕ) (w : policy.World) (q : Node) (held : Option (List ℕ)) (b : Bool) (t u : Option FieldType) (f g : Value → List ℕ) → (b ≡ true → Shows texts w q held t f) → (b ≡ false → Shows texts w q held u g)
    → Shows texts w q held (if b then t else u) (λ value. if b then f value else g value)
by_test texts w q held true t u f g here there = record { shows = (here refl).shows }
by_test texts w q held false t u f g here there = record { shows = (there refl).shows }

of_type : (texts : ℕ → List ℕ) (w : policy.World) (q : Node) (held : Option (List ℕ)) (t : FieldType) (f : Value → List ℕ) → f undefined ≡ []
    → ((bytes : List ℕ) → chapter_answer texts w q (value_for (answer_in t bytes)) ≡ f (answer_in t bytes)) → Shows texts w q held (Some t) f
of_type texts w q None t f none each = record { shows = sym none }
of_type texts w q (Some bytes) t f none each = record { shows = by (length bytes == size_of_type t) }
  where
    by : (b : Bool) → chapter_answer texts w q (value_for (if b then answer_in t bytes else undefined)) ≡ f (if b then answer_in t bytes else undefined)
    by true = each bytes
    by false = sym none

other_code : (n code other : ℕ) → (n == code) ≡ true → (code == other) ≡ false → (n == other) ≡ false
other_code n code other is apart = ap (λ (c : ℕ). c == other) (eqb-true n code is) ∙ apart

stored_same : (texts : ℕ → List ℕ) (bytes : List ℕ) (w : policy.World) (v : World) (q : Node) (held : Option (List ℕ)) → AreAlike bytes w v → Contains (nodes_of bytes) q → node.is_question q ≡ true
    → Shows texts w q held (type_of q) (stored_shown texts v q)
stored_same texts bytes w v q held alike within is =
    by_test texts w q held (number q.op == numbers.CHECKBOX) _ _ _ _
    (λ here. of_type texts w q held _ _ refl (λ bs. flag_same _)) (λ other.
    by_test texts w q held (number q.op == numbers.NUMERIC) _ _ _ _
    (λ here. of_type texts w q held _ _ refl (λ bs. cond-false (rows.is ONE_OF q) _ _ (other_code (number q.op) numbers.NUMERIC numbers.ONE_OF here refl) ∙ number_same (numeric_flags q.op) _)) (λ other.
    by_test texts w q held (number q.op == numbers.ONE_OF) _ _ _ _
    (λ here. of_type texts w q held _ _ refl (λ bs. cond-true (rows.is ONE_OF q) _ _ here ∙ ap (λ (t : List ℕ). codes "<" ++ t ++ codes ">") (choice_same texts bytes w v q alike within is _))) (λ other.
    by_test texts w q held (number q.op == numbers.STRING) _ _ _ _
    (λ here. of_type texts w q held _ _ refl (λ bs. cond-true (not (rows.is PASSWORD q)) _ _ (ap not (other_code (number q.op) numbers.STRING numbers.PASSWORD here refl)))) (λ other.
    by_test texts w q held (number q.op == numbers.PASSWORD) _ _ _ _
    (λ here. of_type texts w q held _ _ refl (λ bs. cond-false (not (rows.is PASSWORD q)) _ _ (ap not here) ∙ password_same _)) (λ other.
    by_test texts w q held (number q.op == numbers.ORDERED_LIST) _ _ _ _
    (λ here. of_type texts w q held _ _ refl (λ bs. ap (λ (wide : ℕ). chapter_commas (map (chapter_choice texts w q) (items_in wide bs))) (element_same q is) ∙ list_same texts w v q (choice_same texts bytes w v q alike within is) (items_in (element_width q) bs)))
    (λ other. record { shows = refl }))))))

nothing_held : (t : Option FieldType) → value_of_bytes t None ≡ undefined
nothing_held None = refl
nothing_held (Some t) = refl

field_shown : (texts : ℕ → List ℕ) (bytes : List ℕ) (w : policy.World) (v : World) (held : StoreMap) (q : Node) → AreAlike bytes w v → Contains (nodes_of bytes) q → node.is_question q ≡ true
    → (f : Option Field) → chapter_answer texts w q (value_for (value_of_field held q f)) ≡ stored_shown texts v q (value_of_field held q f)
field_shown texts bytes w v held q alike within is None =
    subst (λ (value : Value). chapter_answer texts w q (value_for value) ≡ stored_shown texts v q value) (nothing_held (type_of q)) (stored_same texts bytes w v q None alike within is).shows
field_shown texts bytes w v held q alike within is (Some f) = (stored_same texts bytes w v q (field_bytes held (Some f)) alike within is).shows

asked_same : (texts : ℕ → List ℕ) (bytes : List ℕ) (w : policy.World) (v : World) (held : StoreMap) (n : Node) → AreAlike bytes w v → EachAnswersAlike (nodes_of bytes) w.stores held → Contains (nodes_of bytes) n
    → (if rows.is_question n then chapter_answer texts w n (questions.answer_of w.nodes w.stores n) else []) ≡ question_shown texts v held n
asked_same texts bytes w v held n alike answers within =
    ap (λ (b : Bool). if b then chapter_answer texts w n (questions.answer_of w.nodes w.stores n) else []) (is_question_same n)
    ∙ by (node.is_question n) refl
  where
    by : (b : Bool) → node.is_question n ≡ b → (if b then chapter_answer texts w n (questions.answer_of w.nodes w.stores n) else []) ≡ (if b then stored_shown texts v n (value_of_field held n (field_of v.nodes n)) else [])
    by true is =
        ap (λ (ns : List Node). chapter_answer texts w n (questions.answer_of ns w.stores n)) alike.nodes
        ∙ ap (chapter_answer texts w n) (answers n within is)
        ∙ field_shown texts bytes w v held n alike within is (field_of (nodes_of bytes) n)
        ∙ ap (λ (ns : List Node). stored_shown texts v n (value_of_field held n (field_of ns n))) (sym alike.same_nodes)
    by false is = refl

reference_same : (o : Option ℕ) → (codes "->" ++ unwrap_or (option_map decimal o) []) ≡ reference_text o
reference_same None = refl
reference_same (Some id) = refl

of_kinds : (a b c : Bool) (text reset x y x' y' : List ℕ) → x ≡ x' → y ≡ y' → (if a then text else if b then reset else if c then x else y) ≡ (if a then text else if b then reset else if c then x' else y')
of_kinds a b c text reset x y x' y' same other = rw (same, other) refl

shown_same : (texts : ℕ → List ℕ) (bytes : List ℕ) (w : policy.World) (v : World) (held : StoreMap) (n : Node) → AreAlike bytes w v → EachAnswersAlike (nodes_of bytes) w.stores held → Contains (nodes_of bytes) n
    → chapter_value texts w n ≡ value_shown texts v held n
shown_same texts bytes w v held n alike answers within =
    of_kinds (number n.op == numbers.TEXT) (number n.op == numbers.RESET_BUTTON) (number n.op == numbers.REF) (texts (text_second n.op)) (codes "reset") _ _ _ _
    (reference_same (ref_target n.op)) (asked_same texts bytes w v held n alike answers within)

-- ---- the text of a row

abbrev chapter_mark : policy.World → Node → List ℕ
chapter_mark w n = codes (if rows.is SUBTITLE n || rows.is TEXT n then " " else if is_some (policy.fixed_by w n) then "!" else "*")

abbrev chapter_row : (ℕ → List ℕ) → policy.World → ℕ → Node → List ℕ
chapter_row texts w number n =
    right_aligned 3 (decimal number) ++ codes " " ++ chapter_mark w n ++ codes " "
    ++ right_aligned 5 (if rows.is_question n then decimal (rows.question_id n) else codes "-") ++ codes " "
    ++ chapter_columns 24 (texts (field_in STATEMENT_HEADER "Prompt" n.op))
    ++ codes " [" ++ chapter.in_utf8 (chapter_value texts w n) ++ codes "]\n"

abbrev chapter_rows : (ℕ → List ℕ) → policy.World → ℕ → List Node → List ℕ
chapter_rows texts w number [] = []
chapter_rows texts w number (n ∷ ns) = chapter_row texts w number n ++ chapter_rows texts w (number + 1) ns

mark_by : (a b : Bool) → codes (if a then " " else if b then "!" else "*") ≡ (if a then 32 else if b then 33 else 42) ∷ []
mark_by true b = refl
mark_by false true = refl
mark_by false false = refl

mark_same : (bytes : List ℕ) (w : policy.World) (v : World) (n : Node) → AreAlike bytes w v → Contains (nodes_of bytes) n → chapter_mark w n ≡ mark_of n.op (is_some (fixed v n)) ∷ []
mark_same bytes w v n alike within =
    mark_by (number n.op == numbers.SUBTITLE || number n.op == numbers.TEXT) (is_some (policy.fixed_by w n))
    ∙ ap (λ (b : Bool). mark_of n.op b ∷ []) (ap (λ (d : Option policy.Denial). is_some d) (fixed_same bytes w v n alike within) ∙ some_same (fixed v n))

id_by : (b : Bool) (id : ℕ) → right_aligned 5 (if b then decimal id else codes "-") ≡ id_text (if b then Some id else None)
id_by true id = refl
id_by false id = refl

id_same : (n : Node) → right_aligned 5 (if rows.is_question n then decimal (rows.question_id n) else codes "-") ≡ id_text (if node.is_question n then Some (question_id n.op) else None)
id_same n = ap (λ (b : Bool). right_aligned 5 (if b then decimal (question_id n.op) else codes "-")) (is_question_same n) ∙ id_by (node.is_question n) (question_id n.op)

row_by : (number mark id prompt value mark' id' prompt' value' : List ℕ) → mark ≡ mark' → id ≡ id' → prompt ≡ prompt' → value ≡ value'
    → (number ++ codes " " ++ mark ++ codes " " ++ id ++ codes " " ++ prompt ++ codes " [" ++ utf8 value ++ codes "]\n")
    ≡ (number ++ codes " " ++ mark' ++ codes " " ++ id' ++ codes " " ++ prompt' ++ codes " [" ++ utf8 value' ++ codes "]\n")
row_by number mark id prompt value mark' id' prompt' value' a b c d = rw (a, b, c, d) refl

row_same : (texts : ℕ → List ℕ) (bytes : List ℕ) (w : policy.World) (v : World) (held : StoreMap) (number : ℕ) (n : Node) → AreAlike bytes w v → EachAnswersAlike (nodes_of bytes) w.stores held → Contains (nodes_of bytes) n
    → chapter_row texts w number n ≡ row_text (row_of texts v held number n)
row_same texts bytes w v held number n alike answers within =
    row_by (right_aligned 3 (decimal number)) _ _ _ _ _ _ _ _ (mark_same bytes w v n alike within) (id_same n) (columns_same 24 (texts (statement_prompt n.op))) (shown_same texts bytes w v held n alike answers within)

lines_same : (texts : ℕ → List ℕ) (bytes : List ℕ) (w : policy.World) (v : World) (held : StoreMap) → AreAlike bytes w v → EachAnswersAlike (nodes_of bytes) w.stores held
    → (number : ℕ) (ns : List Node) → ((n : Node) → Contains ns n → Contains (nodes_of bytes) n) → chapter_rows texts w number ns ≡ flat_map row_text (rows_from texts v held number ns)
lines_same texts bytes w v held alike answers number [] within = refl
lines_same texts bytes w v held alike answers number (n ∷ ns) within =
    ap (λ (line : List ℕ). line ++ chapter_rows texts w (number + 1) ns) (row_same texts bytes w v held number n alike answers (within n (0, omega arith, refl)))
    ∙ ap (λ (rest : List ℕ). row_text (row_of texts v held number n) ++ rest) (lines_same texts bytes w v held alike answers (number + 1) ns (λ m there. within m (further n ns m there)))

-- ---- the page

abbrev title : (ℕ → List ℕ) → Node → List ℕ
title texts form = codes "FORM " ++ decimal (field FORM "FormId" form.op) ++ codes " " ++ utf8 (texts (field FORM "FormTitle" form.op)) ++ codes "\n"

of_texts : (texts : ℕ → List ℕ) (bytes : List ℕ) (w : policy.World) (v : World) (held : StoreMap) (form : Node) → AreAlike bytes w v → EachAnswersAlike (nodes_of bytes) w.stores held → Contains (nodes_of bytes) form
    → chapter.page texts w form ≡ page_text texts v held form
of_texts texts bytes w v held form alike answers within =
    ap (λ (ns : List Node). title texts form ++ chapter_rows texts w 1 ns) (rows_same bytes w v form alike within)
    ∙ ap (λ (lines : List ℕ). title texts form ++ lines)
    (lines_same texts bytes w v held alike answers 1 (listed_statements v form)
    (λ n there. inside bytes node.is_statement form n within (passing (λ (m : Node). is_none (hidden v m)) (node.statements form) n there).0))

pub page_same : (texts shown : ℕ → List ℕ) (bytes : List ℕ) (w : policy.World) (v : World) (held : StoreMap) (form : Node) → ((id : ℕ) → texts id ≡ shown id) → AreAlike bytes w v
    → EachAnswersAlike (nodes_of bytes) w.stores held → Contains (nodes_of bytes) form → chapter.page texts w form ≡ page_text shown v held form
page_same texts shown bytes w v held form same alike answers within =
    of_texts texts bytes w v held form alike answers within ∙ ap (λ (its : ℕ → List ℕ). page_text its v held form) (fun_ext same)

pub each_answers : (ns : List Node) (held : StoreMap) → HasNone (IsQuestionFault ns) → shape_of held ≡ layout_of ns → EachAnswersAlike ns (stores_for held) held
each_answers ns held none shape = λ q within is. answer_same ns held q (whole_there ns held q none shape within is)
