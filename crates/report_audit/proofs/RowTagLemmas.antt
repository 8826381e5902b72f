-- The tags of a row do not depend on what texts say.
use Rattle.std.proofs.Common.{◌≡◌, ℕ, Bool, true, false, Option, Some, None, List, [], ◌∷◌, ◌++◌, codes, map, refl, subst}
use Rattle.std.specs.Prelude.{◌==◌, bytes_eq, decimal, if◌then◌else◌, is_some}
use Rattle.ifr_opcodes.specs.declared.codes.TheConstants.{CHECKBOX, ONE_OF, REF}
use Rattle.ifr_opcodes.specs.Fields.{form_title, option_text, option_value, question_id, ref_target, statement_help, statement_prompt}
use Rattle.ifr_opcodes.specs.Forest.{Node}
use Rattle.ifr_opcodes.specs.Opcode.{number}
use Rattle.ifr_expr.specs.Values.{Value, undefined, boolean, natural, text, buffer}
use Rattle.ifr_nodes.specs.NodeExpressions.{message}
use Rattle.ifr_nodes.specs.Nodes.{options}
use Rattle.ifr_nodes.specs.ReferenceFaults.{form_with}
use Rattle.hii_questions.specs.Answers.{value_of_field}
use Rattle.hii_questions.specs.Fields.{Asked, Field, asked, question_with}
use Rattle.form_page.specs.RowValues.{choice}
use Rattle.audit_html.specs.Html.{html_text, isolated, link_to, title_text}
use Rattle.audit_text.specs.Words.{opcode_name}
use Rattle.question_audit.specs.Audited.{Audited}
use Rattle.question_audit.specs.QuestionLines.{has_no_text, is_undefined, told_value, unguarded}
use Rattle.question_audit.specs.ScriptValues.{behind, default_taken, script_value, stored_value}
use Rattle.question_audit.specs.ConditionFacts.{checks, condition_words, state_text, value_at}
use Rattle.question_audit.specs.Dependences.{decided_by, support_ids, when_text}
use Rattle.question_audit.specs.OptionFacts.{own_denial}
use Rattle.question_audit.specs.declared.when.When.{When}
use Rattle.question_audit.specs.declared.when.When.TheVariants.{AtCommands, AtOpening}
use Rattle.question_rows.specs.Conditions.{check_part, check_stated, checks_part, guards_part, is_in_force, outside_part, rules_part, stated}
use Rattle.question_rows.specs.Defaults.{behind_number, choice_behind, default_part, default_words, option_behind, script_default, taken_default}
use Rattle.question_rows.specs.Dependences.{answer_words, decided_item, decided_items, decides_part, dependence_of, dependence_part, depends_part, depends_start}
use Rattle.question_rows.specs.Elements.{dim, html_line, isolated_line, small}
use Rattle.question_rows.specs.Leads.{form_part, led_part}
use Rattle.question_rows.specs.Limits.{limits_part}
use Rattle.question_rows.specs.Links.{question_link}
use Rattle.question_rows.specs.Options.{option_item, option_start, options_part}
use Rattle.question_rows.specs.laws.Plain.{are_plain}
use Rattle.question_rows.specs.Rows.{reason_cell, row, row_head}
use Rattle.question_rows.specs.Shown.{on_or_off, shown_words, told_words, value_part}
use Rattle.question_rows.specs.Subjects.{help_part, opcode_part, prompt_part, subject_cell}
use Rattle.question_rows.specs.Values.{field_part, value_cell}
use Rattle.question_rows.proofs.PlainLemmas.{line_plain, text_plain}
use Rattle.report_audit.specs.laws.Tags.{AreEmptyAlike, with_texts}
use Rattle.report_audit.proofs.EmptyLemmas.{EmptyAlike, empty_shown}
use Rattle.report_audit.proofs.TagLemmas.{◌⋈◌, Alike, AreAlike, Closes, alike_both, alike_each, alike_if, alike_listed, alike_map, alike_plain, alike_same, before_it, begun_behind, behind_it, closes_both, closes_plain}

-- ---- elements

opened : Closes (codes "<bdi>")
unfolding begun_behind
opened = closes_both refl refl

pub alike_isolated : (xs ys : List ℕ) → Alike (isolated xs) (isolated ys)
alike_isolated xs ys = before_it (codes "</bdi>") (alike_plain (html_text xs) (html_text ys) opened (text_plain xs) (text_plain ys))

alike_line : (xs ys : List ℕ) → Alike (isolated_line xs) (isolated_line ys)
alike_line xs ys = before_it (codes "</bdi>") (alike_plain (html_line xs) (html_line ys) opened (line_plain xs) (line_plain ys))

pub alike_title : (xs ys : List ℕ) → Alike (title_text xs) (title_text ys)
alike_title [] [] = alike_same (title_text [])
alike_title [] (y ∷ ys) = alike_isolated (codes "(no title)") (y ∷ ys)
alike_title (x ∷ xs) [] = alike_isolated (x ∷ xs) (codes "(no title)")
alike_title (x ∷ xs) (y ∷ ys) = alike_isolated (x ∷ xs) (y ∷ ys)

alike_small : {xs ys : List ℕ} → Alike xs ys → Alike (small xs) (small ys)
alike_small p = before_it (codes "</p>") (behind_it (codes "<p class=\"small\">") p)

alike_dim : {xs ys : List ℕ} → Alike xs ys → Alike (dim xs) (dim ys)
alike_dim p = before_it (codes "</p>") (behind_it (codes "<p class=\"small dim\">") p)

-- where texts are empty alike
alike_where : {xs ys cs ds es fs : List ℕ} → EmptyAlike xs ys → Alike cs ds → Alike es fs → Alike (if has_no_text xs then cs else es) (if has_no_text ys then ds else fs)
alike_where {xs} {ys} {cs} {ds} {es} {fs} e p q = subst (λ (b : Bool). Alike (if has_no_text xs then cs else es) (if b then ds else fs)) e.same (alike_if (has_no_text xs) p q)

-- ---- what a question is

alike_prompt : {xs ys : List ℕ} → EmptyAlike xs ys → Alike (prompt_part xs) (prompt_part ys)
alike_prompt {xs} {ys} e =
    before_it (codes "</p>") (behind_it (codes "<p class=\"prompt\">") (alike_where e (alike_same (codes "<span class=\"dim\">no prompt</span>")) (alike_isolated xs ys)))

alike_help : {xs ys : List ℕ} → EmptyAlike xs ys → Alike (help_part xs) (help_part ys)
alike_help {xs} {ys} e = alike_where e (alike_same []) (alike_dim (alike_isolated xs ys))

-- what stands of the option of a value is plain
chosen_plain : (its : Option (List ℕ)) → are_plain (behind_number its) ≡ true
chosen_plain None = refl
chosen_plain (Some its) = text_plain its

choice_plain : (a : Audited) (n : Node) (its : Value) → are_plain (choice_behind a n its) ≡ true
choice_plain a n undefined = refl
choice_plain a n (boolean b) = refl
choice_plain a n (natural m) = chosen_plain (choice a.texts (unguarded a.world) n m)
choice_plain a n (text units) = refl
choice_plain a n (buffer bytes) = refl

plain_if : (b : Bool) (xs : List ℕ) → are_plain xs ≡ true → are_plain (if b then xs else []) ≡ true
plain_if true xs e = e
plain_if false xs e = refl

option_plain : (a : Audited) (n : Node) (its : Value) → are_plain (option_behind a n its) ≡ true
option_plain a n its = plain_if (number n.op == ONE_OF) (choice_behind a n its) (choice_plain a n its)

module _ (a : Audited) (others : ℕ → List ℕ) (alike : AreEmptyAlike a.texts others) where
  abbrev other : Audited
  other = with_texts a others

  empty_at : (id : ℕ) → EmptyAlike (a.texts id) (others id)
  empty_at id = record { same = alike id }

  at_subject : (n : Node) → Alike (subject_cell a n) (subject_cell other n)
  at_subject n = alike_prompt (empty_at (statement_prompt n.op)) ⋈ alike_help (empty_at (statement_help n.op)) ⋈ alike_same (opcode_part n.op)

  -- ---- its value

  at_told : (n : Node) → Alike (told_words a n) (told_words other n)
  at_told n = alike_where (empty_shown a.texts others alike (unguarded a.world) a.stores n) (alike_same (codes "<span class=\"dim\">empty</span>")) (alike_line (told_value a n) (told_value other n))

  at_shown : (q : Asked) → Alike (shown_words a q) (shown_words other q)
  at_shown q = alike_if (number q.node.op == CHECKBOX) (alike_same (on_or_off (value_of_field a.stores q.node q.field))) (at_told q.node)

  at_value : (q : Asked) (field : Option Field) → Alike (value_part a q field) (value_part other q field)
  at_value q None = alike_same []
  at_value q (Some field) = before_it (codes "</p>") (behind_it (codes "<p class=\"value\">") (at_shown q))

  at_default_words : (n : Node) (its : Value) (script : List ℕ) → Alike (default_words a n its script) (default_words other n its script)
  at_default_words n its script =
      alike_if (number n.op == CHECKBOX) (alike_same (on_or_off its))
      (before_it (codes "</bdi>") (alike_plain (option_behind a n its) (option_behind other n its) (closes_plain (html_line script) opened (line_plain script)) (option_plain a n its) (option_plain other n its)))

  at_script : (n : Node) (stored : List ℕ) (its : Value) (script : Option (List ℕ)) → Alike (script_default a n stored its script) (script_default other n stored its script)
  at_script n stored its None = alike_same []
  at_script n stored its (Some script) = alike_if (bytes_eq script stored) (alike_same []) (alike_small (behind_it (codes "default ") (at_default_words n its script)))

  at_taken : (n : Node) (stored : List ℕ) (its : Option Value) → Alike (taken_default a n stored its) (taken_default other n stored its)
  at_taken n stored None = alike_same []
  at_taken n stored (Some its) = at_script n stored its (script_value n its)

  at_default : (q : Asked) → Alike (default_part a q) (default_part other q)
  at_default q = at_taken q.node (behind [] (stored_value a.stores q)) (default_taken a q 0)

  at_option : (place : ℕ) (o : Node) → Alike (option_item a place o) (option_item other place o)
  at_option place o =
      before_it (codes "</span>") (behind_it (option_start (is_some (own_denial a.world place o)) ++ decimal (option_value o.op) ++ codes " ") (alike_isolated (a.texts (option_text o.op)) (others (option_text o.op))))

  at_options : (n : Node) → Alike (options_part a n) (options_part other n)
  at_options n = alike_listed (codes "<div class=\"small dim\">") (codes "<br>") (codes "</div>") (map (option_item a n.place) (options n)) (map (option_item other n.place) (options n))
      (alike_map (option_item a n.place) (option_item other n.place) (at_option n.place) (options n))

  at_form : (id : ℕ) (form : Option Node) → Alike (form_part a id form) (form_part other id form)
  at_form id None = alike_same []
  at_form id (Some form) =
      behind_it (codes "<p>to " ++ link_to (codes "f") form.place) (alike_title (a.texts (form_title form.op)) (others (form_title form.op))) ⋈ alike_same (codes "</a> <span class=\"dim\">form ") ⋈ alike_same (decimal id) ⋈ alike_same (codes "</span></p>")

  at_led : (op : List ℕ) (target : Option ℕ) → Alike (led_part a op target) (led_part other op target)
  at_led op None = alike_same (led_part a op None)
  at_led op (Some id) = at_form id (form_with a.world.nodes id)

  at_values : (q : Asked) → Alike (value_cell a q) (value_cell other q)
  at_values q =
      at_value q q.field ⋈ at_default q ⋈ alike_same (limits_part q.node.op) ⋈ at_options q.node ⋈ alike_same (field_part a.world.nodes q.field)
      ⋈ alike_if (number q.node.op == REF) (at_led q.node.op (ref_target q.node.op)) (alike_same [])

  -- ---- why, and what depends on it

  at_check_stated : (c : Node) (state : List ℕ) → Alike (check_stated a c state) (check_stated other c state)
  at_check_stated c state =
      before_it (codes "</p>") (behind_it (if is_in_force state then codes "<p class=\"small\">" else codes "<p class=\"small dim\">")
      (behind_it (opcode_name (number c.op) ++ stated a.world.nodes state (condition_words c) ++ codes " ") (alike_isolated (a.texts (message c.op)) (others (message c.op)))))

  at_checks : (n : Node) → Alike (checks_part a n) (checks_part other n)
  at_checks n = alike_each (check_part a) (check_part other) (λ (c : Node). at_check_stated c (state_text (value_at a c))) (checks n)

  at_link : (n : Node) → Alike (question_link a n) (question_link other n)
  at_link n =
      before_it (codes "</a>") (behind_it (link_to (codes "q") n.place ++ decimal (question_id n.op) ++ codes " ") (alike_isolated (a.texts (statement_prompt n.op)) (others (statement_prompt n.op))))

  at_answer : (q : Asked) → Alike (answer_words a q) (answer_words other q)
  at_answer q = alike_if (is_undefined (value_of_field a.stores q.node q.field)) (alike_same (codes " (no answer here)")) (behind_it (codes " = ") (at_shown q))

  at_dependence : (when : When) (id : ℕ) (n : Option Node) → Alike (dependence_of when a id n) (dependence_of when other id n)
  at_dependence when id None = alike_same (dependence_of when a id None)
  at_dependence when id (Some n) = alike_small (behind_it (depends_start when) (at_link n) ⋈ at_answer (asked a.world.nodes n))

  at_depends : (when : When) (n : Node) → Alike (depends_part when a n) (depends_part when other n)
  at_depends when n =
      alike_each (dependence_part when a) (dependence_part when other) (λ (id : ℕ). at_dependence when id (question_with a.world.nodes id)) (support_ids when a.world.nodes n)

  at_decided : (when : When) (id : ℕ) → AreAlike (decided_items when a id) (decided_items when other id)
  at_decided when id = alike_map (decided_item when a) (decided_item when other) (λ (q : Asked). at_link q.node ⋈ alike_same (when_text when)) (decided_by when a.world.nodes id)

  at_decides : (id : ℕ) → Alike (decides_part a id) (decides_part other id)
  at_decides id =
      alike_listed (codes "<p class=\"small\">decides ") (codes ", ") (codes "</p>") (decided_items AtCommands a id ++ decided_items AtOpening a id) (decided_items AtCommands other id ++ decided_items AtOpening other id)
      (alike_both (decided_items AtCommands a id) (decided_items AtCommands other id) (decided_items AtOpening a id) (decided_items AtOpening other id) (at_decided AtCommands id) (at_decided AtOpening id))

  at_reasons : (q : Asked) → Alike (reason_cell a q) (reason_cell other q)
  at_reasons q =
      (alike_same (outside_part q) ⋈ alike_same (guards_part a q.node) ⋈ at_checks q.node ⋈ alike_same (rules_part a.world.nodes q.node))
      ⋈ (at_depends AtCommands q.node ⋈ at_depends AtOpening q.node ⋈ at_decides (question_id q.node.op))

  -- ---- the whole row

  pub alike_row : (q : Asked) → Alike (row a q) (row other q)
  alike_row q =
      alike_same (row_head a q.node) ⋈ alike_same (codes "</div><div>") ⋈ at_subject q.node ⋈ alike_same (codes "</div><div>") ⋈ at_values q ⋈ alike_same (codes "</div><div>") ⋈ at_reasons q
      ⋈ alike_same (codes "</div></div>")
