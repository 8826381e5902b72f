-- Which values have no text, where other texts of a list are empty alike.
use Rattle.std.proofs.Common.{◌≡◌, ℕ, Bool, true, false, Option, Some, None, List, [], ◌∷◌, ◌++◌, codes, map, option_map, refl}
use Rattle.std.specs.Prelude.{◌==◌, if◌then◌else◌}
use Rattle.ifr_opcodes.specs.declared.codes.TheConstants.{CHECKBOX, NUMERIC, ONE_OF, STRING, PASSWORD, ORDERED_LIST, REF, RESET_BUTTON, TEXT}
use Rattle.ifr_opcodes.specs.Fields.{option_text, text_second}
use Rattle.ifr_opcodes.specs.Forest.{Node}
use Rattle.ifr_opcodes.specs.Opcode.{number}
use Rattle.ifr_expr.specs.Values.{Value, undefined, boolean, natural, text, buffer}
use Rattle.ifr_nodes.specs.Nodes.{is_question, options}
use Rattle.hii_varstore.specs.Stores.{StoreMap}
use Rattle.hii_values.specs.Items.{items_in}
use Rattle.hii_values.specs.Types.{element_width}
use Rattle.hii_questions.specs.Answers.{value_of_field}
use Rattle.hii_questions.specs.Fields.{field_of}
use Rattle.guard_policy.specs.World.{World}
use Rattle.form_page.specs.RowValues.{choice, choice_text, later_text, list_shown, list_text, one_of_shown, option_with, stored_shown, value_shown}
use Rattle.question_audit.specs.QuestionLines.{has_no_text}
use Rattle.report_audit.specs.laws.Tags.{AreEmptyAlike}

pub record EmptyAlike (xs ys : List ℕ) : Type 0 where
  pub same : has_no_text xs ≡ has_no_text ys

empty_same : (xs : List ℕ) → EmptyAlike xs xs
empty_same xs = record { same = refl }

empty_if : (b : Bool) {cs ds xs ys : List ℕ} → EmptyAlike cs ds → EmptyAlike xs ys → EmptyAlike (if b then cs else xs) (if b then ds else ys)
empty_if true p q = p
empty_if false p q = q

empty_both : (cs ds : List ℕ) {xs ys : List ℕ} → EmptyAlike cs ds → EmptyAlike xs ys → EmptyAlike (cs ++ xs) (ds ++ ys)
empty_both [] [] p q = q
empty_both [] (d ∷ ds) p q = let bad : true ≡ false = p.same in absurd cc
empty_both (c ∷ cs) [] p q = let bad : false ≡ true = p.same in absurd cc
empty_both (c ∷ cs) (d ∷ ds) p q = record { same = refl }

module _ (texts others : ℕ → List ℕ) (alike : AreEmptyAlike texts others) (w : World) where
  chosen : (o : Option Node) → EmptyAlike (choice_text (option_map (λ (o : Node). texts (option_text o.op)) o)) (choice_text (option_map (λ (o : Node). others (option_text o.op)) o))
  chosen None = empty_same (codes "?")
  chosen (Some o) = record { same = alike (option_text o.op) }

  later : (n : Node) (its : List ℕ) → EmptyAlike (later_text (map (choice texts w n) its)) (later_text (map (choice others w n) its))
  later n [] = empty_same []
  later n (m ∷ its) = record { same = refl }

  listed : (n : Node) (its : List ℕ) → EmptyAlike (list_text (map (choice texts w n) its)) (list_text (map (choice others w n) its))
  listed n [] = empty_same []
  listed n (m ∷ its) = empty_both (choice_text (choice texts w n m)) (choice_text (choice others w n m)) (chosen (option_with w (options n) m)) (later n its)

  of_one_of : (n : Node) (its : Value) → EmptyAlike (one_of_shown texts w n its) (one_of_shown others w n its)
  of_one_of n undefined = empty_same []
  of_one_of n (boolean b) = empty_same []
  of_one_of n (natural m) = record { same = refl }
  of_one_of n (text units) = empty_same []
  of_one_of n (buffer bytes) = empty_same []

  of_list : (n : Node) (its : Value) → EmptyAlike (list_shown texts w n its) (list_shown others w n its)
  of_list n undefined = empty_same []
  of_list n (boolean b) = empty_same []
  of_list n (natural m) = empty_same []
  of_list n (text units) = empty_same []
  of_list n (buffer bytes) = listed n (items_in (element_width n) bytes)

  stored : (n : Node) (its : Value) → EmptyAlike (stored_shown texts w n its) (stored_shown others w n its)
  stored n its =
      empty_if (number n.op == CHECKBOX) (empty_same _) (empty_if (number n.op == NUMERIC) (empty_same _) (empty_if (number n.op == ONE_OF) (of_one_of n its)
      (empty_if (number n.op == STRING) (empty_same _) (empty_if (number n.op == PASSWORD) (empty_same _) (empty_if (number n.op == ORDERED_LIST) (of_list n its) (empty_same []))))))

  pub empty_shown : (stores : StoreMap) (n : Node) → EmptyAlike (value_shown texts w stores n) (value_shown others w stores n)
  empty_shown stores n =
      empty_if (number n.op == TEXT) (record { same = alike (text_second n.op) }) (empty_if (number n.op == RESET_BUTTON) (empty_same _) (empty_if (number n.op == REF) (empty_same _)
      (empty_if (is_question n) (stored n (value_of_field stores n (field_of w.nodes n))) (empty_same []))))
