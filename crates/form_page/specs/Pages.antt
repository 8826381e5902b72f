-- The page of a form: its title and a row for each of its statements that is not hidden (UEFI 2.8, 33.2.5.2 Forms; how a row
-- looks is an own rule).
use Rattle.std.specs.Prelude.{ℕ, ◌+◌, ◌-◌, Bool, ◌==◌, ◌||◌, if◌then◌else◌, Option, Some, None, is_some, is_none, List, [], ◌∷◌, ◌++◌, filter, codes, decimal}
use Rattle.std.specs.List.{flat_map, slice_get}
use Rattle.hii_bytes.specs.Texts.{right_aligned}
use Rattle.ifr_opcodes.specs.Forest.{Node}
use Rattle.ifr_opcodes.specs.Fields.{form_id, form_title, statement_prompt, question_id}
use Rattle.ifr_opcodes.specs.Opcode.{number}
use Rattle.ifr_opcodes.specs.declared.codes.TheConstants.{SUBTITLE, TEXT}
use Rattle.ifr_nodes.specs.Nodes.{statements, is_question}
use Rattle.hii_varstore.specs.Stores.{StoreMap}
use Rattle.guard_policy.specs.Policy.{hidden, fixed}
use Rattle.guard_policy.specs.World.{World}
use Rattle.form_page.specs.RowValues.{value_shown}
use Rattle.form_page.specs.Texts.{utf8, in_columns}

-- a row: its number, its mark, the id of its question, its prompt and its value
pub record Row : Type 0 where
  pub number : ℕ
  pub mark : ℕ
  pub question : Option ℕ
  pub prompt : List ℕ
  pub value : List ℕ

-- A subtitle and a text have a space as their mark. What may be changed is marked by a star, what is fixed by an exclamation
-- mark.
abbrev pub mark_of : List ℕ → Bool → ℕ
mark_of op is_fixed =
    if number op == SUBTITLE || number op == TEXT then 32 else if is_fixed then 33 else 42

-- the id of a statement that is a question
abbrev pub id_of : Node → Option ℕ
id_of n = if is_question n then Some (question_id n.op) else None

-- the row of a statement over some stores, with the texts as the characters that are shown of each string id
abbrev pub row_of : (ℕ → List ℕ) → World → StoreMap → ℕ → Node → Row
row_of texts w stores number n = record {
  number = number;
  mark = mark_of n.op (is_some (fixed w n));
  question = id_of n;
  prompt = texts (statement_prompt n.op);
  value = value_shown texts w stores n;
}

abbrev pub rows_from : (ℕ → List ℕ) → World → StoreMap → ℕ → List Node → List Row
rows_from texts w stores number [] = []
rows_from texts w stores number (n ∷ rest) =
    row_of texts w stores number n ∷ rows_from texts w stores (number + 1) rest

-- the statements of a form that are not hidden
abbrev pub listed_statements : World → Node → List Node
listed_statements w form = filter (λ n. is_none (hidden w n)) (statements form)

-- the statement of a row, numbered from 1; there is none at 0 and past the last row
abbrev pub statement_in_row : World → Node → ℕ → Option Node
statement_in_row w form row =
    if row == 0 then None else slice_get (listed_statements w form) (row - 1)

-- the rows of a form, numbered from 1
abbrev pub rows_of_form : (ℕ → List ℕ) → World → StoreMap → Node → List Row
rows_of_form texts w stores form = rows_from texts w stores 1 (listed_statements w form)

-- a question's id in five columns, or that there is none
abbrev pub id_text : Option ℕ → List ℕ
id_text None = codes "    -"
id_text (Some id) = right_aligned 5 (decimal id)

abbrev pub row_text : Row → List ℕ
row_text row =
    right_aligned 3 (decimal row.number) ++ codes " " ++ (row.mark ∷ []) ++ codes " "
    ++ id_text row.question ++ codes " "
    ++ in_columns 24 row.prompt ++ codes " [" ++ utf8 row.value ++ codes "]\n"

abbrev pub title_text : (ℕ → List ℕ) → Node → List ℕ
title_text texts form =
    codes "FORM " ++ decimal (form_id form.op) ++ codes " " ++ utf8 (texts (form_title form.op))
    ++ codes "\n"

-- the bytes of a page
abbrev pub page_text : (ℕ → List ℕ) → World → StoreMap → Node → List ℕ
page_text texts w stores form =
    title_text texts form ++ flat_map row_text (rows_of_form texts w stores form)
