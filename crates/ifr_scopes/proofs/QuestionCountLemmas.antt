-- How many of the forms, statements and options of a package are questions.
use Rattle.std.proofs.Common.{◌≡◌, ◌+◌, Bool, List, [], ◌∷◌, length, map, filter, count_by, cond, refl, sym, ◌∙◌, arith, inl, inr}
use Rattle.std.proofs.lemmas.Bool.{cases_Bool}
use Rattle.std.proofs.lemmas.List.Recursion.{is_count_by}
use Rattle.ifr_opcodes.specs.Forest.{Node}
use Rattle.ifr_opcodes.specs.Opcode.{number}
use Rattle.ifr_opcodes.specs.Rows.{is_question_number}
use Rattle.ifr_opcodes.proofs.StatementLemmas.{question_is_statement}
use Rattle.ifr_nodes.specs.Nodes.{is_question}
use Rattle.ifr_index.specs.code.Index.{is_indexed}
use Rattle.ifr_index.specs.code.Tables.{kept_entry}
use Rattle.ifr_index.specs.declared.index.Entry.{Entry}
use Rattle.ifr_index.proofs.KindLemmas.{is_kept}

abbrev asks_by : Entry → Bool
asks_by e = is_question_number e.code

asking : (all ns : List Node) → length (filter asks_by (map (kept_entry all) (filter is_indexed ns))) ≡ length (filter is_question ns)
asking all [] = refl
asking all (n ∷ ns) =
    let later = asking all ns in
    elim (cases_Bool (is_question n)) [
      | inl asks ↦ rw (is_kept n (question_is_statement (number n.op) asks), asks) (omega (arith, later))
      | inr other ↦ elim (cases_Bool (is_indexed n)) [
        | inl kept ↦ rw (kept, other) later
        | inr plain ↦ rw (plain, other) later
      ]
    ]

one_more : (e : Entry) (es : List Entry) → length (filter asks_by (e ∷ es)) ≡ cond (asks_by e) (1 + length (filter asks_by es)) (length (filter asks_by es))
one_more e es = elim (cases_Bool (asks_by e)) [
  | inl asks ↦ rw asks (omega arith)
  | inr other ↦ rw other refl
]

-- As many entries are those of questions as there are questions.
pub questions_counted : (all ns : List Node) → count_by (λ (e : Entry). is_question_number e.code) (map (kept_entry all) (filter is_indexed ns)) ≡ length (filter is_question ns)
questions_counted all ns =
    sym (is_count_by (λ (es : List Entry). length (filter asks_by es)) asks_by refl one_more (map (kept_entry all) (filter is_indexed ns))) ∙ asking all ns
