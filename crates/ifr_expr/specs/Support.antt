-- The questions that the opcodes of an expression name (UEFI 2.8, 33.3.8.3 Opcode Reference, under the name of each).
use Rattle.std.specs.Prelude.{ℕ, ◌==◌, if◌then◌else◌, List, [], ◌∷◌, ◌++◌}
use Rattle.ifr_opcodes.specs.declared.codes.TheConstants.{EQ_ID_VAL, EQ_ID_ID, EQ_ID_VAL_LIST, QUESTION_REF1}
use Rattle.ifr_opcodes.specs.Opcode.{number}
use Rattle.ifr_opcodes.specs.Fields.{eq_id_val_question, eq_id_id_first, eq_id_id_second, eq_id_val_list_question, question_ref_question}
use Rattle.ifr_opcodes.specs.Forest.{Mark}
use Rattle.ifr_expr.specs.Trees.{Tree, post}

-- the questions that an opcode names
unfoldable pub ids_of : List ℕ → List ℕ
ids_of op =
    if number op == EQ_ID_VAL then eq_id_val_question op ∷ []
    else (if number op == EQ_ID_ID then eq_id_id_first op ∷ eq_id_id_second op ∷ []
    else (if number op == EQ_ID_VAL_LIST then eq_id_val_list_question op ∷ []
    else (if number op == QUESTION_REF1 then question_ref_question op ∷ []
    else [])))

-- the questions that opcodes name, by place
abbrev pub ids_named : List Mark → List ℕ
ids_named [] = []
ids_named (op ∷ ops) = ids_of op.op ++ ids_named ops

abbrev pub support : Tree → List ℕ
support tree = ids_named (post tree)
