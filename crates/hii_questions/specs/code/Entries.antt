-- What is kept of questions.
use Rattle.std.specs.Prelude.{◌≡◌, true, ℕ, Option, option_map, All, List}
use Rattle.std.proofs.Props.{props}
use Rattle.ifr_opcodes.specs.Forest.{Node}
use Rattle.ifr_nodes.specs.Nodes.{is_question}
use Rattle.ifr_nodes.specs.code.Checked.{has_statement, node_in}
use Rattle.hii_varstore.specs.Layout.{Shape}
use Rattle.hii_questions.specs.Fields.{Asked, field_at}
use Rattle.hii_questions.specs.code.Ranges.{range_in, HasWidth, HasWidth-prop, IsNarrow, IsNarrow-prop}
use Rattle.hii_questions.specs.declared.entry.FieldEntry.{FieldEntry}
use Rattle.hii_questions.specs.declared.entry.QuestionEntry.{QuestionEntry}
use Rattle.hii_questions.specs.declared.field_range.FieldRange.{FieldRange}

-- where a field lies, and the field of a question, if it has one
abbrev pub entry_range : FieldEntry → FieldRange
entry_range f = record { store = f.store; offset = f.offset; width = f.width }

abbrev pub entry_field : QuestionEntry → Option FieldRange
entry_field e = option_map entry_range e.field

-- the question of a package of which this is kept, as a node with its field
abbrev pub entry_view : List ℕ → QuestionEntry → Asked
entry_view ifr e =
    record { node = node_in ifr e.place; field = option_map range_in (entry_field e) }

-- This is kept of a node that is a question, where these are the stores.
pub record IsEntryOf (shape : Shape) (n : Node) (e : QuestionEntry) : Type 0 where
  pub asks : is_question n ≡ true
  pub place : e.place ≡ n.place
  pub field : option_map range_in (entry_field e) ≡ field_at shape n
  pub wide : HasWidth n (entry_field e)
  pub narrow : IsNarrow n (entry_field e)

-- A question stands at the place in the package, and its field is as wide as it says.
pub record IsQuestionEntry (ifr : List ℕ) (e : QuestionEntry) : Type 0 where
  pub there : has_statement ifr e.place ≡ true
  pub asks : is_question (node_in ifr e.place) ≡ true
  pub wide : HasWidth (node_in ifr e.place) (entry_field e)
  pub narrow : IsNarrow (node_in ifr e.place) (entry_field e)

pub IsQuestionEntry-prop : (ifr : List ℕ) (e : QuestionEntry) → IsProp (IsQuestionEntry ifr e)
IsQuestionEntry-prop ifr e = hlevel (props, HasWidth-prop, IsNarrow-prop)

abbrev pub AreQuestionEntries : List ℕ → List QuestionEntry → Type 0
AreQuestionEntries ifr es = All (λ e. IsQuestionEntry ifr e) es

pub AreQuestionEntries-prop : (ifr : List ℕ) (es : List QuestionEntry)
    → IsProp (AreQuestionEntries ifr es)
AreQuestionEntries-prop ifr es = hlevel (props, IsQuestionEntry-prop)
