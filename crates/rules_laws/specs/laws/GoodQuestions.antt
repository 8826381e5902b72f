-- Good questions: their stores, fields and options (UEFI 2.8, 33.2.5.4 Questions and 33.2.5.6 Storage, and 33.3.8.3,
-- EFI_IFR_ONE_OF_OPTION; what suits is an own rule).
use Rattle.std.specs.Prelude.{◌≡◌, ◌⊎◌, ℕ, ◌+◌, ◌≤◌, ◌<◌, ◌^◌, Some, List, filter, Contains}
use Rattle.ifr_opcodes.specs.declared.codes.TheConstants.{ONE_OF, ORDERED_LIST}
use Rattle.ifr_opcodes.specs.Fields.{question_store, one_of_width, option_kind, option_value}
use Rattle.ifr_opcodes.specs.Forest.{Node}
use Rattle.ifr_opcodes.specs.Opcode.{number}
use Rattle.ifr_nodes.specs.Nodes.{is_question, options}
use Rattle.hii_varstore.specs.Layout.{size_of}
use Rattle.hii_varstore.specs.StoreNodes.{layout_of}
use Rattle.hii_questions.specs.Fields.{Field, field_of}
use Rattle.rules_laws.specs.laws.Ids.{store_ids}

-- A question names no store or one that is there, its field lies in its store, the options of a ONE_OF have numbers of its
-- width, and those of an ORDERED_LIST are of one Type.
pub record IsGoodQuestion (ns : List Node) (q : Node) : Type 0 where
  pub store : (question_store q.op ≡ 0) ⊎ Contains (store_ids ns) (question_store q.op)
  pub field : (f : Field) (size : ℕ) → field_of ns q ≡ Some f
      → size_of (layout_of ns) f.store ≡ Some size → f.offset + f.width ≤ size
  pub numbers : (o : Node) → number q.op ≡ ONE_OF → Contains (options q) o
      → option_value o.op < 256 ^ one_of_width q.op
  pub one_type : (o p : Node) → number q.op ≡ ORDERED_LIST → Contains (options q) o
      → Contains (options q) p → option_kind o.op ≡ option_kind p.op

abbrev pub AreGoodQuestions : List Node → Type 0
AreGoodQuestions ns = (q : Node) → Contains (filter is_question ns) q → IsGoodQuestion ns q
