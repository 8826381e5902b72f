-- On which conditions, and on the answers of which questions, a decision depends (own rule).
use Rattle.std.specs.Prelude.{ℕ, Bool, true, false, ◌==◌, ◌++◌, not, if◌then◌else◌, Option, Some, None, List, [], ◌∷◌, filter, ⊤}
use Rattle.std.specs.List.{flat_map, list_any}
use Rattle.ifr_opcodes.specs.declared.codes.TheConstants.{SUPPRESS_IF, GRAY_OUT_IF}
use Rattle.ifr_opcodes.specs.Fields.{option_value}
use Rattle.ifr_opcodes.specs.Forest.{Node}
use Rattle.ifr_opcodes.specs.Opcode.{number}
use Rattle.ifr_expr.specs.laws.Agreement.{Agree}
use Rattle.ifr_nodes.specs.code.Checked.{IsNodeOf}
use Rattle.ifr_nodes.specs.Guards.{guards}
use Rattle.ifr_index.specs.code.Index.{conditional_at}
use Rattle.ifr_scopes.specs.code.Lists.{form_node, statement_node}
use Rattle.ifr_nodes.specs.Nodes.{is_no_submit, options, inconsistents, warnings}
use Rattle.hii_varstore.specs.Stores.{StoreMap}
use Rattle.hii_questions.specs.Answers.{answers}
use Rattle.hii_questions.specs.code.Views.{question_node}
use Rattle.guard_policy.specs.Conditions.{condition_ids}
use Rattle.guard_policy.specs.World.{World, is_met}
use Rattle.guard_policy.specs.Policy.{is_removed, hidden, fixed, closed, inconsistent, unsubmitted, warned}
use Rattle.guard_policy.specs.declared.denial.Denial.{Denial}
use Rattle.guard_policy.specs.declared.support.Decision.{Decision}
use Rattle.guard_policy.specs.declared.support.Decision.TheVariants.{Listed, Changeable, OptionOpen, Opens, Consistent, MaySubmit, Warnings}

-- the conditions around a node that may hide it, the outermost first, and those that may let nothing be changed
abbrev pub suppressing : Node → List Node
suppressing n = filter (λ g. number g.op == SUPPRESS_IF) (guards n)

abbrev pub graying_out : Node → List Node
graying_out n = filter (λ g. number g.op == GRAY_OUT_IF) (guards n)

abbrev pub around : Node → List Node
around n = suppressing n ++ graying_out n

-- no removed DISABLE_IF hides it
abbrev pub counts : List ℕ → Node → Bool
counts removed n = not (list_any (is_removed removed) (guards n))

-- the conditions of a decision, in the order in which they decide
abbrev pub conditions : World → Decision → List Node
conditions w (Listed statement) = suppressing (statement_node statement)
conditions w (Changeable statement) = around (statement_node statement)
conditions w (OptionOpen question value) =
    flat_map around (filter (λ o. option_value o.op == value) (options (question_node question)))
conditions w (Opens form) = suppressing (form_node form)
conditions w (Consistent question) = inconsistents (question_node question)
conditions w MaySubmit = filter (counts w.removed) (filter is_no_submit w.nodes)
conditions w (Warnings question) = warnings (question_node question)

-- What is decided of, and is looked up in the package, is a node of it.
abbrev pub IsSubjectOf : List ℕ → Decision → Type 0
IsSubjectOf bytes (Listed statement) = IsNodeOf bytes (statement_node statement)
IsSubjectOf bytes (Changeable statement) = IsNodeOf bytes (statement_node statement)
IsSubjectOf bytes (OptionOpen question value) = IsNodeOf bytes (question_node question)
IsSubjectOf bytes (Opens form) = IsNodeOf bytes (form_node form)
IsSubjectOf bytes (Consistent question) = IsNodeOf bytes (question_node question)
IsSubjectOf bytes MaySubmit = ⊤
IsSubjectOf bytes (Warnings question) = IsNodeOf bytes (question_node question)

-- what denies; a warning denies nothing
abbrev pub denial : World → Decision → Option Denial
denial w (Listed statement) = hidden w (statement_node statement)
denial w (Changeable statement) = fixed w (statement_node statement)
denial w (OptionOpen question value) = closed w (question_node question) value
denial w (Opens form) = hidden w (form_node form)
denial w (Consistent question) = inconsistent w (question_node question)
denial w MaySubmit = unsubmitted w
denial w (Warnings question) = None

-- of what is warned
abbrev pub warning_of : World → Decision → List Node
warning_of w (Warnings question) = warned w (question_node question)
warning_of w _ = []

-- the questions on whose answers some conditions depend
abbrev pub support_over : List Node → List Node → List ℕ
support_over ns cs = flat_map (condition_ids ns) cs

-- the questions on whose answers a decision depends
abbrev pub support : World → Decision → List ℕ
support w decision = support_over w.nodes (conditions w decision)

-- the questions on whose answers the condition at a place depends; none where no condition stands
abbrev pub ids_behind_one : List Node → Option Node → List ℕ
ids_behind_one ns None = []
ids_behind_one ns (Some c) = condition_ids ns c

abbrev pub support_at : List Node → ℕ → List ℕ
support_at ns place = ids_behind_one ns (conditional_at ns place)

-- two stores of a form set give the same answers to these questions
abbrev pub AnswersAgree : List Node → StoreMap → StoreMap → List ℕ → Type 0
AnswersAgree ns stores others ids = Agree (answers ns stores) (answers ns others) ids

-- some conditions up to the first that holds, which is the last of them; all where none holds
abbrev pub until_met : World → List Node → List Node
until_met w [] = []
until_met w (c ∷ cs) = if is_met w c then c ∷ [] else c ∷ until_met w cs

-- The first condition of a decision that holds, or nothing behind it, decides alone: not so where any of several options
-- will do.
abbrev pub is_by_first : Decision → Bool
is_by_first (OptionOpen question value) = false
is_by_first (Warnings question) = false
is_by_first _ = true
