-- What is seen, what may be changed and submitted, and which opcode forbids it (UEFI 2.8, 33.2.5.10 Forms Processing
-- and 33.3.8.3; which of several opcodes is named is an own rule).
use Rattle.std.specs.Prelude.{ℕ, ◌==◌, ◌&&◌, ◌||◌, not, Bool, if◌then◌else◌, Option, Some, None, option_map, is_none}
use Rattle.std.specs.Prelude.{List, [], ◌∷◌, map, filter, codes}
use Rattle.std.specs.List.{find, list_any}
use Rattle.std.specs.Option.{option_or}
use Rattle.browser_rules.specs.Words.{is_among}
use Rattle.browser_rules.specs.Values.{holds}
use Rattle.browser_rules.specs.Opcodes.{field_in, QUESTION_HEADER, WITH_ERROR, SUPPRESS_IF, GRAY_OUT_IF, DISABLE_IF}
use Rattle.browser_rules.specs.Opcodes.{INCONSISTENT_IF, NO_SUBMIT_IF, WARNING_IF, REF}
use Rattle.browser_rules.specs.Forest.{Node}
use Rattle.browser_rules.specs.Expressions.{value_of}
use Rattle.browser_rules.specs.Nodes.{is, is_question, in_question, options, this_of, guards, lock_of, expression_of}
use Rattle.browser_rules.specs.Nodes.{rules_of, ref_target}
use Rattle.browser_rules.specs.Stores.{Stores}
use Rattle.browser_rules.specs.Questions.{answers, field_of, option_value, has_flag, DenialKind, DisableIf, SuppressIf}
use Rattle.browser_rules.specs.Questions.{GrayOutIf, Locked, ReadOnly, Outside, InconsistentIf, NoSubmitIf}

-- what is decided over: the nodes, the places of the DISABLE_IFs that were removed at opening, and stores
pub record World : Type 0 where
  pub nodes : List Node
  pub removed : List ℕ
  pub stores : Stores

-- The condition of a node is met, which is the expression that its scope begins with.
abbrev pub is_met_over : List Node → Stores → Node → Bool
is_met_over ns stores n = holds (value_of (rules_of ns) (answers ns stores) (this_of n) (expression_of n))

abbrev pub is_met : World → Node → Bool
is_met w n = is_met_over w.nodes w.stores n

-- The DISABLE_IFs that are met over the stores at opening are removed: what stands in them is hidden for the whole
-- session, and a NO_SUBMIT_IF in them does not count. One that comes to be met later removes nothing.
abbrev pub removed_at : List Node → Stores → List ℕ
removed_at ns stores = map (λ n. n.place) (filter (λ n. is DISABLE_IF n && is_met_over ns stores n) ns)

abbrev pub is_removed : World → Node → Bool
is_removed w guard = is DISABLE_IF guard && is_among guard.place w.removed

-- ---- denials: the kind, the place of the opcode that decides, or 0, and the string id of the text that it tells

pub record Denial : Type 0 where
  pub kind : DenialKind
  pub place : ℕ
  pub message : Option ℕ

abbrev pub denied_by : DenialKind → Node → Denial
denied_by kind n = record { kind = kind; place = n.place; message = None }

abbrev pub denied_with_text : DenialKind → Node → Denial
denied_with_text kind n = record { kind = kind; place = n.place; message = Some (field_in WITH_ERROR "Error" n.op) }

-- ---- hidden: the outermost guard that is a removed DISABLE_IF or a SUPPRESS_IF that is met decides

abbrev pub hidden_by : World → Node → Option Denial
hidden_by w n =
    option_map (λ guard. denied_by (if is DISABLE_IF guard then DisableIf else SuppressIf) guard)
    (find (λ guard. is_removed w guard || is SUPPRESS_IF guard && is_met w guard) (guards n))

-- ---- fixed: what is hidden; else the outermost GRAY_OUT_IF that is met decides; else the LOCKED; else, of a question,
-- its flag READ_ONLY (33.3.8.2.2, EFI_IFR_FLAG_READ_ONLY); else that it is outside: a reference that leads to no form
-- of this form set, any other question without a field

abbrev pub fixed_itself : List Node → Node → Option Denial
fixed_itself ns q =
    if has_flag (field_in QUESTION_HEADER "QuestionFlags" q.op) 0x01 then Some (denied_by ReadOnly q)
    else if (if is REF q then is_none (ref_target q) else is_none (field_of ns q)) then Some (denied_by Outside q)
    else None

abbrev pub fixed_by : World → Node → Option Denial
fixed_by w n =
    option_or (hidden_by w n)
    (option_or (option_map (denied_by GrayOutIf) (find (λ guard. is GRAY_OUT_IF guard && is_met w guard) (guards n)))
    (option_or (option_map (denied_by Locked) (lock_of w.nodes n))
    (if is_question n then fixed_itself w.nodes n else None)))

-- ---- the values of options: where all options of a value are fixed, the first of these by place denies it; of several
-- values the first that is denied counts

abbrev pub all_fixed_by : World → List Node → Option Denial
all_fixed_by w [] = None
all_fixed_by w (o ∷ os) = if list_any (λ p. is_none (fixed_by w p)) (o ∷ os) then None else fixed_by w o

abbrev pub values_denied_by : World → Node → List ℕ → Option Denial
values_denied_by w q [] = None
values_denied_by w q (v ∷ values) =
    option_or (all_fixed_by w (filter (λ o. option_value o == v) (options q))) (values_denied_by w q values)

-- ---- over the stores with a new field: the first INCONSISTENT_IF that is met denies, each WARNING_IF that is met
-- warns

abbrev pub inconsistent_by : World → Node → Option Denial
inconsistent_by w q =
    option_map (denied_with_text InconsistentIf) (find (is_met w) (in_question (is INCONSISTENT_IF) q))

abbrev pub warnings : World → Node → List Node
warnings w q = filter (is_met w) (in_question (is WARNING_IF) q)

-- ---- submission: the first NO_SUBMIT_IF that is met denies it, whatever hides it, but for a removed DISABLE_IF

abbrev pub submission_denied_by : World → Option Denial
submission_denied_by w =
    option_map (denied_with_text NoSubmitIf)
    (find (λ n. is NO_SUBMIT_IF n && not (list_any (is_removed w) (guards n)) && is_met w n) w.nodes)

-- ---- the names of the kinds

abbrev pub kind_name : DenialKind → List ℕ
kind_name DenialKind.DisableIf = codes "disableif"
kind_name DenialKind.SuppressIf = codes "suppressif"
kind_name DenialKind.GrayOutIf = codes "grayoutif"
kind_name DenialKind.Locked = codes "locked"
kind_name DenialKind.ReadOnly = codes "readonly"
kind_name DenialKind.Outside = codes "outside"
kind_name DenialKind.Kind = codes "kind"
kind_name DenialKind.Range = codes "range"
kind_name DenialKind.NoOption = codes "nooption"
kind_name DenialKind.Length = codes "length"
kind_name DenialKind.Repeat = codes "repeat"
kind_name DenialKind.EmptySet = codes "emptyset"
kind_name DenialKind.BadText = codes "badtext"
kind_name DenialKind.InconsistentIf = codes "inconsistentif"
kind_name DenialKind.NoSubmitIf = codes "nosubmitif"
kind_name DenialKind.NoQuestion = codes "noquestion"
kind_name DenialKind.NotRef = codes "notref"
kind_name DenialKind.NotButton = codes "notbutton"
kind_name DenialKind.NoRow = codes "norow"
kind_name DenialKind.NoBack = codes "noback"
kind_name DenialKind.DeepHistory = codes "deephistory"
kind_name DenialKind.NoStore = codes "nostore"
kind_name DenialKind.NoField = codes "nofield"
kind_name DenialKind.Password = codes "password"
