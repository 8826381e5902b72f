-- What is seen, what may be changed and submitted, and which opcode forbids it (UEFI 2.8, 33.2.5.10 Forms Processing; the opcodes
-- are those of 33.3.8.3; which of several is named is an own rule).
use Rattle.std.specs.Prelude.{ℕ, Bool, ◌==◌, ◌&&◌, ◌||◌, not, if◌then◌else◌, Option, Some, None, option_map, is_none, List, [], ◌∷◌, filter}
use Rattle.std.specs.List.{find, list_any}
use Rattle.ifr_opcodes.specs.declared.codes.TheConstants.{SUPPRESS_IF, GRAY_OUT_IF, DISABLE_IF}
use Rattle.ifr_opcodes.specs.Opcode.{number}
use Rattle.ifr_opcodes.specs.Rows.{is_among}
use Rattle.ifr_opcodes.specs.Forest.{Node}
use Rattle.ifr_opcodes.specs.Fields.{is_read_only, option_value, ref_target}
use Rattle.ifr_nodes.specs.NodeExpressions.{message}
use Rattle.ifr_nodes.specs.Guards.{guards}
use Rattle.ifr_nodes.specs.Locks.{first_lock}
use Rattle.ifr_nodes.specs.Nodes.{is_question, is_reference, is_no_submit, options, inconsistents, warnings}
use Rattle.hii_values.specs.declared.denial.DenialKind.{DenialKind}
use Rattle.hii_values.specs.declared.denial.DenialKind.TheVariants.{DisableIf, SuppressIf, GrayOutIf, Locked, ReadOnly, Outside, InconsistentIf, NoSubmitIf}
use Rattle.hii_questions.specs.Fields.{Asked, asked}
use Rattle.guard_policy.specs.World.{World, is_met}
use Rattle.guard_policy.specs.declared.denial.Denial.{Denial}

-- a denial that names a node as what decides, without a text
abbrev pub denied_by : DenialKind → Node → Denial
denied_by kind n = record { kind = kind; place = n.place; message = 0 }

-- a denial that names a node as what decides, with the text of its opcode
abbrev pub told : DenialKind → Node → Denial
told kind n = record { kind = kind; place = n.place; message = message n.op }

abbrev pub or_else : Option Denial → Option Denial → Option Denial
or_else None other = other
or_else (Some denial) other = Some denial

-- ---- hidden

-- A DISABLE_IF that was removed hides what stands in its scope, and a SUPPRESS_IF whose condition holds.
abbrev pub is_removed : List ℕ → Node → Bool
is_removed removed guard = number guard.op == DISABLE_IF && is_among guard.place removed

abbrev pub suppresses : World → Node → Bool
suppresses w guard = number guard.op == SUPPRESS_IF && is_met w guard

abbrev pub hides : World → Node → Bool
hides w guard = is_removed w.removed guard || suppresses w guard

abbrev pub hiding : Node → Denial
hiding guard = denied_by (if number guard.op == DISABLE_IF then DisableIf else SuppressIf) guard

-- The outermost of guards that hides decides.
abbrev pub hidden_among : World → List Node → Option Denial
hidden_among w gs = option_map hiding (find (hides w) gs)

abbrev pub hidden : World → Node → Option Denial
hidden w n = hidden_among w (guards n)

-- ---- fixed

abbrev pub grays_out : World → Node → Bool
grays_out w guard = number guard.op == GRAY_OUT_IF && is_met w guard

-- What stands in scopes of guards, and is locked, may not be changed: it is hidden, else the outermost GRAY_OUT_IF that holds
-- decides, else the LOCKED.
abbrev pub covered_by : World → List Node → Option Node → Option Denial
covered_by w gs lock =
    or_else (hidden_among w gs)
    (or_else (option_map (denied_by GrayOutIf) (find (grays_out w) gs))
    (option_map (denied_by Locked) lock))

-- Of several LOCKED the one in the outermost scope decides, then the first by place.
abbrev pub covered : World → Node → Option Denial
covered w n = covered_by w (guards n) (first_lock w.nodes n)

-- What may not be changed, as it lacks what it needs (own rule): a reference that leads to no form of this form set, and any
-- other question without a field, as dates, times and actions are.
abbrev pub is_never_changed : Asked → Bool
is_never_changed q = if is_reference q.node then is_none (ref_target q.node.op) else is_none q.field

-- A question with the flag READ_ONLY is fixed by itself (33.3.8.2.2, EFI_IFR_FLAG_READ_ONLY), else one that is outside.
abbrev pub fixed_question : Asked → Option Denial
fixed_question q =
    if is_read_only q.node.op then Some (denied_by ReadOnly q.node)
    else if is_never_changed q then Some (denied_by Outside q.node) else None

-- What is no question is not fixed by itself.
abbrev pub fixed_itself : List Node → Node → Option Denial
fixed_itself ns n = if is_question n then fixed_question (asked ns n) else None

-- A node is fixed by what stands around it, else by itself.
abbrev pub fixed : World → Node → Option Denial
fixed w n = or_else (covered w n) (fixed_itself w.nodes n)

-- ---- the values of options

-- Where all of some options are fixed, the first by place denies; where there are none, nothing does.
abbrev pub all_fixed : World → List Node → Option Denial
all_fixed w [] = None
all_fixed w (o ∷ os) = if list_any (λ p. is_none (fixed w p)) (o ∷ os) then None else fixed w o

-- a value of a question's options
abbrev pub closed : World → Node → ℕ → Option Denial
closed w q value = all_fixed w (filter (λ o. option_value o.op == value) (options q))

-- the first of several
abbrev pub first_closed : World → Node → List ℕ → Option Denial
first_closed w q [] = None
first_closed w q (value ∷ values) = or_else (closed w q value) (first_closed w q values)

-- ---- the conditions of a question, over the stores with its new field

abbrev pub inconsistent : World → Node → Option Denial
inconsistent w q = option_map (told InconsistentIf) (find (is_met w) (inconsistents q))

abbrev pub warned : World → Node → List Node
warned w q = filter (is_met w) (warnings q)

-- ---- submission

-- A NO_SUBMIT_IF counts whatever hides its question, but for a DISABLE_IF that was removed.
abbrev pub denies_submission : World → Node → Bool
denies_submission w n = not (list_any (is_removed w.removed) (guards n)) && is_met w n

abbrev pub unsubmitted : World → Option Denial
unsubmitted w =
    option_map (told NoSubmitIf) (find (denies_submission w) (filter is_no_submit w.nodes))
