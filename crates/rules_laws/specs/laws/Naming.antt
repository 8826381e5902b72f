-- The rule that a RULE_REF names, and how large rules are (UEFI 2.8, 33.3.8.3, EFI_IFR_RULE and EFI_IFR_RULE_REF; how rules are
-- found and the bounds are own rules).
use Rattle.std.specs.Prelude.{◌≡◌, ℕ, zero, suc, ◌+◌, ◌≤◌, Bool, ◌==◌, ◌&&◌, not, nat_lt, Option, Some, None, List, length, map, filter, sum, Contains}
use Rattle.std.specs.List.{last_or, list_any}
use Rattle.ifr_opcodes.specs.declared.codes.TheConstants.{RULE_REF}
use Rattle.ifr_opcodes.specs.Opcode.{number}
use Rattle.ifr_opcodes.specs.Fields.{rule_id, rule_ref_rule}
use Rattle.ifr_opcodes.specs.Forest.{Ancestor, Node, below}
use Rattle.ifr_nodes.specs.Rules.{is_rule, forms_among}

abbrev pub is_rule_reference : Node → Bool
is_rule_reference n = number n.op == RULE_REF

-- the place of the innermost FORM around a node
abbrev pub place_or_0 : Option Ancestor → ℕ
place_or_0 None = 0
place_or_0 (Some a) = a.place

abbrev pub form_around : Node → ℕ
form_around n = place_or_0 (last_or None (forms_among n.path))

-- whether a node stands in the scope of another
abbrev pub is_inside : Node → Node → Bool
is_inside outer n = list_any (λ a. a.place == outer.place) n.path

-- A rule has the id that a reference names, stands before it under the same innermost FORM, and does not hold it in its scope.
abbrev pub is_nameable : Node → Node → Bool
is_nameable reference r =
    is_rule r && rule_id r.op == rule_ref_rule reference.op
    && (nat_lt r.place reference.place
    && (form_around r == form_around reference && not (is_inside r reference)))

-- the rule that a reference names: the last of these by place
abbrev pub named_rule : List Node → Node → Option Node
named_rule ns reference = last_or None (filter (is_nameable reference) ns)

-- the references to rules in a rule's expression
abbrev pub references_in : Node → List Node
references_in r = filter is_rule_reference (below r)

-- A rule has a depth of at most n: each rule that it names has one of at most n - 1.
abbrev pub HasDepth : List Node → ℕ → Node → Type 0
HasDepth ns zero r = ⊥
HasDepth ns (suc n) r =
    (reference named : Node) → Contains (references_in r) reference
    → named_rule ns reference ≡ Some named → HasDepth ns n named

-- the weight of a rule whose depth is at most n: how many operators its expression has, and the weights of the rules that it
-- names, each as often as it is named
abbrev pub weight_of_named : (Node → ℕ) → Option Node → ℕ
weight_of_named weight None = 0
weight_of_named weight (Some r) = weight r

abbrev pub weight : List Node → ℕ → Node → ℕ
weight ns zero r = 0
weight ns (suc n) r =
    length (below r)
    + sum (map (λ reference. weight_of_named (weight ns n) (named_rule ns reference)) (references_in r))

-- at most 16 rules name one another, and have at most 4,096 operators
pub record IsSmallRule (ns : List Node) (r : Node) : Type 0 where
  pub depth : HasDepth ns 16 r
  pub weight : weight ns 16 r ≤ 4096
