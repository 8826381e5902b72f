-- The numbers of the rules of a package.
use Rattle.std.proofs.Common.{◌≡◌, ℕ, Option, Some, None, List, [], ◌∷◌, ◌++◌, map, filter, refl, sym, ap, ◌∙◌, IfSome}
use Rattle.std.specs.Prelude.{reverse, slice_get, option_map}
use Rattle.std.specs.List.{find}
use Rattle.std.proofs.lemmas.List.{map-append, reverse-append, reverse-reverse}
use Rattle.std.proofs.lemmas.Option.{slice_get-map}
use Rattle.ifr_opcodes.specs.Forest.{Node}
use Rattle.ifr_expr.specs.Meaning.{names}
use Rattle.ifr_expr.specs.code.RuleValues.{IsNumberOf, rule_of_number}
use Rattle.ifr_nodes.specs.Checked.{IsChecked}
use Rattle.ifr_nodes.specs.Nodes.{nodes_of}
use Rattle.ifr_nodes.specs.Rules.{is_rule, as_rule, rule_nodes}
use Rattle.ifr_nodes.specs.code.Checked.{node_in}
use Rattle.ifr_nodes.specs.code.Rules.{rules_of}
use Rattle.ifr_nodes.proofs.RuleOrderLemmas.{rule_there}
use Rattle.ifr_nodes.proofs.ViewLemmas.{node_in_place}
use Rattle.ifr_index.specs.code.Tables.{places_of}
use Rattle.ifr_scopes.proofs.FormPlaceLemmas.{found}
use Rattle.ifr_index.proofs.KindLemmas.{kind_again}
use Rattle.ifr_scopes.proofs.RuleLookupLemmas.{named_some}

pub told_if : (P : Type 0) (number : Option ℕ) → P → IfSome number (λ _. P)
told_if P None p = tt
told_if P (Some number) p = p

map_reverse : {X Y : Type 0} (f : X → Y) (xs : List X) → map f (reverse xs) ≡ reverse (map f xs)
map_reverse f [] = refl
map_reverse f (x ∷ xs) =
    ap (map f) (reverse-append (x ∷ []) xs) ∙ map-append f (reverse xs) (x ∷ []) ∙ ap (λ l. l ++ f x ∷ []) (map_reverse f xs) ∙ sym (reverse-append (f x ∷ []) (map f xs))

-- the rules by place
by_place : (ns : List Node) → reverse (map as_rule (rule_nodes ns)) ≡ map as_rule (filter is_rule ns)
by_place ns = sym (map_reverse as_rule (rule_nodes ns)) ∙ ap (map as_rule) (reverse-reverse (filter is_rule ns))

module _ (bytes places : List ℕ) (checked : IsChecked bytes) (are : places ≡ places_of is_rule (nodes_of bytes)) where
  -- the rule whose place is that of a number
  there : (number at : ℕ) → slice_get places number ≡ Some at → rule_of_number (rules_of bytes) number ≡ Some (as_rule (node_in bytes at))
  there number at is =
      ap (λ l. slice_get l number) (by_place (nodes_of bytes))
      ∙ slice_get-map as_rule (filter is_rule (nodes_of bytes)) number
      ∙ ap (λ (l : List Node). option_map as_rule (slice_get l number)) (sym (ap (map (node_in bytes)) are ∙ kind_again is_rule bytes checked.spelled))
      ∙ ap (option_map as_rule) (slice_get-map (node_in bytes) places number ∙ ap (option_map (node_in bytes)) is)

  pub numbered : (id place at : ℕ) (n : Node) (number : Option ℕ) → find (λ m. names id place (as_rule m)) (rule_nodes (nodes_of bytes)) ≡ Some n → at ≡ n.place → IfSome number (λ k. slice_get places k ≡ Some at)
      → IfSome number (IsNumberOf (rules_of bytes) id place)
  numbered id place at n None is same h = h
  numbered id place at n (Some number) is same h =
      let ns = nodes_of bytes in
      let within = rule_there ns n (found (λ m. names id place (as_rule m)) (rule_nodes ns) n is).0 in
      record {
        rule = as_rule n;
        names = named_some (rule_nodes ns) id place n is;
        there = there number at h ∙ ap (λ (m : Node). Some (as_rule m)) (ap (node_in bytes) same ∙ node_in_place bytes n checked.spelled within.0);
      }
