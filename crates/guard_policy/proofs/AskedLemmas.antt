-- The conditions of a decision are met one after the other.
use Rattle.std.proofs.Common.{◌≡◌, ℕ, Option, Some, None, List, [], ◌∷◌, ◌++◌, sym, ap, subst, ◌∙◌}
use Rattle.std.specs.Prelude.{◌==◌, MatchOption, filter}
use Rattle.std.specs.List.{flat_map}
use Rattle.std.proofs.lemmas.List.{append-nil}
use Rattle.ifr_opcodes.specs.declared.codes.TheConstants.{SUPPRESS_IF, GRAY_OUT_IF}
use Rattle.ifr_opcodes.specs.Forest.{Node}
use Rattle.ifr_opcodes.specs.Opcode.{number}
use Rattle.ifr_nodes.specs.code.Checked.{AreNodesOf}
use Rattle.ifr_nodes.specs.Guards.{guards}
use Rattle.ifr_scopes.specs.code.Parts.{option_node}
use Rattle.ifr_scopes.specs.declared.option_view.OptionView.{OptionView}
use Rattle.guard_policy.specs.laws.Support.{suppressing, around}
use Rattle.guard_policy.proofs.OptionLemmas.{rest_of}

abbrev suppressing_among : List Node → List Node
suppressing_among gs = filter (λ g. number g.op == SUPPRESS_IF) gs

abbrev graying_out_among : List Node → List Node
graying_out_among gs = filter (λ g. number g.op == GRAY_OUT_IF) gs

-- the conditions around a node are among the guards that are looked up at its place
pub suppressing_there : (n : Node) (gs : List Node) → gs ≡ guards n → suppressing_among gs ++ [] ≡ suppressing n
suppressing_there n gs e = append-nil (suppressing_among gs) ∙ ap suppressing_among e

pub around_there : (n : Node) (gs hs : List Node) → gs ≡ guards n → hs ≡ guards n → suppressing_among gs ++ graying_out_among hs ≡ around n
around_there n gs hs e d = ap (λ (l : List Node). suppressing_among l ++ graying_out_among hs) e ∙ ap (λ (l : List Node). suppressing n ++ graying_out_among l) d

-- behind the last of one piece stands the next piece
pub next_piece : {A : Type 0} (f : Node → List A) (ns : List Node) (n : Node) (rest : List Node) (none piece : List A) → none ≡ [] → ns ≡ n ∷ rest → piece ≡ f n → piece ++ flat_map f rest ≡ none ++ flat_map f ns
next_piece f ns n rest none piece over e same =
    ap (λ l. l ++ flat_map f rest) same ∙ ap (flat_map f) (sym e) ∙ ap (λ l. l ++ flat_map f ns) (sym over)

-- the options behind a node of a package are nodes of it
pub later_nodes : (bytes : List ℕ) (left rest : List Node) (found : Option OptionView) → MatchOption found ((left ≡ []) × (rest ≡ [])) (λ o. left ≡ option_node o ∷ rest) → AreNodesOf bytes left → AreNodesOf bytes rest
later_nodes bytes left rest None e all = subst (AreNodesOf bytes) (e.0 ∙ sym e.1) all
later_nodes bytes left rest (Some o) e all = rest_of bytes left (option_node o) rest e all
