-- What is looked up around a node of a page.
use Rattle.std.proofs.Common.{◌≡◌, ℕ, true, List, ap, ◌∙◌}
use Rattle.ifr_opcodes.specs.Forest.{Node}
use Rattle.ifr_nodes.specs.Guards.{guards}
use Rattle.ifr_nodes.specs.Nodes.{nodes_of}
use Rattle.ifr_nodes.specs.code.Checked.{IsNodeOf}
use Rattle.ifr_index.specs.code.Index.{guards_of_indexed, is_indexed}
use Rattle.guard_policy.specs.code.Views.{bytes_of}
use Rattle.guard_policy.specs.declared.policy.Policy.{Policy}
use Rattle.guard_policy.proofs.IndexedLemmas.{guards_there}

-- The policy of a page and its form set are those that are asked.
pub same_forms : (forms : List ℕ) (asked policy : Policy) → forms ≡ bytes_of asked → asked ≡ policy → forms ≡ bytes_of policy
same_forms forms asked policy e f = e ∙ ap bytes_of f

-- the guards that are looked up at the place of a node are its guards
pub guards_found : (policy : Policy) (n : Node) (forms : List ℕ) (place : ℕ) (gs : List Node) → IsNodeOf (bytes_of policy) n → is_indexed n ≡ true → n.place ≡ place → forms ≡ bytes_of policy
    → gs ≡ guards_of_indexed (nodes_of forms) place → gs ≡ guards n
guards_found policy n forms place gs node indexed at same e =
    guards_there (bytes_of policy) n place gs policy.accepted.checked.spelled node indexed at (e ∙ ap (λ (b : List ℕ). guards_of_indexed (nodes_of b) place) same)
