-- Denials and worlds of the contracts, as the chapters have them.
use Rattle.std.specs.Prelude.{◌≡◌, ℕ, true, List, Contains}
use Rattle.browser_rules.specs.Opcodes.{wants_expression}
use Rattle.browser_rules.specs.Policy as chapter
use Rattle.browser_rules.specs.Questions as questions
use Rattle.browser_rules.specs.Stores.{Stores}
use Rattle.ifr_opcodes.specs.Forest.{Node}
use Rattle.ifr_nodes.specs.Nodes.{nodes_of}
use Rattle.hii_varstore.specs.Stores.{StoreMap}
use Rattle.hii_questions.specs.Answers.{answers}
use Rattle.guard_policy.specs.World.{World}
use Rattle.rules_laws.specs.laws.Opcodes.{value_for, IsSmall}

-- Two worlds have the nodes of one package. The same was removed in them, and of the nodes whose scopes begin with a condition the
-- same are met.
pub record AreAlike (bytes : List ℕ) (w : chapter.World) (v : World) : Type 0 where
  pub nodes : w.nodes ≡ nodes_of bytes
  pub same_nodes : v.nodes ≡ nodes_of bytes
  pub removed : w.removed ≡ v.removed
  pub met : (n : Node) → Contains (nodes_of bytes) n → wants_expression n.op ≡ true
      → chapter.is_met w n ≡ v.met n

-- Over these stores questions answer the same, and numbers have at most 64 bits.
pub record AnswerAlike (ns : List Node) (stores : Stores) (held : StoreMap) : Type 0 where
  pub same : (id : ℕ) → questions.answers ns stores id ≡ value_for (answers ns held id)
  pub small : (id : ℕ) → IsSmall (answers ns held id)
