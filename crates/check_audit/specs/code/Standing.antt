-- Where warnings of guards stand.
use Rattle.std.specs.Prelude.{◌≡◌, ⊤, ℕ, true, List}
use Rattle.std.specs.List.{AllByRecursion}
use Rattle.ifr_opcodes.specs.Opcode.{number}
use Rattle.ifr_nodes.specs.Checked.{IsChecked}
use Rattle.ifr_nodes.specs.Guards.{is_guard}
use Rattle.ifr_nodes.specs.code.Checked.{has_node, node_in}
use Rattle.check_audit.specs.declared.warning.Oddity.{Oddity}
use Rattle.check_audit.specs.declared.warning.Oddity.TheVariants.{Constant}
use Rattle.check_audit.specs.declared.warning.Warning.{Warning}

-- a guard stands at this place of a checked package
pub record IsGuardAt (ifr : List ℕ) (place : ℕ) : Type 0 where
  pub checked : IsChecked ifr
  pub there : has_node ifr place ≡ true
  pub guard : is_guard (number (node_in ifr place).op) ≡ true

-- where a condition is told, a guard stands
abbrev pub Stands : List ℕ → ℕ → Oddity → Type 0
Stands ifr place (Constant holds) = IsGuardAt ifr place
Stands ifr place other = ⊤

abbrev pub StandsIn : List ℕ → Warning → Type 0
StandsIn ifr w = Stands ifr w.place w.oddity

abbrev pub AllStand : List ℕ → List Warning → Type 0
AllStand ifr ws = AllByRecursion (StandsIn ifr) ws
