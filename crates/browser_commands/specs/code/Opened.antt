-- What is read of a forms package and of an image when a session is opened.
use Rattle.std.specs.Prelude.{◌≡◌, ◌≤◌, List, ℕ, length, vec_capacity}
use Rattle.hii_varstore.specs.Image.{SpellsImage}
use Rattle.hii_varstore.specs.code.Table.{AreBuffers}
use Rattle.ifr_nodes.specs.Nodes.{nodes_of}
use Rattle.hii_questions.specs.Fields.{questions}
use Rattle.guard_policy.specs.World.{removed_at}
use Rattle.session_steps.specs.Opening.{layout_in, IsBrowsable}
use Rattle.browser_commands.specs.declared.opening.FormSetParts.{FormSetParts}
use Rattle.browser_commands.specs.declared.opening.HeldStores.{HeldStores}

-- The package can be browsed, and its parts are its own.
pub record AreRead (parts : FormSetParts) : Type 0 where
  pub browsable : IsBrowsable parts.forms
  pub named_stores : parts.varstores ≡ parts.forms
  pub laid : parts.layout ≡ layout_in parts.forms
  pub buffers : AreBuffers (layout_in parts.forms).buffers
  pub together : parts.questions ≡ record { ifr = parts.forms }

-- All stores are those that the image spells, and there is room for the ids of all questions.
pub record AreHeld (ifr image : List ℕ) (held : HeldStores) : Type 0 where
  pub spelled : SpellsImage (layout_in ifr) image held.committed
  pub removed : held.removed ≡ removed_at (nodes_of ifr) held.committed
  pub working : held.working ≡ record { ifr = ifr; stores = held.committed; renewed = 0 }
  pub spare : held.spare ≡ held.committed
  pub room : length (questions (nodes_of ifr)) ≤ vec_capacity held.changed
