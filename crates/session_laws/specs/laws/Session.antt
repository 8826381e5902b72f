-- Sessions of the contracts, in the words of the chapters.
use Rattle.std.specs.Prelude.{◌≡◌, ℕ, List}
use Rattle.std.specs.List.{AllByRecursion}
use Rattle.browser_rules.specs.Session as chapter
use Rattle.hii_bytes.specs.Numbers.{AreBytes}
use Rattle.hii_varstore.specs.Stores.{StoreMap, shape_of}
use Rattle.session_steps.specs.Opening.{layout_in, IsBrowsable}
use Rattle.session_steps.specs.State.{State}
use Rattle.session_steps.specs.Step.{Outcome}
use Rattle.session_laws.specs.Replies.{reply_for}
use Rattle.rules_laws.specs.laws.Stores.{stores_for}

unfoldable pub state_for : State → chapter.State
state_for s = record {
  ifr = s.ifr;
  path = s.path;
  removed = s.removed;
  spoken = s.spoken;
  language = s.language;
  committed = stores_for s.committed;
  working = stores_for s.working;
  form = s.form;
  history = s.history;
}

abbrev pub outcome_for : Outcome → chapter.Outcome
outcome_for o = record { state = state_for o.state; text = o.text; reply = reply_for o.reply }

-- ---- what holds of a session from its opening on

-- Stores of a package are those that it declares, and hold bytes.
pub record AreStored (ifr : List ℕ) (stores : StoreMap) : Type 0 where
  pub laid : shape_of stores ≡ layout_in ifr
  pub are_bytes : AllByRecursion (λ s. AreBytes s.bytes) stores.stores

-- The package can be browsed, and its bytes are bytes.
pub record Stands (s : State) : Type 0 where
  pub browsable : IsBrowsable s.ifr
  pub are_bytes : AreBytes s.ifr
  pub committed : AreStored s.ifr s.committed
  pub working : AreStored s.ifr s.working
