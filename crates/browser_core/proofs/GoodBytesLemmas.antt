-- Good bytes have no fault and open a session, and what opens one are good bytes.
use Rattle.std.proofs.Common.{ℕ, List, [], refl, ap, subst}
use Rattle.browser_rules.specs.Packages.{device_path}
use Rattle.browser_rules.specs.Strings.{chosen}
use Rattle.hii_bytes.specs.Faults.{HasNone}
use Rattle.ifr_opcodes.specs.Forest.{places}
use Rattle.ifr_nodes.specs.Nodes.{nodes_of}
use Rattle.hii_varstore.specs.Image.{SpellsImage}
use Rattle.guard_policy.specs.World.{removed_at}
use Rattle.session_steps.specs.Opening.{layout_in, IsBrowsable, IsOpenFault, Opens}
use Rattle.session_steps.specs.State.{State}
use Rattle.browser_commands.proofs.FormLemmas.{first_of}
use Rattle.browser_commands.proofs.OpeningLemmas.{sound_no_fault}
use Rattle.browser_core.specs.laws.Good.{AreGood}
use Rattle.rules_laws.proofs.PackageLemmas.{accepted_where_good, asked_where_good, stored_where_good, good_where_accepted}
use Rattle.rules_laws.specs.laws.Packages.{IsGoodPackage}

browsable_where_good : (ifr : List ℕ) → IsGoodPackage ifr → IsBrowsable ifr
browsable_where_good ifr good = record { accepted = accepted_where_good ifr good; stores = stored_where_good ifr good; questions = asked_where_good ifr good }

pub good_where_browsable : (ifr : List ℕ) → IsBrowsable ifr → IsGoodPackage ifr
good_where_browsable ifr browsable = good_where_accepted ifr browsable.accepted browsable.stores browsable.questions

pub good_no_fault : (list : List ℕ) (n : ℕ) (image : List ℕ) → AreGood list n image → HasNone (IsOpenFault list n image)
good_no_fault list n image g = sound_no_fault list n image g.source g.spoken g.stores g.found g.texts (browsable_where_good g.source.bytes g.good) g.image_is

pub opens_good : (list : List ℕ) (n : ℕ) (image language : List ℕ) (start : State) → Opens list n image language start → AreGood list n image
opens_good list n image language start o = record {
  source = o.source;
  found = o.found;
  spoken = start.spoken;
  texts = o.texts;
  good = good_where_browsable o.source.bytes (subst IsBrowsable o.bytes o.browsable);
  stores = start.working;
  image_is = subst (λ ifr. SpellsImage (layout_in ifr) image start.working) o.bytes o.stores;
}

pub opens_where_good : (list : List ℕ) (n : ℕ) (image language : List ℕ) → AreGood list n image → (start : State) × Opens list n image language start
opens_where_good list n image language g =
    let ifr = g.source.bytes in
    let browsable = browsable_where_good ifr g.good in
    let first = first_of ifr browsable.accepted in
    let start : State = record {
      ifr = ifr;
      path = device_path list;
      removed = removed_at (nodes_of ifr) g.stores;
      spoken = g.spoken;
      language = chosen g.spoken language;
      committed = g.stores;
      working = g.stores;
      form = first.0.place;
      history = [];
    } in (
      start,
      record {
        source = g.source;
        found = g.found;
        bytes = refl;
        path = refl;
        texts = g.texts;
        language_is = refl;
        browsable = browsable;
        stores = g.image_is;
        submitted = refl;
        removed = refl;
        others = places first.1;
        forms = ap places first.2;
        history = refl;
      },
    )
