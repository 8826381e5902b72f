-- Warnings of guards stand where guards stand.
use Rattle.std.proofs.Common.{◌≡◌, ℕ, true, ap, ◌∙◌, List, [], ◌∷◌, filter, map, arith, refl}
use Rattle.std.specs.Prelude.{Contains}
use Rattle.std.proofs.lemmas.Bool.{cond_both}
use Rattle.browser_rules.specs.Strings.{Spoken}
use Rattle.ifr_opcodes.specs.Forest.{Node}
use Rattle.ifr_opcodes.specs.Opcode.{number}
use Rattle.ifr_nodes.specs.Checked.{IsChecked}
use Rattle.ifr_nodes.specs.Guards.{guards_among, is_guard}
use Rattle.ifr_nodes.specs.Nodes.{nodes_of}
use Rattle.ifr_nodes.proofs.ViewLemmas.{further, is_at}
use Rattle.check_audit.specs.Constants.{constant_at, is_constant}
use Rattle.check_audit.specs.Lacks.{Lack}
use Rattle.check_audit.specs.Warnings.{AreWarnings}
use Rattle.check_audit.specs.code.Standing.{AllStand, IsGuardAt, StandsIn}
use Rattle.check_audit.specs.declared.warning.Warning.{Warning}
use Rattle.check_audit.proofs.EachLemmas.{each_warning}

guard_stands : (ifr : List ℕ) (n : Node) → IsChecked ifr → Contains (nodes_of ifr) n → is_guard (number n.op) ≡ true → IsGuardAt ifr n.place
guard_stands ifr n checked within is =
    let at = is_at ifr n checked.spelled within in
    record { checked = checked; there = at.there; guard = ap (λ (op : List ℕ). is_guard (number op)) at.opcode ∙ is }

-- those of some nodes of a package
constants_stand : (ifr : List ℕ) (some : List Node) → IsChecked ifr → ((n : Node) → Contains some n → Contains (nodes_of ifr) n)
    → AllStand ifr (map (constant_at (nodes_of ifr)) (filter (is_constant (nodes_of ifr)) (guards_among some)))
constants_stand ifr [] checked within = tt
constants_stand ifr (n ∷ some) checked within =
    let ns = nodes_of ifr in
    let guards = guards_among some in
    let left = filter (is_constant ns) guards in
    let later = constants_stand ifr some checked (λ m there. within m (further n some m there)) in
    cond_both (is_guard (number n.op)) (n ∷ guards) guards (λ l. AllStand ifr (map (constant_at ns) (filter (is_constant ns) l)))
    (λ is. cond_both (is_constant ns n) (n ∷ left) left (λ l. AllStand ifr (map (constant_at ns) l)) (λ _. (guard_stands ifr n checked (within n (0, omega arith, refl)) is, later)) (λ _. later))
    (λ _. later)

pub warnings_stand : (spoken : List Spoken) (lacks : List Lack) (ifr : List ℕ) (ws : List Warning) → IsChecked ifr → AreWarnings spoken lacks ifr ws → AllStand ifr ws
warnings_stand spoken lacks ifr ws checked are =
    each_warning (StandsIn ifr) spoken lacks ifr ws
    record {
      asks = λ place id is_there. tt;
      bounds = λ place k. tt;
      constant = constants_stand ifr (nodes_of ifr) checked (λ n there. there);
      default = λ q n denial. tt;
      language = λ k. tt;
      overlap = λ place question other. tt;
      text = λ place id. tt;
      unreached = λ place form. tt;
    }
    are
