use Rattle.std.proofs.Common.{◌≡◌, ℕ, Bool, false, List, get_or, map, ap, ◌∙◌, arith}
use Rattle.std.proofs.lemmas.Grind.{common_steps}
use Rattle.ifr_nodes.specs.Guards.{guards_among}
use Rattle.ifr_nodes.specs.Nodes.{nodes_of}
use Rattle.ifr_scopes.specs.code.Lists.{guard_node, guard_package}
use Rattle.ifr_index.specs.code.Tables.{guards_before}
use Rattle.question_audit.proofs.FlagLemmas.{flag_there}
use Rattle.question_audit.proofs.guard_table.flag_of.Goals as goal

pub bounds-flags-unwrap : goal.bounds-flags-unwrap
bounds-flags-unwrap c =
    let guard = c.args.guard in
    let told : c.unwrap.result ≡ guards_before (nodes_of (guard_package guard)) (guard_node guard).place = grind (arith, common_steps) in
    omega (arith, told, c.requires.all, (flag_there (λ n. false) guard.ifr.now guard.place guard.checked.spelled guard.stands).within)

pub returns : goal.returns
returns c = λ flag e.
    let guard = c.args.guard in
    let ns = nodes_of (guard_package guard) in
    let told : c.unwrap.result ≡ guards_before ns (guard_node guard).place = grind (arith, common_steps) in
    ap (λ (fl : List Bool). get_or fl c.unwrap.result false) e ∙ ap (λ (k : ℕ). get_or (map flag (guards_among ns)) k false) told
    ∙ (flag_there flag guard.ifr.now guard.place guard.checked.spelled guard.stands).is
