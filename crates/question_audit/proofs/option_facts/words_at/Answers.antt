use Rattle.std.proofs.Common.{◌≡◌, ℕ, Bool, List, true, sym, ap, ◌∙◌}
use Rattle.std.specs.Prelude.{◌==◌}
use Rattle.std.specs.List.{find}
use Rattle.ifr_opcodes.specs.Forest.{Node}
use Rattle.ifr_scopes.specs.code.Parts.{option_node}
use Rattle.guard_policy.proofs.IndexedLemmas.{of_option}
use Rattle.question_audit.proofs.AroundLemmas.{guards_found, same_forms}
use Rattle.question_audit.proofs.option_facts.words_at.Goals as goal

abbrev is_at : ℕ → Node → Bool
is_at place n = n.place == place

pub loop-guard-init : goal.loop-guard-init
loop-guard-init g c =
    let page = c.args.page in
    let n = option_node c.args.option in
    let found = guards_found page.policy n _ c.place.result _ c.requires (of_option n c.args.option.option) (sym c.place.ensures) (same_forms _ c.policy.result page.policy c.forms.ensures c.policy.ensures) c.guards_at-guards.ensures.guards in
    ap (find (is_at c.args.place)) found
