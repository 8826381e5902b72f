use Rattle.std.proofs.Common.{◌≡◌, ℕ, List, Option, Some, None, sym, subst}
use Rattle.std.specs.Prelude.{IfSome, option_map}
use Rattle.ifr_nodes.specs.Accepted.{IsAccepted}
use Rattle.ifr_nodes.specs.Nodes.{nodes_of}
use Rattle.ifr_nodes.specs.ReferenceFaults.{form_with}
use Rattle.ifr_nodes.specs.code.Checked.{IsNodeOf}
use Rattle.ifr_scopes.specs.code.Lists.{form_node}
use Rattle.ifr_scopes.specs.declared.form.Form.{Form}
use Rattle.session_steps.specs.State.{State}
use Rattle.browser_commands.proofs.FollowLemmas.{form_is_node}
use Rattle.browser_commands.proofs.Browsers.{seen}
use Rattle.browser_commands.proofs.browser.Browser.form_of.Goals as goal

found_node : (ifr : List ℕ) (id : ℕ) (o : Option Form) → IsAccepted ifr → option_map form_node o ≡ form_with (nodes_of ifr) id → IfSome o (λ form. IsNodeOf ifr (form_node form))
found_node ifr id None accepted e = tt
found_node ifr id (Some form) accepted e = form_is_node ifr id (form_node form) accepted (sym e)

pub returns-clause-node : goal.returns-clause-node
returns-clause-node c =
    subst (λ (s : State). IfSome c.form.result (λ form. IsNodeOf s.ifr (form_node form))) (seen c.self.view_is)
    (found_node c.self.inside.forms c.in_ok-id.field-0 c.form.result c.self.invariant.browsable.accepted c.form.ensures)
