use Rattle.std.proofs.Common.{ℕ, List, ◌++◌, ap, subst, ◌∙◌, rules}
use Rattle.std.specs.List.Sorted.{IsStableByKey}
use Rattle.std.specs.Ordering.{nat_cmp}
use Rattle.std.proofs.lemmas.List.Sorted.{answers_always}
use Rattle.ifr_nodes.specs.Nodes.{nodes_of}
use Rattle.check_audit.specs.GivenDefaults.{default_warnings}
use Rattle.check_audit.specs.Overlaps.{AreLaid}
use Rattle.check_audit.specs.Warnings.{asks_warnings, bounds_warnings, order_of, unreached_warnings}
use Rattle.check_audit.specs.declared.warning.Warning.{Warning}
use Rattle.check_audit.proofs.WarningLemmas.{all_added}
use Rattle.check_audit.proofs.warnings.warnings_of.Goals as goal

pub returns-clause-warned : goal.returns-clause-warned
returns-clause-warned c =
    let ns = nodes_of c.args.forms in
    let overlaps = c.in_ok-add_overlaps.ensures in
    let textless = rw c.bytes-ifr.ensures.bytes at c.in_ok-add_textless.ensures in
    let constant = rw c.bytes-ifr.ensures.bytes at c.in_ok-add_constants.ensures in
    let added = c.in_ok-extend_from_slice.ensures.items ∙ ap (λ (l : List Warning). c.add_constants.new.warnings.items ++ l) c.deref-2.ensures.value in
    let all = all_added _ _ _ _ _ _ _ (asks_warnings ns) (bounds_warnings ns) _ (default_warnings c.args.strings.now ns) (unreached_warnings ns) _ _ _ c.in_ok-found.ensures.front constant c.in_ok-found.ensures.behind added overlaps.2 c.in_ok-add.ensures textless in
    record {
      laid = overlaps.0;
      fields = subst (λ (ifr : List ℕ). AreLaid (nodes_of ifr) overlaps.0) c.requires overlaps.1;
      sorted = rw c.shrink_to_fit.ensures.items (c.in_ok-sort_by_key.ensures.sorted order_of (answers_always _ _ _ (λ e a r g called. search rules)));
      all = rw c.shrink_to_fit.ensures.items (subst (λ (l : List Warning). IsStableByKey order_of nat_cmp l c.sort_by_key.new.self.items) all (c.in_ok-sort_by_key.ensures.stable order_of (answers_always _ _ _ (λ e a r g called. search rules))));
    }
