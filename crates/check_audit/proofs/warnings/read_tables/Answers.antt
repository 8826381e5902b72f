use Rattle.check_audit.proofs.WarningLemmas.{two_added}
use Rattle.check_audit.proofs.warnings.read_tables.Goals as goal

pub returns-clause-behind : goal.returns-clause-behind
returns-clause-behind c =
    two_added _ _ _ _ _ c.new-behind.ensures.items (rw c.requires at c.in_ok-add_defaults.ensures) c.in_ok-add_unreached.ensures

pub returns-clause-front : goal.returns-clause-front
returns-clause-front c =
    two_added _ _ _ _ _ c.new-front.ensures.items c.in_ok-add_asks.ensures c.in_ok-spans.ensures.added
