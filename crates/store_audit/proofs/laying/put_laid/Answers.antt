use Rattle.std.proofs.Common.{◌≡◌, ap, sym}
use Rattle.hii_bytes.proofs.WritingLemmas.{◌⨾◌}
use Rattle.laid_defaults.specs.Laying.{Laid}
use Rattle.store_audit.specs.Defaulted.{laid_over}
use Rattle.store_audit.specs.code.Defaulted.{defaults_view}
use Rattle.store_audit.proofs.laying.put_laid.Goals as goal

pub returns-clause-text : goal.returns-clause-text
returns-clause-text g c =
    let laid = rw c.forms.ensures at c.lay_defaults-count.ensures.laid in
    let count : c.lay_defaults-count.result ≡ (laid_over c.args.declared.now (defaults_view c.args.defaults) c.args.stores.now).count = sym (ap (λ (l : Laid). l.count) laid) in
    c.put_count.ensures (laid_over c.args.declared.now (defaults_view c.args.defaults) c.args.stores.now) (sym count)
