use Rattle.std.proofs.Common.{◌≡◌, ◌+◌, ℕ, None, Option, length, sym, subst, arith}
use Rattle.sibt_strings.specs.code.Table.{place_of, Rises}
use Rattle.sibt_strings.proofs.TableLemmas.{tabled_no_duplicate}
use Rattle.sibt_strings.proofs.places.TextPlaces.add_duplicate.Goals as goal

pub returns-in-None : goal.returns-in-None
returns-in-None c = λ bytes texts t.
    let places = c.args.self.now.places.items in
    let found = subst (λ ps. ◌≡◌ {A = Option ℕ} None (place_of ps c.args.other)) c.deref.ensures.value
    (c.in-None.ensures 1 (length texts + 1) (subst (Rises 1 (length texts + 1)) (sym c.deref.ensures.value) t.table.rise)) in
    tabled_no_duplicate bytes texts places c.skip.new.self.places.items c.args.self.now.next c.skip.new.self.next c.args.other t (omega arith) found (c.skip.ensures bytes texts t)
