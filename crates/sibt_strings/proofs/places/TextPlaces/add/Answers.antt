use Rattle.sibt_strings.proofs.TableLemmas.{tabled_push, tabled_full}
use Rattle.sibt_strings.proofs.places.TextPlaces.add.Goals as goal

pub returns-in_ok-push : goal.returns-in_ok-push
returns-in_ok-push c = λ bytes texts t.
    rw c.in_ok-push.ensures.items (tabled_push bytes texts c.args.self.now.places.items c.in-Some.id c.args.place c.args.self.now.next c.id_behind-self.result c.in-Some.is t c.id_behind-self.ensures)

pub returns-in_default : goal.returns-in_default
returns-in_default c = λ bytes texts t. tabled_full bytes texts c.args.self.now.places.items _ c.args.self.now.next c.in_default.is t
