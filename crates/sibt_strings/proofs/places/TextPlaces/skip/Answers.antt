use Rattle.sibt_strings.proofs.TableLemmas.{tabled_skip}
use Rattle.sibt_strings.proofs.places.TextPlaces.skip.Goals as goal

pub returns : goal.returns
returns c = λ bytes texts t. tabled_skip bytes texts _ _ _ c.args.count t c.id_behind-self.ensures
