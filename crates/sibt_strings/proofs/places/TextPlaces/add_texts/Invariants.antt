use Rattle.sibt_strings.proofs.TableLemmas.{Node}
use Rattle.sibt_strings.proofs.places.TextPlaces.add_texts.Given as goal

-- the texts before the rest have places
abbrev pub invariant-loop : goal.invariant-loop
invariant-loop l = Node l.blocks l.texts l.count l.initial.self l.counter l.rest l.self
