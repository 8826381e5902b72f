use Rattle.rules_laws.proofs.StoreLemmas.{shape_same, size_of_same}
use Rattle.rules_laws.proofs.stores.shapes_are_those_of_the_chapters.Goals as goal

pub returns-clause-shape : goal.returns-clause-shape
returns-clause-shape c = shape_same

pub returns-clause-size : goal.returns-clause-size
returns-clause-size c = size_of_same
