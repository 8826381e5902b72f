use Rattle.std.proofs.Common.{subst}
use Rattle.std.proofs.lemmas.Bool.{and_parts}
use Rattle.hii_bytes.specs.Watching.{pen_of, Writes}
use Rattle.hii_bytes.proofs.WritingLemmas.{◌⨾◌}
use Rattle.config_text.proofs.GroupLemmas.{fours_are_pairs, words_as_pairs}
use Rattle.config_text.proofs.header.Header.put.Goals as goal

pub put_pairs-requires-2 : goal.put_pairs-requires-2
put_pairs-requires-2 g c =
    let header = c.args.self.now in
    fours_are_pairs header.name.now (and_parts _ _ (and_parts _ _ header.digits).1).0

pub returns : goal.returns
returns g c =
    let header = c.args.self.now in
    let before = pen_of g.W.Write.contents c.put-2.new.self in
    let after = pen_of g.W.Write.contents c.put_pairs-2.new.out in
    let name = subst (Writes before after) (words_as_pairs header.name.now (and_parts _ _ (and_parts _ _ header.digits).1).0) c.put_pairs-2.ensures in
    c.put.ensures ⨾ c.put_pairs.ensures ⨾ c.put-2.ensures ⨾ name ⨾ c.put-3.ensures ⨾ c.put_pairs-3.ensures
