use Rattle.std.proofs.Common.{length, sym, subst}
use Rattle.hii_bytes.specs.Watching.{pen_of, Writes}
use Rattle.browser_rules.specs.Configuration.{Header}
use Rattle.config_text.specs.code.Written.{header_text}
use Rattle.config_text.specs.Written.{AreInside}
use Rattle.config_text.specs.code.TextViews.{request_view}
use Rattle.config_text.proofs.WriteLemmas.{response_written, asked_inside}
use Rattle.config_text.proofs.write.put_response.Goals as goal

pub put_blocks-requires : goal.put_blocks-requires
put_blocks-requires g c =
    let size = length c.args.store.now in
    subst (λ areas. AreInside areas size) (sym c.blocks_asked.ensures) (asked_inside (request_view c.args.request.now).1 size c.requires.inside)

pub returns : goal.returns
returns g c =
    let view = request_view c.args.request.now in
    let before = pen_of g.W.Write.contents c.args.out.now in
    let after = pen_of g.W.Write.contents c.put.new.out in
    response_written view.0 c.args.store.now view.1 _ c.blocks_asked.ensures
    (subst (λ (named : Header). Writes before after (header_text named)) c.header.ensures c.put.ensures) c.put_blocks.ensures
