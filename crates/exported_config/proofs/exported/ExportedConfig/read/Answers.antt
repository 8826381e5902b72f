use Rattle.std.proofs.Common.{◌≡◌, List, map, map-id, filter, ap, sym, ◌∙◌, Ok, Result}
use Rattle.std.proofs.lemmas.Iterator.Adapters.{YieldsList-from_vec}
use Rattle.std.proofs.lemmas.Iterator.Consumers.{YieldsList-end}
use Rattle.exported_config.specs.Exported.{Response, responses_in, then_read}
use Rattle.exported_config.specs.Giving.{is_other, is_own, parted}
use Rattle.exported_config.specs.code.Views.{named_view, responses_view}
use Rattle.exported_config.specs.declared.unread.BadResponse.{BadResponse}
use Rattle.exported_config.proofs.PartLemmas.{one_more}
use Rattle.exported_config.proofs.exported.ExportedConfig.read.Goals as goal

pub loop-response-preserved : goal.loop-response-preserved
loop-response-preserved c =
    let stores = map named_view c.args.stores.now in
    let r = c.in-Some.response in (
      one_more (is_own stores) _ c.loop-response.yielded r _ c.loop-response.invariant.0 c.in_ok-take.ensures.own,
      one_more (is_other stores) _ c.loop-response.yielded r _ c.loop-response.invariant.1 c.in_ok-take.ensures.others,
    )

pub returns : goal.returns
returns c =
    let stores = map named_view c.args.stores.now in
    let items = c.in_ok-response-items.response-items.items in
    let road = YieldsList-from_vec {s = c.into_iter-response-iterator.result} items c.into_iter-response-iterator.ensures.into_iter_gives.0 (c.into_iter-response-iterator.ensures.into_iter_gives.1 ∙ c.in_ok-response-items.response-items.ok.0) in
    let end = YieldsList-end road c.loop-response.yielded c.loop-response.response-iterator c.loop-response.yielded_by c.next.result c.next.new.self c.in-None.is c.next.ensures.steps in
    let all : responses_view c.loop-response.yielded ≡ responses_view items = ap responses_view (sym (map-id c.loop-response.yielded) ∙ end.0) in
    let read : responses_in c.args.text.now ≡ Ok (responses_view items) = c.in_ok-response-items.ensures in
    ap (λ (r : Result (List Response) BadResponse). then_read r (λ responses. Ok (parted stores responses))) read
    ∙ ap (λ (l : List Response). Ok (parted stores l)) (sym all)
    ∙ ap (λ (own : List Response). Ok (record { own = own; others = filter (is_other stores) (responses_view c.loop-response.yielded) })) (sym c.loop-response.invariant.0)
    ∙ ap (λ (others : List Response). Ok (record { own = responses_view c.loop-response.config.own.items; others = others })) (sym c.loop-response.invariant.1)
