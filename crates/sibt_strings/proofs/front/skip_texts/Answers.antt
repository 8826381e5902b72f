use Rattle.std.proofs.Common.{◌+◌, ◌-◌, ap, sym, ◌∙◌, arith}
use Rattle.std.specs.Option.{option_map}
use Rattle.sibt_strings.proofs.EndLemmas.{ends_trans}
use Rattle.sibt_strings.proofs.TextLemmas.{rest_of_texts-found, rest_of_texts-none, rest_of_texts-all}
use Rattle.sibt_strings.proofs.front.skip_texts.Goals as goal

pub loop-preserved : goal.loop-preserved
loop-preserved c = record {
  inside = ends_trans c.loop.invariant.inside c.in_ok-behind.ensures.rest;
  same =
      sym (rest_of_texts-found (c.args.count - c.loop.counter) (c.args.count - (c.loop.counter + 1)) c.loop.rest.now _ _ (omega arith) (sym c.in_ok-behind.ensures.text)) ∙ c.loop.invariant.same;
}

pub returns-clause-behind : goal.returns-clause-behind
returns-clause-behind c = sym (rest_of_texts-all (c.args.count - c.loop.counter) c.loop.rest.now (omega arith)) ∙ c.loop.invariant.same

pub returns-in_err-behind-clause-behind : goal.returns-in_err-behind-clause-behind
returns-in_err-behind-clause-behind c =
    ap (option_map (λ rest. rest.now)) c.from_residual.ensures
    ∙ sym (rest_of_texts-none (c.args.count - c.loop.counter) (c.args.count - (c.loop.counter + 1)) c.loop.rest.now (omega arith) (sym c.in_err-behind.ensures.text)) ∙ c.loop.invariant.same
