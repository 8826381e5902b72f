use Rattle.std.proofs.Common.{◌∙◌, ◌++◌, [], ◌∷◌, ap, filter, is_some, subst, sym}
use Rattle.hii_bytes.specs.Watching.{Writes}
use Rattle.hii_bytes.proofs.WritingLemmas.{◌⨾◌, writes_nil}
use Rattle.ifr_scopes.specs.code.Lists.{store_node}
use Rattle.store_audit.specs.Fillings.{has_bytes}
use Rattle.store_audit.proofs.HeaderLemmas.{told_more, one_more, read_more}
use Rattle.store_audit.proofs.header_lines.put_headers.Goals as goal

pub loop-store-init : goal.loop-store-init
loop-store-init g c = record {
  can = tt;
  ends = tt;
  done = [];
  all = ap (filter has_bytes) c.stores-stores.ensures.stores;
  text = writes_nil _;
  read = tt;
}

pub loop-store-preserved-then-is_some : goal.loop-store-preserved-then-is_some
loop-store-preserved-then-is_some g c =
    let inv = c.loop-store.invariant in
    let n = store_node c.in-Some.store in
    let holds = ap is_some (sym c.size.ensures) ∙ sym c.is_some.ensures ∙ c.if-is_some.true in
    record {
      can = tt;
      ends = tt;
      done = inv.done ++ n ∷ [];
      all = one_more _ _ _ n inv.done c.in-Some.ensures.steps holds inv.all;
      text = subst (Writes _ _) (told_more c.args.telling c.args.path.now inv.done n) (inv.text ⨾ c.put_header_told.ensures.text);
      read = read_more c.args.path.now inv.done n inv.read c.put_header_told.ensures.read_back;
    }
