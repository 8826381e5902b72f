use Rattle.std.proofs.Common.{length, rules, sym}
use Rattle.std.proofs.lemmas.Bool.{ltb-true}
use Rattle.std.proofs.lemmas.List.Sorted.{answers_always}
use Rattle.ifr_index.specs.declared.index.Entry.{Entry}
use Rattle.hii_bytes.proofs.SearchLemmas.{searched, not_found}
use Rattle.ifr_index.proofs.PositionLemmas.{found_there}
use Rattle.ifr_index.proofs.index.entry_at.Goals as goal

pub returns-in-Ok : goal.returns-in-Ok
returns-in-Ok c = λ low rise.
    let by_key = c.in-Ok.ensures.position (λ x. x.place) (answers_always _ _ _ (λ f a r g called. search rules)) in
    sym (searched (λ (x : Entry). x.place) low c.args.place c.args.entries.now c.in-Ok.at _ rise c.in-Ok.ensures.bound by_key)

pub returns-in-Err : goal.returns-in-Err
returns-in-Err c = λ low rise.
    let by_key = c.in-Err.ensures.position (λ x. x.place) (answers_always _ _ _ (λ f a r g called. search rules)) in
    sym (not_found (λ (x : Entry). x.place) low c.args.place c.args.entries.now _ rise c.in-Err.ensures.bound by_key)

pub returns-then-entry-place : goal.returns-then-entry-place
returns-then-entry-place c = λ low rise.
    found_there (λ (x : Entry). x.place) low c.args.place c.args.position c.args.entries.now c.in-Some.entry.now rise
    (ltb-true c.args.position (length c.args.entries.now) (sym c.in-Some.ensures.lookup.0)) c.in-Some.ensures.lookup.1 c.if-entry-place.true
