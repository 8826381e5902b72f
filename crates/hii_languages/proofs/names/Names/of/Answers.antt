use Rattle.std.proofs.Common.{rules, is_lt}
use Rattle.std.proofs.lemmas.List.Sorted.{answers_always}
use Rattle.hii_languages.specs.code.Names.{text_order}
use Rattle.hii_languages.specs.declared.names.Name.{Name}
use Rattle.hii_languages.proofs.NameLemmas.{by_text, same_numbers}
use Rattle.hii_languages.proofs.names.Names.of.Goals as goal

pub invariant_of-result : goal.invariant_of-result
invariant_of-result c = c.in_ok-sort_by.ensures.sorted (λ (x y : Name). is_lt (text_order x.text.now y.text.now)) (by_text (λ (n : Name). n.text.now)) (answers_always _ _ _ (λ e a r g called. search rules))

pub returns : goal.returns
returns c = same_numbers c.args.names.items c.sort_by.new.self.items (c.in_ok-sort_by.ensures.stable (λ (x y : Name). is_lt (text_order x.text.now y.text.now)) (by_text (λ (n : Name). n.text.now)) (answers_always _ _ _ (λ e a r g called. search rules)))
