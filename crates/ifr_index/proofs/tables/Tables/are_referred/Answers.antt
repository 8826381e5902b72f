use Rattle.std.proofs.Common.{List, ap, length, sym, ◌∙◌}
use Rattle.std.proofs.lemmas.Bool.{eq-eqb, eqb-true, false≢true}
use Rattle.std.proofs.lemmas.List.{nil_from_length}
use Rattle.hii_bytes.specs.declared.id_table.IdEntry.{IdEntry}
use Rattle.ifr_opcodes.specs.Forest.{Node}
use Rattle.std.specs.Prelude.{filter, map}
use Rattle.ifr_nodes.specs.Rules.{is_rule}
use Rattle.ifr_nodes.specs.code.FormIds.{form_entry}
use Rattle.ifr_index.proofs.ReferredLemmas.{all_referred, no_element}
use Rattle.ifr_index.proofs.tables.Tables.are_referred.Goals as goal

pub returns : goal.returns
returns c = λ known ns all.
    let it = c.args.self.now in
    all_referred ns (c.are_distinct.ensures known ns all.references)
    (λ none. false≢true (sym c.if-is_empty.false ∙ c.is_empty.ensures ∙ eq-eqb _ 0 (it.forms.ok.0 ∙ ap (λ (l : List IdEntry). length l) all.forms ∙ ap (λ (l : List Node). length (map form_entry l)) none)))
    (no_element (λ (n : Node). n.place) (filter is_rule ns) (sym all.rules ∙ nil_from_length it.rules.items (sym it.rules.ok.0 ∙ eqb-true _ _ (sym c.is_empty-2.ensures ∙ c.if-not-is_empty.false))))
