use Rattle.std.proofs.Common.{◌∙◌, ◌++◌, List, Bool, ap, subst, sym}
use Rattle.std.specs.Prelude.{filter}
use Rattle.check_audit.specs.Warnings.{firsts}
use Rattle.check_audit.specs.code.Naming.{AddsFirsts, is_unnamed}
use Rattle.check_audit.specs.declared.warning.Oddity.TheVariants.{Text}
use Rattle.check_audit.specs.declared.warning.Warning.{Warning}
use Rattle.check_audit.proofs.TextlessLemmas.{named_again, named_first, of_other, of_textless}
use Rattle.check_audit.proofs.textless.add_id.Goals.{else-is_textless-via-then-is_textless+else-insert, else-is_textless-via-else-is_textless}
use Rattle.check_audit.proofs.textless.add_id.Goals as goal

pub returns-in_ok-push : goal.returns-in_ok-push
returns-in_ok-push c =
    let w : Warning = record { place = c.args.place; oddity = Text c.args.id } in
    let is = of_textless c.args.strings.now c.args.place c.args.id (sym c.is_textless.ensures ∙ c.if-is_textless.true) in
    let old = c.args.warnings.now.items in
    subst (AddsFirsts c.args.named.now c.insert.new.self old c.push.new.self.items) (sym is)
    (named_first c.args.named.now c.insert.new.self w c.insert.ensures.numbers old c.push.new.self.items (c.in_ok-push.ensures.items) (sym c.if-insert.true ∙ c.insert.ensures.new))

pub returns-else-is_textless : goal.returns-else-is_textless
returns-else-is_textless c =
    let w : Warning = record { place = c.args.place; oddity = Text c.args.id } in
    let items = c.args.warnings.now.items in
    elim c.else-is_textless.branch [
      | else-is_textless-via-then-is_textless+else-insert d ↦
          let is = of_textless c.args.strings.now c.args.place c.args.id (sym c.is_textless.ensures ∙ d.if-is_textless.true) in
          let again = named_again c.args.named.now d.insert.new.self w d.insert.ensures.numbers items (sym d.if-insert.false ∙ d.insert.ensures.new) in
          subst (λ (named : List Bool). AddsFirsts c.args.named.now named items items _) (sym d.named-is) (subst (AddsFirsts c.args.named.now d.insert.new.self items items) (sym is) again)
      | else-is_textless-via-else-is_textless d ↦
          let is = of_other c.args.strings.now c.args.place c.args.id (sym c.is_textless.ensures ∙ d.if-is_textless.false) in
          subst (AddsFirsts c.args.named.now c.else-is_textless.named items items) (sym is)
          (λ left. ap (λ (named : List Bool). items ++ filter (is_unnamed named) (firsts left)) d.named-is)
    ]
