use Rattle.std.proofs.Common.{◌≡◌, ◌∙◌, ◌<◌, length, get_or, rules, sym, ap, false, [], arith, is_lt}
use Rattle.std.specs.Prelude.{option_map}
use Rattle.std.specs.Str.{str_eq_ignore_ascii_case}
use Rattle.std.proofs.lemmas.List.Sorted.{IsPartitionPoint-from_clause}
use Rattle.hii_languages.specs.code.Names.{text_order}
use Rattle.hii_languages.specs.declared.names.Name.{Name}
use Rattle.hii_languages.proofs.NameLemmas.{parted, first_there, first_past}
use Rattle.hii_languages.proofs.names.first_number.Goals as goal
use Rattle.hii_languages.proofs.names.first_number.Goals.{else-first-names-via-then-first-names+else-is_same, else-first-names-via-else-first-names}

pub returns-then-is_same : goal.returns-then-is_same
returns-then-is_same c =
    let names = c.args.names.now in
    let text = c.args.text.now in
    let first = c.partition_point-first.result in
    let split = IsPartitionPoint-from_clause (λ (n : Name). is_lt (text_order n.text.now text)) names first c.partition_point-first.ensures.partitioned (parted (λ (n : Name). n.text.now) text names c.requires) (λ a r q called. search rules) in
    sym (ap (option_map (λ (n : Name). n.number)) (first_there (λ (n : Name). n.text.now) text names first _ split c.if-first-names.true (sym c.is_same.ensures ∙ c.if-is_same.true)))

pub returns : goal.returns
returns c =
    let names = c.args.names.now in
    let text = c.args.text.now in
    let first = c.partition_point-first.result in
    let none : Name = record { text = record { ref_ptr = (0, 0); now = [] }; number = 0 } in
    let split = IsPartitionPoint-from_clause (λ (n : Name). is_lt (text_order n.text.now text)) names first c.partition_point-first.ensures.partitioned (parted (λ (n : Name). n.text.now) text names c.requires) (λ a r q called. search rules) in
    let other : first < length names → str_eq_ignore_ascii_case (get_or names first none).text.now text ≡ false = elim c.else-first-names.branch [
      | else-first-names-via-then-first-names+else-is_same w ↦ λ lt. sym w.is_same.ensures ∙ w.if-is_same.false
      | else-first-names-via-else-first-names w ↦ λ lt. absurd (omega (arith, w.if-first-names.false, lt))
    ] in
    sym (ap (option_map (λ (n : Name). n.number)) (first_past (λ (n : Name). n.text.now) text names first split c.requires none other))
