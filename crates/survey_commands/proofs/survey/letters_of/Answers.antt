use Rattle.std.proofs.Common.{◌∙◌, ℕ, Bor, List, Some, ap, chars, option_map, sym}
use Rattle.survey_audit.specs.Finding.{small}
use Rattle.survey_commands.proofs.survey.letters_of.Goals as goal

pub returns-in_ok-small_letters-in-Some : goal.returns-in_ok-small_letters-in-Some
returns-in_ok-small_letters-in-Some c =
    ap (λ (l : List ℕ). Some l) c.in_ok-small_letters-in-Some.ensures ∙ ap (option_map (λ (words : Bor (List ℕ)). small (chars words.now))) (sym c.in-Some.is)
