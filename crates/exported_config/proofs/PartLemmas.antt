-- The responses that count.
use Rattle.std.proofs.Common.{◌≡◌, Bool, List, [], ◌∷◌, ◌++◌, filter, sym, ap, ◌∙◌}
use Rattle.std.proofs.lemmas.List.{map-append}
use Rattle.std.proofs.lemmas.List.Elements.{filter-append}
use Rattle.exported_config.specs.Exported.{Response}
use Rattle.exported_config.specs.code.Views.{response_view, responses_view}
use Rattle.exported_config.specs.declared.response.Response as code

-- one more of them
pub one_more : (test : Response → Bool) (so_far : List Response) (rs : List code.Response) (r : code.Response) (more : List Response)
    → so_far ≡ filter test (responses_view rs) → more ≡ so_far ++ filter test (response_view r ∷ [])
    → more ≡ filter test (responses_view (rs ++ (r ∷ [])))
one_more test so_far rs r more are is =
    is ∙ ap (λ (l : List Response). l ++ filter test (response_view r ∷ [])) are
    ∙ sym (ap (filter test) (map-append response_view rs (r ∷ [])) ∙ filter-append test (responses_view rs) (response_view r ∷ []))
