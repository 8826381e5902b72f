-- What a configuration text says for the stores of a forms package has a fault exactly where the text has one.
use Rattle.std.proofs.Common.{◌≡◌, ◌∙◌, ℕ, List, Result, Ok, Err, ap, refl, subst, sym}
use Rattle.exported_config.specs.Exported.{Response, responses_in, then_read}
use Rattle.exported_config.specs.Giving.{Exported, Named, exported, parted}
use Rattle.exported_config.specs.code.Views.{IsUnread}
use Rattle.exported_config.specs.declared.unread.BadResponse.{BadResponse}
use Rattle.exported_config.specs.declared.unread.Unread.{Unread}
use Rattle.exported_config.specs.declared.unread.Unread.TheVariants.{Bad}

said_bad : (names : List Named) (read : Result (List Response) BadResponse) (bad : BadResponse) → then_read read (λ responses. Ok (parted names responses)) ≡ Err bad → read ≡ Err bad
said_bad names (Ok responses) bad e = absurd cc
said_bad names (Err other) bad e = let same : other ≡ bad = cc in ap (λ (b : BadResponse). Err b) same

said_well : (names : List Named) (read : Result (List Response) BadResponse) (e : Exported) → then_read read (λ responses. Ok (parted names responses)) ≡ Ok e → (responses : List Response) × (read ≡ Ok responses)
said_well names (Ok responses) e said = (responses, refl)
said_well names (Err bad) e said = absurd cc

pub text_is_bad : (names : List Named) (text : List ℕ) (bad : BadResponse) → exported names text ≡ Err bad → responses_in text ≡ Err bad
text_is_bad names text bad e = said_bad names (responses_in text) bad e

pub text_is_sound : (names : List Named) (text : List ℕ) (e : Exported) → exported names text ≡ Ok e → (responses : List Response) × (responses_in text ≡ Ok responses)
text_is_sound names text e said = said_well names (responses_in text) e said

pub sound_is_not_bad : (names : List Named) (text : List ℕ) (responses : List Response) (bad : BadResponse) → responses_in text ≡ Ok responses → exported names text ≡ Err bad → ⊥
sound_is_not_bad names text responses bad sound e = let other : Ok responses ≡ Err bad = sym sound ∙ text_is_bad names text bad e in absurd cc

pub bad_is_not_said : (names : List Named) (text : List ℕ) (responses : List Response) (unread : Unread) {bad : BadResponse} → responses_in text ≡ Ok responses → IsUnread unread (exported names text) → unread ≡ Bad bad → ⊥
bad_is_not_said names text responses unread {bad} sound said is =
    sound_is_not_bad names text responses bad sound (subst (λ (u : Unread). IsUnread u (exported names text)) is said)
