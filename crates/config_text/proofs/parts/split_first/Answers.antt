use Rattle.std.proofs.Common.{◌≡◌, ◌∙◌, ℕ, false, Option, Some, None, List, [], ◌∷◌, ◌++◌, take, drop, inl, inr, sym, ap, refl, append_assoc}
use Rattle.std.specs.Prelude.{◌||◌, option_map}
use Rattle.std.specs.List.{list_any, position, onto_first}
use Rattle.std.proofs.lemmas.Bool.{cases_Bool, cond-false, true≢false}
use Rattle.std.proofs.lemmas.List.{take-append-drop}
use Rattle.config_text.specs.code.Elements.{parts_behind}
use Rattle.config_text.specs.code.PartReading.{body_in, body_first}
use Rattle.config_text.specs.code.Parts.{is_between, text_parts}
use Rattle.config_text.proofs.PartLemmas.{parts_at, parts_whole}
use Rattle.config_text.proofs.ReadLemmas.{body_in-of, body_in-is, body_in-none, body_in-lacks}
use Rattle.config_text.proofs.parts.split_first.Goals as goal

-- a key without `&` stands at the front of the first part
keyed : (key text part : List ℕ) (parts : List (List ℕ)) → list_any is_between key ≡ false → text_parts text ≡ part ∷ parts → text_parts (key ++ text) ≡ (key ++ part) ∷ parts
keyed [] text part parts none e = e
keyed (b ∷ key) text part parts none e = elim (cases_Bool (is_between b)) [
  | inl is ↦ absurd (true≢false (sym (ap (λ v. v || list_any is_between key) is) ∙ none))
  | inr other ↦
      let rest : list_any is_between key ≡ false = sym (ap (λ v. v || list_any is_between key) other) ∙ none in
      cond-false (is_between b) ([] ∷ text_parts (key ++ text)) (onto_first b (text_parts (key ++ text))) other ∙ ap (onto_first b) (keyed key text part parts rest e)
]

first_some : (key text behind body : List ℕ) (parts : List (List ℕ)) → list_any is_between key ≡ false → body_in key text ≡ Some behind → text_parts behind ≡ body ∷ parts
    → body_first key (text_parts text) ≡ Some (body, parts)
first_some key text behind body parts none is e =
    ap (body_first key) (ap text_parts (body_in-is key text behind is) ∙ keyed key behind body parts none e) ∙ ap (option_map (λ b. (b, parts))) (body_in-of key body)

-- where a text does not begin with a key, neither does its first part
first_none : (key text : List ℕ) → body_in key text ≡ None → body_first key (text_parts text) ≡ None
first_none key text none = go (position is_between text) refl
  where
    lacks : (part more : List ℕ) → text ≡ part ++ more → body_in key part ≡ None
    lacks part more whole = body_in-lacks key part (λ body is. body_in-none key text none (body ++ more) (whole ∙ ap (λ l. l ++ more) is ∙ append_assoc key body more))

    go : (o : Option ℕ) → position is_between text ≡ o → body_first key (text_parts text) ≡ None
    go None e = ap (body_first key) (parts_whole text e) ∙ ap (option_map (λ body. (body, []))) none
    go (Some end) e = ap (body_first key) (parts_at text end e) ∙ ap (option_map (λ body. (body, parts_behind (drop end text)))) (lacks (take end text) (drop end text) (sym (take-append-drop end text)))

pub returns-clause-found : goal.returns-clause-found
returns-clause-found c =
    let behind = c.in_ok-behind.behind.now in
    sym (first_some c.args.key.now c.args.text.now behind c.split_part.result.0.now (parts_behind c.split_part.result.1.now) c.requires (sym c.in_ok-behind.ensures.body) c.split_part.ensures.parts)

pub returns-in_err-behind-clause-found : goal.returns-in_err-behind-clause-found
returns-in_err-behind-clause-found c = rw c.from_residual.ensures (sym (first_none c.args.key.now c.args.text.now (sym c.in_err-behind.ensures.body)))
