-- The tags of texts one behind the other.
use Rattle.std.proofs.Common.{◌≡◌, ℕ, Bool, true, false, List, [], ◌∷◌, ◌++◌, map, inl, inr, refl, sym, subst, ap, ◌∙◌, append_assoc}
use Rattle.std.specs.Prelude.{⊤, ◌==◌, if◌then◌else◌}
use Rattle.std.specs.List.{flat_map}
use Rattle.std.proofs.lemmas.Bool.{and_parts, cases_Bool, false≢true}
use Rattle.question_rows.specs.Elements.{end_of, has_none, listed, run}
use Rattle.question_rows.specs.laws.Plain.{are_plain, is_plain}
use Rattle.report_audit.specs.laws.Tags.{is_begun_behind, is_in_tag, tags_from}

-- whether a tag has begun before what stands behind a text
unfoldable pub begun_behind : Bool → List ℕ → Bool
begun_behind is_begun [] = is_begun
begun_behind is_begun (b ∷ text) = begun_behind (is_begun_behind is_begun b) text

tags_both : (s : Bool) (xs ys : List ℕ) → tags_from s (xs ++ ys) ≡ tags_from s xs ++ tags_from (begun_behind s xs) ys
unfolding tags_from begun_behind
tags_both s [] ys = refl
tags_both s (b ∷ xs) ys =
    ap (λ (l : List ℕ). (if is_in_tag s b then b ∷ [] else []) ++ l) (tags_both (is_begun_behind s b) xs ys)
    ∙ sym (append_assoc (if is_in_tag s b then b ∷ [] else []) (tags_from (is_begun_behind s b) xs) (tags_from (begun_behind (is_begun_behind s b) xs) ys))

begun_both : (s : Bool) (xs ys : List ℕ) → begun_behind s (xs ++ ys) ≡ begun_behind (begun_behind s xs) ys
unfolding begun_behind
begun_both s [] ys = refl
begun_both s (b ∷ xs) ys = begun_both (is_begun_behind s b) xs ys

-- ---- texts with the same tags, whether one has begun before them or not

pub record Alike (xs ys : List ℕ) : Type 0 where
  pub same : (s : Bool) → tags_from s xs ≡ tags_from s ys
  pub ends : (s : Bool) → begun_behind s xs ≡ begun_behind s ys

pub alike_same : (xs : List ℕ) → Alike xs xs
alike_same xs = record { same = λ s. refl; ends = λ s. refl }

infixl 10 ◌⋈◌
pub ◌⋈◌ : {cs ds xs ys : List ℕ} → Alike cs ds → Alike xs ys → Alike (cs ++ xs) (ds ++ ys)
◌⋈◌ {cs} {ds} {xs} {ys} p q = record {
  same = λ s. tags_both s cs xs ∙ ap (λ (l : List ℕ). l ++ tags_from (begun_behind s cs) xs) (p.same s)
      ∙ ap (λ (l : List ℕ). tags_from s ds ++ l) (ap (λ (t : Bool). tags_from t xs) (p.ends s) ∙ q.same (begun_behind s ds)) ∙ sym (tags_both s ds ys);
  ends = λ s. begun_both s cs xs ∙ ap (λ (t : Bool). begun_behind t xs) (p.ends s) ∙ q.ends (begun_behind s ds) ∙ sym (begun_both s ds ys);
}

-- in front of a constant, and behind one
pub before_it : {xs ys : List ℕ} (end : List ℕ) → Alike xs ys → Alike (xs ++ end) (ys ++ end)
before_it end p = p ⋈ alike_same end

pub behind_it : {xs ys : List ℕ} (front : List ℕ) → Alike xs ys → Alike (front ++ xs) (front ++ ys)
behind_it front p = alike_same front ⋈ p

pub alike_if : (b : Bool) {cs ds xs ys : List ℕ} → Alike cs ds → Alike xs ys → Alike (if b then cs else xs) (if b then ds else ys)
alike_if true p q = p
alike_if false p q = q

pub alike_each : {X : Type 0} (f g : X → List ℕ) → ((x : X) → Alike (f x) (g x)) → (xs : List X) → Alike (flat_map f xs) (flat_map g xs)
alike_each f g p [] = alike_same []
alike_each f g p (x ∷ xs) = p x ⋈ alike_each f g p xs

-- ---- what has no tags, behind a tag that is closed

-- behind it no tag has begun
pub record Closes (xs : List ℕ) : Type 0 where
  pub closed : (s : Bool) → begun_behind s xs ≡ false

begins_none : (b : ℕ) → is_plain b ≡ true → (b == 60) ≡ false
begins_none b e = elim (cases_Bool (b == 60)) [
  | inl is ↦ absurd (false≢true (rw is at e))
  | inr other ↦ other
]

pub plain_tags : (xs : List ℕ) → are_plain xs ≡ true → tags_from false xs ≡ []
unfolding tags_from
plain_tags [] e = refl
plain_tags (b ∷ xs) e = let p = and_parts _ _ e in rw (begins_none b p.0) (plain_tags xs p.1)

plain_begins : (xs : List ℕ) → are_plain xs ≡ true → begun_behind false xs ≡ false
unfolding begun_behind
plain_begins [] e = refl
plain_begins (b ∷ xs) e = let p = and_parts _ _ e in rw (begins_none b p.0) (plain_begins xs p.1)

-- so it may be another text
pub alike_plain : {front : List ℕ} (xs ys : List ℕ) → Closes front → are_plain xs ≡ true → are_plain ys ≡ true → Alike (front ++ xs) (front ++ ys)
alike_plain {front} xs ys c p q = record {
  same = λ s. tags_both s front xs ∙ ap (λ (l : List ℕ). tags_from s front ++ l) (of_plain s xs p ∙ sym (of_plain s ys q)) ∙ sym (tags_both s front ys);
  ends = λ s. begun_both s front xs ∙ to_plain s xs p ∙ sym (to_plain s ys q) ∙ sym (begun_both s front ys);
}
  where
    of_plain : (s : Bool) (zs : List ℕ) → are_plain zs ≡ true → tags_from (begun_behind s front) zs ≡ []
    of_plain s zs e = ap (λ (t : Bool). tags_from t zs) (c.closed s) ∙ plain_tags zs e

    to_plain : (s : Bool) (zs : List ℕ) → are_plain zs ≡ true → begun_behind (begun_behind s front) zs ≡ false
    to_plain s zs e = ap (λ (t : Bool). begun_behind t zs) (c.closed s) ∙ plain_begins zs e

pub closes_plain : {front : List ℕ} (xs : List ℕ) → Closes front → are_plain xs ≡ true → Closes (front ++ xs)
closes_plain {front} xs c e = record { closed = λ s. begun_both s front xs ∙ ap (λ (t : Bool). begun_behind t xs) (c.closed s) ∙ plain_begins xs e }

pub closes_behind : (front : List ℕ) {xs : List ℕ} → Closes xs → Closes (front ++ xs)
closes_behind front {xs} c = record { closed = λ s. begun_both s front xs ∙ c.closed (begun_behind s front) }

-- where a text that starts outside of tags and one that starts in a tag end outside
pub closes_both : {xs : List ℕ} → begun_behind true xs ≡ false → begun_behind false xs ≡ false → Closes xs
closes_both {xs} p q = record { closed = λ s. either s }
  where
    either : (s : Bool) → begun_behind s xs ≡ false
    either true = p
    either false = q

-- ---- items one behind the other

pub AreAlike : List (List ℕ) → List (List ℕ) → Type 0
AreAlike [] [] = ⊤
AreAlike (xs ∷ its) (ys ∷ others) = Alike xs ys × AreAlike its others
AreAlike _ _ = ⊥

pub alike_map : {X : Type 0} (f g : X → List ℕ) → ((x : X) → Alike (f x) (g x)) → (xs : List X) → AreAlike (map f xs) (map g xs)
unfolding AreAlike
alike_map f g p [] = tt
alike_map f g p (x ∷ xs) = (p x, alike_map f g p xs)

pub alike_both : (these those cs ds : List (List ℕ)) → AreAlike these those → AreAlike cs ds → AreAlike (these ++ cs) (those ++ ds)
unfolding AreAlike
alike_both [] [] cs ds p q = q
alike_both [] (b ∷ those) cs ds p q = absurd p
alike_both (a ∷ these) [] cs ds p q = absurd p
alike_both (a ∷ these) (b ∷ those) cs ds p q = (p.0, alike_both these those cs ds p.1 q)

pub alike_run : (start between : List ℕ) (is_first : Bool) (its others : List (List ℕ)) → AreAlike its others → Alike (run start between is_first its) (run start between is_first others)
unfolding AreAlike
alike_run start between is_first [] [] p = alike_same []
alike_run start between is_first [] (y ∷ others) p = absurd p
alike_run start between is_first (x ∷ its) [] p = absurd p
alike_run start between is_first (x ∷ its) (y ∷ others) p = alike_same (if is_first then start else between) ⋈ p.0 ⋈ alike_run start between false its others p.1

same_none : (its others : List (List ℕ)) → AreAlike its others → has_none its ≡ has_none others
unfolding AreAlike
same_none [] [] p = refl
same_none [] (y ∷ others) p = absurd p
same_none (x ∷ its) [] p = absurd p
same_none (x ∷ its) (y ∷ others) p = refl

pub alike_listed : (start between end : List ℕ) (its others : List (List ℕ)) → AreAlike its others → Alike (listed start between end its) (listed start between end others)
alike_listed start between end its others p =
    alike_run start between true its others p ⋈ subst (λ (b : Bool). Alike (end_of end (has_none its)) (end_of end b)) (same_none its others p) (alike_same (end_of end (has_none its)))
