-- What holds of the number of each row, and of a number without a row, holds of every number.
use Rattle.std.proofs.Common.{◌≡◌, ◌==◌, ℕ, Bool, true, false, eqb, Option, None, is_some, List, [], ◌∷◌, map, refl, sym, ap, ◌∙◌, inl, inr}
use Rattle.std.specs.Prelude.{◌&&◌, ◌||◌, not}
use Rattle.std.specs.List.{list_all, find}
use Rattle.std.proofs.lemmas.Bool.{cases_Bool, eqb-true, ne_eqb, false≢true}
use Rattle.browser_rules.specs.Opcodes.{Row, rows, row_of}
use Rattle.browser_rules.specs.Words.{is_among}

pub and_first : (a b : Bool) → a && b ≡ true → a ≡ true
and_first true b e = refl
and_first false b e = absurd (false≢true e)

pub and_second : (a b : Bool) → a && b ≡ true → b ≡ true
and_second true b e = e
and_second false b e = absurd (false≢true e)

-- what holds of each of some numbers holds of one among them
pub of_each : (holds : ℕ → Bool) (codes : List ℕ) (code : ℕ) → list_all holds codes ≡ true → is_among code codes ≡ true → holds code ≡ true
of_each holds [] code all e = absurd (false≢true e)
of_each holds (c ∷ codes) code all e = elim (cases_Bool (eqb c code)) [
  | inl here ↦ ap holds (sym (eqb-true c code here)) ∙ and_first (holds c) _ all
  | inr other ↦ of_each holds codes code (and_second (holds c) _ all) (sym (ap (λ (b : Bool). b || is_among code codes) other) ∙ e)
]

-- the numbers of the rows
abbrev pub numbers : List ℕ
numbers = map (λ r. r.number) rows

-- Two functions of a number agree that do so on the numbers of some rows, and where none of these is found.
over_rows : {A : Type 0} (f g : ℕ → A) (table : List Row) (code : ℕ) → map f (map (λ r. r.number) table) ≡ map g (map (λ r. r.number) table)
    → (find (λ r. r.number == code) table ≡ None → f code ≡ g code) → f code ≡ g code
over_rows f g [] code same other = other refl
over_rows f g (r ∷ table) code same other = elim (cases_Bool (r.number == code)) [
  | inl here ↦
      let at_row : f r.number ≡ g r.number = cc in
      let it : r.number ≡ code = eqb-true r.number code here in
      ap f (sym it) ∙ at_row ∙ ap g it
  | inr none ↦
      let rest : map f (map (λ r. r.number) table) ≡ map g (map (λ r. r.number) table) = cc in
      let missing : find (λ r. r.number == code) table ≡ None → find (λ r. r.number == code) (r ∷ table) ≡ None = λ e. rw none e in
      over_rows f g table code rest (λ e. other (missing e))
]

pub agree : {A : Type 0} (f g : ℕ → A) → map f numbers ≡ map g numbers → ((code : ℕ) → row_of code ≡ None → f code ≡ g code) → (code : ℕ) → f code ≡ g code
unfolding row_of
agree f g same other code = over_rows f g rows code same (other code)

-- what holds of the number of each row of a kind holds of each number of the kind
pub of_kind : (is holds : ℕ → Bool) → map (λ c. not (is c) || holds c) numbers ≡ map (λ c. true) numbers → ((code : ℕ) → row_of code ≡ None → is code ≡ false)
    → (code : ℕ) → is code ≡ true → holds code ≡ true
of_kind is holds each none code it =
    ap (λ (b : Bool). not b || holds code) (sym it)
    ∙ agree (λ c. not (is c) || holds c) (λ c. true) each (λ c missing. ap (λ (b : Bool). not b || holds c) (none c missing)) code

-- so a number with what none of a kind has is not of the kind
pub not_of_kind : (is has : ℕ → Bool) → map (λ c. not (is c) || not (has c)) numbers ≡ map (λ c. true) numbers → ((code : ℕ) → row_of code ≡ None → is code ≡ false)
    → (code : ℕ) → has code ≡ true → is code ≡ false
not_of_kind is has each none code it = elim (cases_Bool (is code)) [
  | inr other ↦ other
  | inl e ↦ absurd (false≢true (ap not (sym it) ∙ of_kind is (λ c. not (has c)) each none code e))
]

-- A number without a row is none that has one.
known_in : (table : List Row) (code : ℕ) → is_some (find (λ r. r.number == code) table) ≡ is_among code (map (λ r. r.number) table)
known_in [] code = refl
known_in (r ∷ table) code = elim (cases_Bool (r.number == code)) [ inl here ↦ rw here refl | inr none ↦ rw none (known_in table code) ]

unknown : (code : ℕ) → row_of code ≡ None → is_among code numbers ≡ false
unfolding row_of
unknown code none = sym (known_in rows code) ∙ ap (λ (o : Option Row). is_some o) none

pub not_this : (c code : ℕ) → is_among c numbers ≡ true → row_of code ≡ None → (code == c) ≡ false
not_this c code known none = ne_eqb code c (λ e. false≢true (sym (unknown code none) ∙ ap (λ k. is_among k numbers) e ∙ known))

pub not_among : (codes : List ℕ) (code : ℕ) → list_all (λ c. is_among c numbers) codes ≡ true → row_of code ≡ None → is_among code codes ≡ false
not_among codes code known none = elim (cases_Bool (is_among code codes)) [
  | inr e ↦ e
  | inl e ↦ absurd (false≢true (sym (unknown code none) ∙ of_each (λ c. is_among c numbers) codes code known e))
]
