-- What packages tell is written package by package.
use Rattle.std.proofs.Common.{◌≡◌, ℕ, suc, ◌≤◌, Bool, true, ◌==◌, Option, Some, None, List, [], ◌∷◌, ◌++◌, length, filter, map, if◌then◌else◌, refl, sym, ap, subst, ◌∙◌, arith, inl, inr}
use Rattle.std.specs.Prelude.{codes, slice_get, decimal, option_map, unwrap_or}
use Rattle.std.specs.List.{flat_map}
use Rattle.std.specs.Option.{option_or}
use Rattle.std.proofs.lemmas.List.{map-append}
use Rattle.std.proofs.lemmas.Bool.{cases_Bool, cond-true}
use Rattle.browser_rules.specs.Packages.{FORMS, Package}
use Rattle.hii_bytes.specs.declared.cause.Fault.{Fault}
use Rattle.browser_rules.specs.Faults.{string_package_faults, each_package}
use Rattle.browser_rules.specs.Strings.{Spoken, spoken_by, characters, shown}
use Rattle.hii_bytes.specs.Faults.{RefusesAmong}
use Rattle.dump_audit.specs.Contents.{begins_with_form_set, forms_in}
use Rattle.dump_audit.specs.code.Heard.{shown_in_first}
use Rattle.hii_languages.proofs.SpokenLemmas.{IsRead, is_strings, read_more, read_fault}

pub fewer_pass : {X : Type 0} (p : X → Bool) (xs : List X) → length (filter p xs) ≤ length xs
fewer_pass p [] = omega arith
fewer_pass p (x ∷ xs) =
    let h : length (filter p xs) ≤ length xs = fewer_pass p xs in
    elim (cases_Bool (p x)) [ inl e ↦ rw e (omega (arith, h)) | inr e ↦ rw e (omega (arith, h)) ]

-- the words that stand behind the first of some, each behind a comma
abbrev pub words_behind : List (List ℕ) → List ℕ
words_behind words = flat_map (λ next. codes "," ++ next) words

first_stays : (said : List Spoken) (s : Spoken) → option_or (slice_get said 0) (Some s) ≡ slice_get (said ++ s ∷ []) 0
first_stays [] s = refl
first_stays (t ∷ ts) s = refl

-- Some string packages are read, and of what they say this is kept.
pub record Gathers (all left : List Package) (languages : List (List ℕ)) (first : Option Spoken) : Type 0 where
  pub said : List Spoken
  pub read : IsRead all said left
  pub languages_kept : languages ≡ map (λ s. s.language) said
  pub first_kept : first ≡ slice_get said 0

pub gathers_more : {all left later : List Package} {languages : List (List ℕ)} {first : Option Spoken} (e : Package) (s : Spoken) → Gathers all left languages first → left ≡ e ∷ later → is_strings e ≡ true → s ≡ spoken_by e → string_package_faults e ≡ []
    → Gathers all later (languages ++ s.language ∷ []) (option_or first (Some s))
gathers_more {all} {left} {later} {languages} {first} e s g steps strings says none = record {
  said = g.said ++ s ∷ [];
  read = read_more all g.said e later s (subst (IsRead all g.said) steps g.read) strings says none;
  languages_kept = ap (λ (ls : List (List ℕ)). ls ++ s.language ∷ []) g.languages_kept ∙ sym (map-append (λ (t : Spoken). t.language) g.said (s ∷ []));
  first_kept = ap (λ (o : Option Spoken). option_or o (Some s)) g.first_kept ∙ first_stays g.said s;
}

-- the least fault of a string package is that of all, where those before it say something
pub gathers_fault : {all left later : List Package} {languages : List (List ℕ)} {first : Option Spoken} (e : Package) (fault : Fault) → Gathers all left languages first → left ≡ e ∷ later → is_strings e ≡ true
    → RefusesAmong (string_package_faults e) fault → RefusesAmong (each_package (filter is_strings all)) fault
gathers_fault {all} {left} {later} e fault g steps strings refuses = elim refuses [
  | inl memory ↦ inl memory
  | inr least ↦ inr (read_fault all g.said e later fault (subst (IsRead all g.said) steps g.read) strings least)
]

same_twice : (o : Option (List ℕ)) → o ≡ option_or o o
same_twice None = refl
same_twice (Some x) = refl

-- what the first package has is what is shown in its language
pub shown_first : (spoken : List Spoken) (id : ℕ) → shown_in_first (slice_get spoken 0) id ≡ shown spoken (Some 0) id
shown_first [] id = refl
shown_first (s ∷ ss) id = ap (λ (o : Option (List ℕ)). if id == 0 then [] else unwrap_or (option_map characters o) (35 ∷ decimal id)) (same_twice _)

-- ---- forms packages

pub sets_more : (es later : List Package) (e : Package) → es ≡ e ∷ later → begins_with_form_set e ≡ true → filter begins_with_form_set es ≡ e ∷ filter begins_with_form_set later
sets_more es later e steps begins = ap (filter begins_with_form_set) steps ∙ cond-true (begins_with_form_set e) _ _ begins

pub or_some : (o : Option ℕ) (x : ℕ) (rest : Option ℕ) → option_or (option_or o (Some x)) rest ≡ option_or o (Some x)
or_some None x rest = refl
or_some (Some y) x rest = refl

pub one_counted : (es later : List Package) (e : Package) → es ≡ e ∷ later → e.kind ≡ FORMS → length (forms_in es) ≡ suc (length (forms_in later))
one_counted es later e steps forms = ap (λ (l : List Package). length (forms_in l)) steps ∙ (rw forms refl)
