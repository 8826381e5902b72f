-- What the options of the command line come to.
use Rattle.std.proofs.Common.{◌≡◌, ℕ, ◌<◌, ◌^◌, Bool, true, false, not, ◌&&◌, zero, suc, List, [], ◌∷◌, map, length, codes, Option, Some, None, Result, Ok, Err, is_some, refl, sym, ap, ◌∙◌, subst, arith, inl, inr}
use Rattle.std.proofs.lemmas.List.Elements.{All-cons, All-nil}
use Rattle.std.proofs.lemmas.Slice.Eq.{bytes_eq-Decides}
use Rattle.std.specs.Prelude.{option_map, unwrap_or}
use Rattle.std.specs.Borrow.{Bor}
use Rattle.std.specs.List.{All, list_all, slice_index_or}
use Rattle.std.specs.Str.{bytes_eq}
use Rattle.std.specs.Str.Parse.{IsNumeral, ParsesUnsigned, digits_value, without_leading_plus}
use Rattle.clap.specs.Built.{AddsArg, AddsInTurn, FitsChain, HasDistinctIds, IsParsedFrom}
use Rattle.clap.specs.Faults.{is_simple_and_free}
use Rattle.clap.specs.Words.{ReadsOne, Text, args_of, first_of, first_value, found_of, groups_of, is_simple, rows_of}
use Rattle.clap.specs.declared.builder.arg.Arg.{Arg}
use Rattle.clap.specs.declared.builder.command.Command.{Command}
use Rattle.clap.specs.declared.builder.command.Command.TheViews.{out-Command}
use Rattle.clap.specs.declared.parser.matches.ArgMatches.{ArgMatches}
use Rattle.clap.specs.declared.parser.matches.Found.{Found}
use Rattle.clap.proofs.CallerLemmas.{required_in_chain}
use Rattle.clap.proofs.WalkLemmas.{both, first_value-rows}
use Rattle.setup_options.specs.CommandLine.{HasFiles, IsFile, IsOption, setup_app}

pub setup_is_simple : is_simple setup_app ≡ true
setup_is_simple = refl

pub setup_is_simple_and_free : is_simple_and_free setup_app ≡ true
setup_is_simple_and_free = refl

-- ---- what is read of the matches

-- the first value of a name, which is there
pub first_of-unwrap : (f : Found) (id : Text) (o : Option (Bor (List ℕ))) (value : Bor (List ℕ)) → option_map (λ s. s.now) o ≡ first_value f id
    → o ≡ Some value → first_of id (rows_of f) ≡ Some value.now
first_of-unwrap f id o value found is = sym (first_value-rows f id) ∙ sym found ∙ ap (option_map (λ s. s.now)) is

-- the first value of a name, or its default
pub first_of-unwrap_or : (f : Found) (id : Text) (o : Option (Bor (List ℕ))) (default : Bor (List ℕ)) → option_map (λ s. s.now) o ≡ first_value f id
    → (unwrap_or o default).now ≡ unwrap_or (first_of id (rows_of f)) default.now
first_of-unwrap_or f id o default e = go o ∙ ap (λ v. unwrap_or v default.now) (e ∙ first_value-rows f id)
  where
    go : (o : Option (Bor (List ℕ))) → (unwrap_or o default).now ≡ unwrap_or (option_map (λ s. s.now) o) default.now
    go None = refl
    go (Some text) = refl

-- a numeral of 16 bits is read
pub unwrap_or-numeral : (E : Type 0) (G : List ℕ → Result ℕ E → Type 0) (text : List ℕ) (r : Option ℕ) → ((t : List ℕ) (x : Result ℕ E) → G t x → ParsesUnsigned 16 10 t x)
    → ReadsOne G text r → IsNumeral 10 (without_leading_plus text) → digits_value 10 (without_leading_plus text) < 2 ^ 16
    → unwrap_or r 1 ≡ digits_value 10 (without_leading_plus text)
unwrap_or-numeral E G text (Some n) only reads numeral small = (only text (Ok n) reads).1
unwrap_or-numeral E G text None only reads numeral small = absurd (only text (Err reads.0) reads.1 (numeral, small))

-- ---- names that differ

abbrev differs : Text → Text → Bool
differs a b = not (bytes_eq a b)

abbrev are_distinct : List Text → Bool
are_distinct [] = true
are_distinct (name ∷ names) = list_all (differs name) names && are_distinct names

abbrev ids_of : List Arg → List Text
ids_of args = map (λ arg. arg.id.now) args

unlike : (a b : Text) → differs a b ≡ true → a ≡ b → ⊥
unlike a b h e = let same = (bytes_eq-Decides a b).1 e in let bad : false ≡ true = rw same at h in cc

unlike_at : (name : Text) (args : List Arg) → list_all (differs name) (ids_of args) ≡ true → (k : ℕ) (d : Arg) → k < length args → name ≡ (slice_index_or args k d).id.now → ⊥
unlike_at name [] h k d lt same = absurd (omega arith)
unlike_at name (arg ∷ args) h zero d lt same = unlike name arg.id.now (both _ _ h).0 same
unlike_at name (arg ∷ args) h (suc k) d lt same = unlike_at name args (both _ _ h).1 k d (omega arith) same

distinct_ids : (args : List Arg) → are_distinct (ids_of args) ≡ true → HasDistinctIds args
distinct_ids [] h j k d e in_j in_k same = absurd (omega arith)
distinct_ids (arg ∷ args) h zero zero d e in_j in_k same = refl
distinct_ids (arg ∷ args) h zero (suc k) d e in_j in_k same = absurd (unlike_at arg.id.now args (both _ _ h).0 k d (omega arith) ((bytes_eq-Decides _ _).0 same))
distinct_ids (arg ∷ args) h (suc j) zero d e in_j in_k same = absurd (unlike_at arg.id.now args (both _ _ h).0 j e (omega arith) (sym ((bytes_eq-Decides _ _).0 same)))
distinct_ids (arg ∷ args) h (suc j) (suc k) d e in_j in_k same = ap suc (distinct_ids args (both _ _ h).1 j k d e (omega arith) (omega arith) same)

-- ---- the files are given

abbrev is_own : Text → Bool
is_own name = differs name [] && (differs name (codes "help") && differs name (codes "version"))

fits : (name : Text) (arg : Arg) → IsOption name arg → is_own name ≡ true → FitsChain arg
fits name arg option own =
    let parts = both (differs name []) _ own in
    let names = both (differs name (codes "help")) _ parts.1 in (
      option.plain,
      option.local,
      λ none. unlike name [] parts.0 (sym option.id ∙ none),
      λ auto. elim auto [
        | inl help ↦ unlike name (codes "help") names.0 (sym option.id ∙ help)
        | inr version ↦ unlike name (codes "version") names.1 (sym option.id ∙ version)
      ],
    )

module _ (start one two three four command : Command) (list stores out forms lang : Arg) where
  abbrev all : List Arg
  all = list ∷ stores ∷ out ∷ forms ∷ lang ∷ []

  -- a command to which these options were added has the files wherever it parses
  pub files_given : AddsArg start list one → AddsArg one stores two → AddsArg two out three → AddsArg three forms four → AddsArg four lang command
      → args_of start ≡ [] → groups_of start ≡ [] → (out-Command start).has_globals ≡ false → (out-Command start).subcommand_negates_reqs ≡ false
      → IsFile (codes "list") list → IsFile (codes "stores") stores → IsFile (codes "out") out → IsOption (codes "forms") forms → IsOption (codes "lang") lang
      → (matches : ArgMatches) → IsParsedFrom command matches → HasFiles (found_of matches)
  files_given a b c d e none alone local needs is_list is_stores is_out is_forms is_lang matches parsed =
      let chain : AddsInTurn AddsArg start all command = (one, a, (two, b, (three, c, (four, d, (command, e, refl))))) in
      let fit : All FitsChain all =
      All-cons FitsChain list (stores ∷ out ∷ forms ∷ lang ∷ []) (fits (codes "list") list is_list.option refl)
      (All-cons FitsChain stores (out ∷ forms ∷ lang ∷ []) (fits (codes "stores") stores is_stores.option refl)
      (All-cons FitsChain out (forms ∷ lang ∷ []) (fits (codes "out") out is_out.option refl)
      (All-cons FitsChain forms (lang ∷ []) (fits (codes "forms") forms is_forms refl)
      (All-cons FitsChain lang [] (fits (codes "lang") lang is_lang refl) (All-nil FitsChain))))) in
      let names : are_distinct (ids_of all) ≡ true = rw (is_list.option.id, is_stores.option.id, is_out.option.id, is_forms.id, is_lang.id) refl in
      let distinct = distinct_ids all names in (
        subst (λ (id : Text). is_some (first_value (found_of matches) id) ≡ true) is_list.option.id
            (required_in_chain start command all 0 list matches chain none alone local needs fit distinct (omega arith) is_list.value parsed),
        subst (λ (id : Text). is_some (first_value (found_of matches) id) ≡ true) is_stores.option.id
            (required_in_chain start command all 1 list matches chain none alone local needs fit distinct (omega arith) is_stores.value parsed),
        subst (λ (id : Text). is_some (first_value (found_of matches) id) ≡ true) is_out.option.id
            (required_in_chain start command all 2 list matches chain none alone local needs fit distinct (omega arith) is_out.value parsed),
      )
