-- What is read of options.
use Rattle.std.proofs.Common.{◌≡◌, ◌∙◌, ◌++◌, ◌∷◌, ℕ, Bool, List, [], Option, Some, None, is_none, Result, refl, sym, ap, inl, inr, map, option_map, unwrap_or, subst, true, false, codes, ◌+◌, ◌<◌, length, get_or, take, zero, suc, arith}
use Rattle.std.proofs.lemmas.List.{map-append, take_more}
use Rattle.std.specs.Borrow.{Bor}
use Rattle.std.specs.Prelude.{Box}
use Rattle.std.specs.Box.{box_value}
use Rattle.std.specs.Str.Parse.{ExplainsUnsignedError, HasUnsignedDigitsIfOk, ParsesUnsigned}
use Rattle.std.specs.declared.num.ParseIntError.{ParseIntError}
use Rattle.clap.specs.Matches.{ReadsOne, first_value, matched_of, one_text, raw_values}
use Rattle.clap.specs.Walk.{Row, Text, all_of, first_of, one_of, rows_of}
use Rattle.clap.specs.Simple.{subcommand_rows}
use Rattle.clap.specs.declared.parser.matches.ArgMatches.TheViews.{out-SubCommand}
use Rattle.clap.specs.declared.parser.matches.Found.{Found}
use Rattle.clap.specs.declared.parser.matches.SubCommand.{SubCommand}
use Rattle.clap.proofs.WalkLemmas.{first_value-rows, one_text-rows, raw_values-rows}
use Rattle.audit_options.specs.Asked.{AreStoreFiles, HasNoPart, IsFlag, IsStoreFile, Reads, ReadsIfGiven, is_part, text_in}
use Rattle.audit_options.specs.declared.tasks.StoreFile.{StoreFile}

text_or : (o : Option (Bor Text)) (d : Bor Text) (found : Option Text) → option_map (λ s. s.now) o ≡ found → (unwrap_or o d).now ≡ unwrap_or found d.now
text_or None d found is = rw (← is) refl
text_or (Some s) d found is = rw (← is) refl

-- the first text of an option
pub text_read : (f : Found) (name : Text) (o : Option (Bor Text)) (d r : Bor Text) → option_map (λ s. s.now) o ≡ first_value f name → r ≡ unwrap_or o d
    → r.now ≡ text_in (rows_of f) name d.now
text_read f name o d r got is = ap (λ (s : Bor Text). s.now) is ∙ text_or o d _ (got ∙ first_value-rows f name)

-- the first text of an option that is given, or is not
pub text_given : (f : Found) (name : Text) (o : Option (Bor Text)) (s : Bor Text) → option_map (λ s. s.now) o ≡ first_value f name → o ≡ Some s → first_of name (rows_of f) ≡ Some s.now
text_given f name o s got is = sym (first_value-rows f name) ∙ sym got ∙ ap (option_map (λ (s : Bor Text). s.now)) is

pub none_given : (f : Found) (name : Text) (o : Option (Bor Text)) → option_map (λ s. s.now) o ≡ first_value f name → o ≡ None → first_of name (rows_of f) ≡ None
none_given f name o got is = sym (first_value-rows f name) ∙ sym got ∙ ap (option_map (λ (s : Bor Text). s.now)) is

pub none_where : (o : Option (Bor Text)) → is_none o ≡ true → o ≡ None
none_where None is = refl
none_where (Some s) is = let bad : false ≡ true = is in cc

-- options of `export` that do not go together
pub no_part : (f : Found) (id out with : Option (Bor Text)) (lines : Bool) → option_map (λ s. s.now) id ≡ first_value f (codes "id") → option_map (λ s. s.now) out ≡ first_value f (codes "out")
    → option_map (λ s. s.now) with ≡ first_value f (codes "with") → IsFlag (one_of (codes "lines") (rows_of f)) lines
    → is_part (option_map (λ s. s.now) id) (option_map (λ s. s.now) out) (option_map (λ s. s.now) with) lines ≡ false → HasNoPart (rows_of f)
no_part f id out with lines has_id has_out has_with flag apart = (
  lines,
  flag,
  rw (← first_value-rows f (codes "id"), ← first_value-rows f (codes "out"), ← first_value-rows f (codes "with"), ← has_id, ← has_out, ← has_with) apart,
)

pub part_of_lines : (id out with : Option (Bor Text)) (s : Bor Text) → id ≡ Some s → is_part (option_map (λ s. s.now) id) (option_map (λ s. s.now) out) (option_map (λ s. s.now) with) true ≡ false
part_of_lines id out with s is = rw is refl

pub part_of_with : (id out with : Option (Bor Text)) (lines : Bool) (s t : Bor Text) → id ≡ Some s → out ≡ Some t → is_none with ≡ false
    → is_part (option_map (λ s. s.now) id) (option_map (λ s. s.now) out) (option_map (λ s. s.now) with) lines ≡ false
part_of_with id out None lines s t has_id has_out is = let bad : true ≡ false = is in cc
part_of_with id out (Some w) true s t has_id has_out is = rw has_id refl
part_of_with id out (Some w) false s t has_id has_out is = rw (has_id, has_out) refl

pub part_of_id : (id out with : Option (Bor Text)) (lines : Bool) (s : Bor Text) → id ≡ Some s → out ≡ None
    → is_part (option_map (λ s. s.now) id) (option_map (λ s. s.now) out) (option_map (λ s. s.now) with) lines ≡ false
part_of_id id out with true s has_id has_out = rw has_id refl
part_of_id id out with false s has_id has_out = rw (has_id, has_out) refl

pub part_of_none : (id out with : Option (Bor Text)) → id ≡ None → is_part (option_map (λ s. s.now) id) (option_map (λ s. s.now) out) (option_map (λ s. s.now) with) false ≡ false
part_of_none id out with is = rw is refl

pub part_of_out : (id out with : Option (Bor Text)) (lines : Bool) (s : Bor Text) → id ≡ None → out ≡ Some s
    → is_part (option_map (λ s. s.now) id) (option_map (λ s. s.now) out) (option_map (λ s. s.now) with) lines ≡ false
part_of_out id out with true s has_id has_out = rw (has_id, has_out) refl
part_of_out id out with false s has_id has_out = rw has_id refl

-- what an unsigned number of so many bits is read of
abbrev pub Unsigned : ℕ → Text → Result ℕ ParseIntError → Type 0
Unsigned bits text r = ParsesUnsigned bits 10 text r × ExplainsUnsignedError 10 text r × HasUnsignedDigitsIfOk text r

parsed : (bits : ℕ) (text : Text) (o : Option ℕ) (other : ℕ) → ReadsOne (Unsigned bits) text o → Reads bits (Some text) other (unwrap_or o other)
parsed bits text (Some n) other reads = inl reads.0
parsed bits text None other reads = inr (reads.1.0, refl)

number_of : (bits : ℕ) (found : Option Text) (o : Option ℕ) (other : ℕ) → (found ≡ None → o ≡ None) → ((t : Text) → found ≡ Some t → ReadsOne (Unsigned bits) t o) → Reads bits found other (unwrap_or o other)
number_of bits None o other none value = ap (λ (o : Option ℕ). unwrap_or o other) (none refl)
number_of bits (Some t) o other none value = parsed bits t o other (value t refl)

-- the number of an option
pub number_read : (bits : ℕ) (f : Found) (name : Text) (o : Option ℕ) (other r : ℕ) → (one_text f name ≡ None → o ≡ None)
    → ((t : Text) → one_text f name ≡ Some t → ReadsOne (Unsigned bits) t o) → r ≡ unwrap_or o other → Reads bits (one_of name (rows_of f)) other r
number_read bits f name o other r none value is =
    subst (Reads bits (one_of name (rows_of f)) other) (sym is)
    (subst (λ (found : Option Text). Reads bits found other (unwrap_or o other)) (one_text-rows f name) (number_of bits (one_text f name) o other none value))

-- a number that may be given
pub given_read : (bits : ℕ) (f : Found) (name : Text) (o : Option ℕ) → (one_text f name ≡ None → o ≡ None) → ((t : Text) → one_text f name ≡ Some t → ReadsOne (Unsigned bits) t o)
    → ReadsIfGiven bits (one_of name (rows_of f)) o
given_read bits f name None none value = λ text is. (value text (one_text-rows f name ∙ is)).1.0
given_read bits f name (Some n) none value = go (one_text f name) refl
  where
    go : (found : Option Text) → one_text f name ≡ found → ReadsIfGiven bits (one_of name (rows_of f)) (Some n)
    go None e = let bad : Some n ≡ None = none e in cc
    go (Some t) e = let p = value t e in (t, sym (one_text-rows f name) ∙ e, p.0.0, p.0.1)

pub flag_read : (f : Found) (name : Text) (flag : Bool) → (one_text f name ≡ None → flag ≡ false) → (one_text f name ≡ Some (codes "true") → flag ≡ true)
    → (one_text f name ≡ Some (codes "false") → flag ≡ false) → IsFlag (one_of name (rows_of f)) flag
flag_read f name flag none on off = subst (λ (found : Option Text). IsFlag found flag) (one_text-rows f name) (go (one_text f name) refl)
  where
    go : (found : Option Text) → one_text f name ≡ found → IsFlag found flag
    go None e = none e
    go (Some t) e = (λ is. on (e ∙ ap (λ t. Some t) is), λ is. off (e ∙ ap (λ t. Some t) is))

-- the words of an option that may stand there again
pub words_read : (f : Found) (name : Text) (o : Option (Bor (List (Bor Text)))) → option_map (λ s. map (λ v. v.now) s.now) o ≡ option_map raw_values (matched_of f name)
    → unwrap_or (all_of name (rows_of f)) [] ≡ unwrap_or (option_map (λ s. map (λ v. v.now) s.now) o) []
words_read f name o got = ap (λ (found : Option (List Text)). unwrap_or found []) (sym (got ∙ raw_values-rows f name))

-- the subcommand that was met
pub met_is : {Z : Type 0} (o : Option (Box SubCommand Z)) (name : Text) (rows : List Row) → Some name ≡ option_map (λ b. (out-SubCommand (box_value b)).name.now) o
    → Some rows ≡ option_map (λ p. p.1) (subcommand_rows o) → subcommand_rows o ≡ Some (name, rows)
met_is None name rows named has = let bad : Some name ≡ None = named in cc
met_is (Some b) name rows named has = cc

-- one more file
store_files_more : (words : List Text) (files : List StoreFile) (word : Text) (file : StoreFile) → AreStoreFiles words files → IsStoreFile word file → AreStoreFiles (words ++ word ∷ []) (files ++ file ∷ [])
store_files_more [] [] word file are is = (is, tt)
store_files_more [] (f ∷ files) word file are is = absurd are
store_files_more (w ∷ words) [] word file are is = absurd are
store_files_more (w ∷ words) (f ∷ files) word file are is = (are.0, store_files_more words files word file are.1 is)

pub store_files_next : (words : List (Bor Text)) (i : ℕ) (d : Bor Text) (files new : List StoreFile) (file : StoreFile) → AreStoreFiles (map (λ word. word.now) (take i words)) files → i < length words
    → IsStoreFile (get_or words i d).now file → new ≡ files ++ file ∷ [] → AreStoreFiles (map (λ word. word.now) (take (i + 1) words)) new
store_files_next words i d files new file are within is pushed =
    rw (take_more words i d within, map-append (λ (word : Bor Text). word.now) (take i words) (get_or words i d ∷ []), pushed) (store_files_more _ files _ file are is)

-- a word that is no id and file
pub no_store_files : (words : List (Bor Text)) (i : ℕ) (d : Bor Text) → i < length words → ((file : StoreFile) → IsStoreFile (get_or words i d).now file → ⊥)
    → (files : List StoreFile) → AreStoreFiles (map (λ word. word.now) words) files → ⊥
no_store_files [] i d within none files are = absurd (omega (arith, within))
no_store_files (w ∷ words) i d within none [] are = are
no_store_files (w ∷ words) zero d within none (f ∷ files) are = none f are.0
no_store_files (w ∷ words) (suc i) d within none (f ∷ files) are = no_store_files words i d (omega (arith, within)) none files are.1
