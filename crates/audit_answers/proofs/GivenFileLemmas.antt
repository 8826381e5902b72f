-- The last file that is given to a store.
use Rattle.std.proofs.Common.{◌≡◌, ◌≢◌, ◌∙◌, ◌++◌, ◌∷◌, ◌+◌, ◌<◌, ℕ, cond, eqb, List, [], Option, Some, None, get_or, length, take, ap, refl}
use Rattle.std.proofs.lemmas.Bool.{eq-eqb, ne_eqb}
use Rattle.std.proofs.lemmas.List.{take_more}
use Rattle.std.specs.Option.{option_or}
use Rattle.audit_options.specs.declared.tasks.StoreFile.{StoreFile}
use Rattle.audit_answers.specs.GivenFiles.{last_given}

or_none : (o : Option StoreFile) → option_or None o ≡ option_or o None
or_none None = refl
or_none (Some f) = refl

or_or : (a b c : Option StoreFile) → option_or (option_or a b) c ≡ option_or a (option_or b c)
or_or None b c = refl
or_or (Some f) b c = refl

last_more : (files : List StoreFile) (file : StoreFile) (id : ℕ) → last_given (files ++ file ∷ []) id ≡ option_or (cond (eqb file.id id) (Some file) None) (last_given files id)
last_more [] file id = or_none (cond (eqb file.id id) (Some file) None)
last_more (f ∷ files) file id =
    ap (λ (o : Option StoreFile). option_or o (cond (eqb f.id id) (Some f) None)) (last_more files file id)
    ∙ or_or (cond (eqb file.id id) (Some file) None) (last_given files id) (cond (eqb f.id id) (Some f) None)

pub last_found : (files : List StoreFile) (i : ℕ) (d : StoreFile) (id : ℕ) → i < length files → (get_or files i d).id ≡ id → Some (get_or files i d) ≡ last_given (take (i + 1) files) id
last_found files i d id within is = rw (take_more files i d within, last_more (take i files) (get_or files i d) id, eq-eqb (get_or files i d).id id is) refl

pub last_other : (files : List StoreFile) (i : ℕ) (d : StoreFile) (id : ℕ) → i < length files → (get_or files i d).id ≢ id → last_given (take i files) id ≡ last_given (take (i + 1) files) id
last_other files i d id within other = rw (take_more files i d within, last_more (take i files) (get_or files i d) id, ne_eqb (get_or files i d).id id other) refl
