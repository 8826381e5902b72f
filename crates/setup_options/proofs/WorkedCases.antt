-- Command lines that are taken, with the values that they give, and some that are refused.
use Rattle.std.proofs.Common.{◌≡◌, List, Some, true, codes, [], ◌∷◌, ◌++◌, refl}
use Rattle.clap.specs.Words.{Text, fault_of, first_of, one_of, takes}
use Rattle.clap.specs.declared.error.kind.ErrorKind.TheVariants.{ArgumentConflict, DisplayHelp, InvalidValue, MissingRequiredArgument, UnknownArgument, ValueValidation}
use Rattle.clap.proofs.OnLiterals.{clap_on_literals}
use Rattle.setup_options.specs.CommandLine.{rows_on, setup_app}

-- ---- what must be given

abbrev files : List Text
files = codes "setup" ∷ codes "--list" ∷ codes "l" ∷ codes "--stores" ∷ codes "s" ∷ codes "--out" ∷ codes "o" ∷ []

files-taken : takes setup_app files ≡ true
unfolding clap_on_literals
files-taken = refl

files-list : first_of (codes "list") (rows_on files) ≡ Some (codes "l")
unfolding clap_on_literals
files-list = refl

files-stores : first_of (codes "stores") (rows_on files) ≡ Some (codes "s")
unfolding clap_on_literals
files-stores = refl

files-out : first_of (codes "out") (rows_on files) ≡ Some (codes "o")
unfolding clap_on_literals
files-out = refl

files-forms : one_of (codes "forms") (rows_on files) ≡ Some (codes "1")
unfolding clap_on_literals
files-forms = refl

files-lang : first_of (codes "lang") (rows_on files) ≡ Some (codes "en-US")
unfolding clap_on_literals
files-lang = refl

-- ---- all options, in another order

abbrev all : List Text
all = codes "setup" ∷ codes "--lang=-x" ∷ codes "--out=o" ∷ codes "--forms" ∷ codes "65535" ∷ codes "--stores=s" ∷ codes "--list" ∷ codes "l" ∷ []

all-taken : takes setup_app all ≡ true
unfolding clap_on_literals
all-taken = refl

all-list : first_of (codes "list") (rows_on all) ≡ Some (codes "l")
unfolding clap_on_literals
all-list = refl

all-forms : one_of (codes "forms") (rows_on all) ≡ Some (codes "65535")
unfolding clap_on_literals
all-forms = refl

all-lang : first_of (codes "lang") (rows_on all) ≡ Some (codes "-x")
unfolding clap_on_literals
all-lang = refl

-- ---- what is refused

nothing-refused : fault_of setup_app (codes "setup" ∷ []) ≡ MissingRequiredArgument ∷ []
unfolding clap_on_literals
nothing-refused = refl

twice-refused : fault_of setup_app (files ++ codes "--list" ∷ codes "l" ∷ []) ≡ ArgumentConflict ∷ []
unfolding clap_on_literals
twice-refused = refl

forms-refused : fault_of setup_app (files ++ codes "--forms" ∷ codes "0" ∷ []) ≡ ValueValidation ∷ []
unfolding clap_on_literals
forms-refused = refl

value-refused : fault_of setup_app (files ++ codes "--lang" ∷ []) ≡ InvalidValue ∷ []
unfolding clap_on_literals
value-refused = refl

word-refused : fault_of setup_app (files ++ codes "script" ∷ []) ≡ UnknownArgument ∷ []
unfolding clap_on_literals
word-refused = refl

help-asked : fault_of setup_app (codes "setup" ∷ codes "--help" ∷ []) ≡ DisplayHelp ∷ []
unfolding clap_on_literals
help-asked = refl
