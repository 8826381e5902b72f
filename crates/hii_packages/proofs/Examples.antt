-- Worked values of the definitions.
use Rattle.std.proofs.Common.{◌≡◌, ℕ, List, [], ◌∷◌, ◌++◌, replicate, Some, None, refl, lit≤}
use Rattle.browser_rules.specs.Faults.{faults_of_packages, list_faults}
use Rattle.browser_rules.specs.Packages.{STRINGS, device_path, forms_package, list_length, packages_from, packages_with}
use Rattle.browser_rules.specs.Words.{number_in}
use Rattle.hii_packages.specs.Packages.{packages_of}
use Rattle.hii_packages.specs.laws.Spelling.{SpellsPackages, end_package, placed}

-- a list of the end package alone
empty_list : List ℕ
empty_list = replicate 16 7 ++ (24 ∷ 0 ∷ 0 ∷ 0 ∷ 4 ∷ 0 ∷ 0 ∷ 0xDF ∷ [])

empty_length : list_length empty_list ≡ 24
unfolding number_in empty_list
empty_length = refl

empty_spelled : SpellsPackages empty_list []
unfolding number_in empty_list
empty_spelled = record { each = tt; rest = []; whole = refl; list_length = refl }

empty_sound : list_faults empty_list ≡ []
unfolding number_in faults_of_packages empty_list
empty_sound = refl

-- a list of one forms package of one opcode, with a byte behind it
forms_alone : List ℕ
forms_alone = 6 ∷ 0 ∷ 0 ∷ 2 ∷ 0x29 ∷ 2 ∷ []

forms_list : List ℕ
forms_list = replicate 16 0 ++ (30 ∷ 0 ∷ 0 ∷ 0 ∷ []) ++ forms_alone ++ (4 ∷ 0 ∷ 0 ∷ 0xDF ∷ 99 ∷ [])

forms_spelled : SpellsPackages forms_list (forms_alone ∷ [])
unfolding number_in forms_list forms_alone
forms_spelled = record { each = (record { header = lit≤ tt; sized = refl; kind = λ e. cc }, tt); rest = 99 ∷ []; whole = refl; list_length = refl }

cut_into_one : packages_of forms_list ≡ placed 20 (forms_alone ∷ [])
unfolding number_in packages_from forms_list forms_alone
cut_into_one = refl

first_forms : forms_package forms_list 1 ≡ Some (record { place = 20; kind = 2; bytes = forms_alone })
unfolding number_in packages_from forms_list forms_alone
first_forms = refl

no_second : forms_package forms_list 2 ≡ None
unfolding number_in packages_from forms_list forms_alone
no_second = refl

none_is_zeroth : forms_package forms_list 0 ≡ None
none_is_zeroth = refl

-- the body of the first package that tells a path
path_list : List ℕ
path_list = replicate 16 0 ++ (40 ∷ 0 ∷ 0 ∷ 0 ∷ []) ++ forms_alone ++ (5 ∷ 0 ∷ 0 ∷ 8 ∷ 1 ∷ []) ++ (5 ∷ 0 ∷ 0 ∷ 8 ∷ 2 ∷ []) ++ end_package

first_path : device_path path_list ≡ 1 ∷ []
unfolding number_in packages_from path_list forms_alone
first_path = refl

-- the packages of the Type 4
strings_list : List ℕ
strings_list = replicate 16 0 ++ (33 ∷ 0 ∷ 0 ∷ 0 ∷ []) ++ (4 ∷ 0 ∷ 0 ∷ 2 ∷ []) ++ (5 ∷ 0 ∷ 0 ∷ 4 ∷ 7 ∷ []) ++ end_package

of_one_type : packages_with STRINGS strings_list ≡ record { place = 24; kind = 4; bytes = 5 ∷ 0 ∷ 0 ∷ 4 ∷ 7 ∷ [] } ∷ []
unfolding number_in packages_from strings_list
of_one_type = refl
