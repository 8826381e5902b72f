-- What forms packages and string packages tell (UEFI 2.8, 33.3.8 Forms Package, 33.3.8.3 EFI_IFR_FORM_SET, 33.3.6 String Package).
use Rattle.std.specs.Prelude.{ℕ, ◌==◌, ◌&&◌, nat_le, Bool, true, List, [], ◌∷◌, ◌++◌, drop, filter, length, slice_index, Option, None, Some, codes}
use Rattle.browser_rules.specs.Packages.{FORMS, Package}
use Rattle.ifr_opcodes.specs.declared.codes.TheConstants.{FORM_SET}
use Rattle.ifr_opcodes.specs.Fields.{form_set_guid, form_set_title}
use Rattle.audit_text.specs.Texts.{guid_text}

-- the forms packages, in order
abbrev pub forms_in : List Package → List Package
forms_in packages = filter (λ p. p.kind == FORMS) packages

-- the bytes of a forms package behind its header of 4
abbrev pub opcodes_of : Package → List ℕ
opcodes_of p = drop 4 p.bytes

-- whether a package is a forms package that begins with a FORM_SET, of whose fields, 23 bytes with its header, none is cut (that no
-- more is asked of it is an own rule)
abbrev pub begins_with_form_set : Package → Bool
begins_with_form_set p =
    (p.kind == FORMS) && (nat_le 27 (length p.bytes) && (slice_index p.bytes 4 == FORM_SET))

abbrev pub form_sets : List Package → List Package
form_sets packages = filter begins_with_form_set packages

abbrev pub guid_word : Package → List ℕ
guid_word p = codes " " ++ guid_text true (form_set_guid (opcodes_of p))

-- the string id of the title of the first form set
abbrev pub first_title : List Package → Option ℕ
first_title [] = None
first_title (p ∷ ps) = Some (form_set_title (opcodes_of p))
