-- What worked cases are written in. A case has what is given and what the run leaves; that the rules give exactly this
-- is a lemma.
use Rattle.std.proofs.Common.{refl}
use Rattle.std.specs.Prelude.{◌≡◌, ℕ, ◌+◌, ◌-◌, ◌*◌, nat_lt, not, ◌==◌, if◌then◌else◌, Some, None, List, [], ◌∷◌, ◌++◌}
use Rattle.std.specs.Prelude.{length, filter, replicate, codes, encode_utf8}
use Rattle.std.specs.List.{flat_map}
use Rattle.byteorder.specs.Endian.{little_bytes}
use Prim.Native.String.{String}
use Rattle.browser_rules.specs.Words.{refused_at_text}
use Rattle.browser_rules.specs.Faults.{Fault, open_faults}
use Rattle.browser_rules.specs.Headline.{Given, Done, Refused, Runs, IsRefused}
use Rattle.browser_rules.proofs.LeastLemmas.{least, is_least}

-- ---- bytes: pairs of hex digits in lower case, in which spaces mean nothing

abbrev digit : ℕ → ℕ
digit c = if nat_lt c 97 then c - 48 else c - 87

abbrev bytes_in : List ℕ → List ℕ
bytes_in (high ∷ low ∷ digits) = (16 * digit high + digit low) ∷ bytes_in digits
bytes_in _ = []

abbrev pub hex : String → List ℕ
hex text = bytes_in (filter (λ c. not (c == 32)) (codes text))

abbrev pub hexes : List String → List ℕ
hexes texts = flat_map hex texts

-- so many times the same
abbrev pub times : {X : Type 0} → ℕ → List X → List X
times n xs = flat_map (λ ys. ys) (replicate n xs)

-- ---- a list of packages: a GUID, the length, packages and the end package; one of a forms package alone

abbrev pub packed : ℕ → List ℕ → List ℕ
packed kind body = little_bytes 3 (length body + 4) ++ kind ∷ body

abbrev pub package_list : List ℕ → List ℕ
package_list packages = replicate 16 0x11 ++ little_bytes 4 (length packages + 24) ++ packages ++ packed 0xdf []

abbrev pub forms_list : List ℕ → List ℕ
forms_list opcodes = package_list (packed 2 opcodes)

-- the opcodes with which most packages begin: a form set, the store 1 of so many bytes, the form 1. What follows stands at 39.
abbrev pub opening : ℕ → List ℕ
opening size =
    hexes
    ("0e97 22222222222222222222222222222222 0100 0000 00"  -- 4 FORM_SET
    ∷ "2418 33333333333333333333333333333333 0100"  -- 1b VARSTORE
    ∷ [])
    ++ little_bytes 2 size ++ hexes
    ("5600"
    ∷ "0186 0100 0200"  -- 33 FORM
    ∷ [])

-- ---- what is said: a line of the script, bytes of it, a line of the answers; in a line `@` is the header of store 1

pub data Said : Type 0 where
  asks tells : String → Said
  sends : List ℕ → Said

abbrev header : List ℕ
header = codes "GUID=33333333333333333333333333333333&NAME=0056&PATH="

abbrev line_of : String → List ℕ
line_of text = flat_map (λ c. if c == 64 then header else encode_utf8 c) (codes text) ++ 10 ∷ []

abbrev script_in : Said → List ℕ
script_in (asks text) = line_of text
script_in (sends bytes) = bytes
script_in (tells text) = []

abbrev answers_in : Said → List ℕ
answers_in (tells text) = line_of text
answers_in _ = []

-- ---- a case: what is given, what is said, and the image that is left

pub record Case : Type 0 where
  pub list : List ℕ
  pub number : ℕ
  pub image : List ℕ
  pub language : String
  pub said : List Said
  pub left : List ℕ

-- the first forms package, in English
abbrev pub usual : Case
usual = record { list = []; number = 1; image = []; language = "en-US"; said = []; left = [] }

abbrev pub given_of : Case → Given
given_of c = record {
  list = c.list;
  number = c.number;
  image = c.image;
  language = codes c.language;
  script = flat_map script_in c.said;
}

abbrev pub answers_of : Case → List ℕ
answers_of c = flat_map answers_in c.said

abbrev pub Holds : Case → Type 0
Holds c = Runs (given_of c) (record { ended = Done; answers = answers_of c; image = Some c.left })

-- one that is refused, in whatever language and for whatever script
pub record Refusal : Type 0 where
  pub list : List ℕ
  pub number : ℕ
  pub image : List ℕ
  pub line : String

abbrev pub IsRefusal : Refusal → Type 0
IsRefusal r = (language script : List ℕ)
    → IsRefused
    (record { list = r.list; number = r.number; image = r.image; language = language; script = script })
    (record { ended = Refused; answers = codes r.line; image = None })

abbrev pub faults_of : Refusal → List Fault
faults_of r = open_faults r.list r.number r.image

pub refuses : (r : Refusal) (fault : Fault) → least (faults_of r) ≡ Some fault
    → codes r.line ≡ refused_at_text fault.cause fault.place → IsRefusal r
refuses r fault found told language script = record {
  fault = fault;
  least = is_least (faults_of r) fault found;
  answers = told;
  ended = refl;
  image = refl;
}
