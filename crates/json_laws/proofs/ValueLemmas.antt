-- Values, as they are spelled in characters and read.
use Rattle.std.proofs.Common.{◌≡◌, pos, negsuc, ℕ, zero, suc, ◌+◌, ◌<◌, ◌≤◌, true, List, [], ◌∷◌, ◌++◌, length, Option, Some, codes, refl, ap, ◌∙◌, arith, append_assoc, length-append}
use Rattle.std.specs.Fmt.{signed_decimal}
use Rattle.std.specs.Str.{all_scalars}
use Rattle.std.proofs.lemmas.Fmt.{decimal_nonempty}
use Rattle.json_laws.specs.Reading.{Value, number, string, truth, array, object, Items, no_items, item, Facts, no_facts, fact, Reader, array_in, bind, collected, done, either, in_front, listed, many, member_in, object_in, one, or_else, repeated, sign, text_in, then_read, true_in, value}
use Rattle.json_laws.specs.laws.Written.{CanBeTold, EachCanBeTold, FactsCanBeTold}
use Rattle.json_laws.proofs.NumberLemmas.{NoDigit, read_number}
use Rattle.json_laws.proofs.TextLemmas.{read_string, spelled_chars}
use Rattle.json_laws.proofs.WordLemmas.{word_is_text}

-- ---- the characters of values

abbrev pub spelled_text : List ℕ → List ℕ
spelled_text characters = 34 ∷ (spelled_chars characters ++ 34 ∷ [])

abbrev mutual
  pub spelled : Value → List ℕ
  spelled (number n) = signed_decimal n
  spelled (string characters) = spelled_text characters
  spelled truth = codes "true"
  spelled (array values) = 91 ∷ (first_values values ++ 93 ∷ [])
  spelled (object members) = 123 ∷ (first_members members ++ 125 ∷ [])

  pub first_values : Items → List ℕ
  first_values no_items = []
  first_values (item v values) = spelled v ++ further_values values

  pub further_values : Items → List ℕ
  further_values no_items = []
  further_values (item v values) = 44 ∷ (spelled v ++ further_values values)

  pub first_members : Facts → List ℕ
  first_members no_facts = []
  first_members (fact key v members) = spelled_text key ++ 58 ∷ (spelled v ++ further_members members)

  pub further_members : Facts → List ℕ
  further_members no_facts = []
  further_members (fact key v members) = 44 ∷ (spelled_text key ++ 58 ∷ (spelled v ++ further_members members))

some_char : (v : Value) → CanBeTold v → 0 < length (spelled v)
some_char (number (pos n)) fits = decimal_nonempty n fits
some_char (number (negsuc n)) fits = omega arith
some_char (string characters) fits = omega arith
some_char truth fits = omega arith
some_char (array values) fits = omega arith
some_char (object members) fits = omega arith

-- ---- what stands behind a value

no_digit_then : (values : Items) (rest : List ℕ) → NoDigit (further_values values ++ 93 ∷ rest)
no_digit_then no_items rest = refl
no_digit_then (item v values) rest = refl

no_digit_behind : (members : Facts) (rest : List ℕ) → NoDigit (further_members members ++ 125 ∷ rest)
no_digit_behind no_facts rest = refl
no_digit_behind (fact key v members) rest = refl

-- ---- values

-- a value behind others, and a member
abbrev next_value : ℕ → Reader Value
next_value depth = then_read (sign ",") λ _. value depth

abbrev next_member : ℕ → Reader (List ℕ × Value)
next_member depth = then_read (sign ",") λ _. member_in (value depth)

abbrev more : List ℕ × Value → Facts → Facts
more m ms = fact m.0 m.1 ms

read_name : (depth : ℕ) (key l : List ℕ) → all_scalars key ≡ true → member_in (value depth) (spelled_text key ++ 58 ∷ l) ≡ bind (value depth l) (λ v. done (key, v))
unfolding repeated
read_name depth key l scalars =
    ap (λ (t : List ℕ). member_in (value depth) (34 ∷ t)) (append_assoc (spelled_chars key) (34 ∷ []) (58 ∷ l))
    ∙ ap (λ (o : Option (List ℕ × List ℕ)). bind o λ name. then_read (sign ":") λ _. then_read (value depth) λ v. done (name, v)) (read_string key (58 ∷ l) scalars)

regroup : (name one others t : List ℕ) → (name ++ 58 ∷ (one ++ others)) ++ t ≡ name ++ 58 ∷ (one ++ (others ++ t))
regroup name one others t = append_assoc name (58 ∷ (one ++ others)) t ∙ ap (λ (l : List ℕ). name ++ 58 ∷ l) (append_assoc one others t)

mutual
  unfolding value repeated

  pub read_value : (v : Value) (depth : ℕ) (t : List ℕ) → CanBeTold v → NoDigit t → length (spelled v) ≤ depth → value depth (spelled v ++ t) ≡ Some (v, t)
  read_value v zero t can none deep = absurd (omega (arith, some_char v can))
  read_value (number n) (suc depth) t can none deep =
      ap (λ (o : Option (Value × List ℕ)). either o (or_else text_in (or_else true_in (or_else (array_in (value depth)) (object_in (value depth))))) (signed_decimal n ++ t))
      (read_number n t can none)
  read_value (string characters) (suc depth) t can none deep =
      ap (λ (l : List ℕ). value (suc depth) (34 ∷ l)) (append_assoc (spelled_chars characters) (34 ∷ []) t)
      ∙ ap (λ (o : Option (List ℕ × List ℕ)). either (bind o λ cs. done (string cs)) (or_else true_in (or_else (array_in (value depth)) (object_in (value depth)))) (34 ∷ (spelled_chars characters ++ 34 ∷ t)))
      (read_string characters t can)
  read_value truth (suc depth) t can none deep = refl
  read_value (array values) (suc depth) t can none deep =
      ap (λ (l : List ℕ). value (suc depth) (91 ∷ l)) (append_assoc (first_values values) (93 ∷ []) t)
      ∙ ap (λ (o : Option (Items × List ℕ)). either (bind o λ vs. then_read (sign "]") λ _. done (array vs)) (object_in (value depth)) (91 ∷ (first_values values ++ 93 ∷ t)))
      (read_values values depth t can (omega (arith, length-append (first_values values) (93 ∷ []))))
  read_value (object members) (suc depth) t can none deep =
      ap (λ (l : List ℕ). value (suc depth) (123 ∷ l)) (append_assoc (first_members members) (125 ∷ []) t)
      ∙ ap (λ (o : Option (Facts × List ℕ)). bind o λ ms. then_read (sign "}") λ _. done (object ms))
      (read_members members depth t can (omega (arith, length-append (first_members members) (125 ∷ []))))

  read_values : (values : Items) (depth : ℕ) (t : List ℕ) → EachCanBeTold values → length (first_values values) ≤ depth
      → listed no_items item (value depth) (first_values values ++ 93 ∷ t) ≡ Some (values, 93 ∷ t)
  read_values no_items zero t can deep = refl
  read_values no_items (suc depth) t can deep = refl
  read_values (item v values) depth t can deep =
      let behind = further_values values ++ 93 ∷ t in
      let long : length behind ≡ length (further_values values) + length (93 ∷ t) = length-append (further_values values) (93 ∷ t) in
      let both : length (spelled v ++ further_values values) ≡ length (spelled v) + length (further_values values) = length-append (spelled v) (further_values values) in
      ap (λ (l : List ℕ). listed no_items item (value depth) l) (append_assoc (spelled v) (further_values values) (93 ∷ t))
      ∙ ap (λ (o : Option (Value × List ℕ)). either (bind o λ first. then_read (many no_items item (next_value depth)) λ others. done (item first others)) (done no_items) (spelled v ++ behind))
      (read_value v depth behind can.0 (no_digit_then values t) (omega arith))
      ∙ ap (λ (p : Items × List ℕ). either (Some (item v p.0, p.1)) (done no_items) (spelled v ++ behind)) (read_further values depth (length behind) t can.1 (omega arith) (omega arith))

  read_further : (values : Items) (depth count : ℕ) (t : List ℕ) → EachCanBeTold values → length (further_values values) ≤ depth → length (further_values values) ≤ count
      → repeated no_items item (next_value depth) count (further_values values ++ 93 ∷ t) ≡ (values, 93 ∷ t)
  read_further no_items depth zero t can deep enough = refl
  read_further no_items depth (suc count) t can deep enough = refl
  read_further (item v values) depth zero t can deep enough = absurd (omega arith)
  read_further (item v values) depth (suc count) t can deep enough =
      let behind = further_values values ++ 93 ∷ t in
      let both : length (spelled v ++ further_values values) ≡ length (spelled v) + length (further_values values) = length-append (spelled v) (further_values values) in
      ap (λ (l : List ℕ). repeated no_items item (next_value depth) (suc count) (44 ∷ l)) (append_assoc (spelled v) (further_values values) (93 ∷ t))
      ∙ ap (λ (o : Option (Value × List ℕ)). collected no_items item (44 ∷ (spelled v ++ behind)) (λ l. repeated no_items item (next_value depth) count l) o)
      (read_value v depth behind can.0 (no_digit_then values t) (omega arith))
      ∙ ap (in_front (item v)) (read_further values depth count t can.1 (omega arith) (omega arith))

  read_members : (members : Facts) (depth : ℕ) (t : List ℕ) → FactsCanBeTold members → length (first_members members) ≤ depth
      → listed no_facts more (member_in (value depth)) (first_members members ++ 125 ∷ t) ≡ Some (members, 125 ∷ t)
  read_members no_facts zero t can deep = refl
  read_members no_facts (suc depth) t can deep = refl
  read_members (fact key v members) depth t can deep =
      let behind = further_members members ++ 125 ∷ t in
      let long : length behind ≡ length (further_members members) + length (125 ∷ t) = length-append (further_members members) (125 ∷ t) in
      let rest = spelled v ++ further_members members in
      let named : length (first_members (fact key v members)) ≡ length (spelled_text key) + length (58 ∷ rest) = length-append (spelled_text key) (58 ∷ rest) in
      let both : length rest ≡ length (spelled v) + length (further_members members) = length-append (spelled v) (further_members members) in
      let l = spelled_text key ++ 58 ∷ (spelled v ++ behind) in
      let one_read : member_in (value depth) l ≡ Some ((key, v), behind) =
      read_name depth key (spelled v ++ behind) (word_is_text key can.0)
      ∙ ap (λ (o : Option (Value × List ℕ)). bind o λ v. done (key, v)) (read_value v depth behind can.1 (no_digit_behind members t) (omega arith)) in
      ap (λ (l : List ℕ). listed no_facts more (member_in (value depth)) l) (regroup (spelled_text key) (spelled v) (further_members members) (125 ∷ t))
      ∙ ap (λ (o : Option ((List ℕ × Value) × List ℕ)). either (bind o λ first. then_read (many no_facts more (next_member depth)) λ others. done (more first others)) (done no_facts) l) one_read
      ∙ ap (λ (p : Facts × List ℕ). either (Some (fact key v p.0, p.1)) (done no_facts) l) (read_others members depth (length behind) t can.2 (omega arith) (omega arith))

  read_others : (members : Facts) (depth count : ℕ) (t : List ℕ) → FactsCanBeTold members → length (further_members members) ≤ depth → length (further_members members) ≤ count
      → repeated no_facts more (next_member depth) count (further_members members ++ 125 ∷ t) ≡ (members, 125 ∷ t)
  read_others no_facts depth zero t can deep enough = refl
  read_others no_facts depth (suc count) t can deep enough = refl
  read_others (fact key v members) depth zero t can deep enough = absurd (omega arith)
  read_others (fact key v members) depth (suc count) t can deep enough =
      let behind = further_members members ++ 125 ∷ t in
      let rest = spelled v ++ further_members members in
      let named : length (spelled_text key ++ 58 ∷ rest) ≡ length (spelled_text key) + length (58 ∷ rest) = length-append (spelled_text key) (58 ∷ rest) in
      let both : length rest ≡ length (spelled v) + length (further_members members) = length-append (spelled v) (further_members members) in
      let l = 44 ∷ (spelled_text key ++ 58 ∷ (spelled v ++ behind)) in
      let one_read : next_member depth l ≡ Some ((key, v), behind) =
      read_name depth key (spelled v ++ behind) (word_is_text key can.0)
      ∙ ap (λ (o : Option (Value × List ℕ)). bind o λ v. done (key, v)) (read_value v depth behind can.1 (no_digit_behind members t) (omega arith)) in
      ap (λ (l : List ℕ). repeated no_facts more (next_member depth) (suc count) (44 ∷ l)) (regroup (spelled_text key) (spelled v) (further_members members) (125 ∷ t))
      ∙ ap (λ (o : Option ((List ℕ × Value) × List ℕ)). collected no_facts more l (λ l. repeated no_facts more (next_member depth) count l) o) one_read
      ∙ ap (in_front (fact key v)) (read_others members depth count t can.2 (omega arith) (omega arith))
