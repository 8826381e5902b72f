-- What is read of a header is what the grammar says of it.
use Rattle.std.proofs.Common.{◌≡◌, ℕ, true, List, [], ◌∷◌, ◌++◌, length, Option, Some, None, codes, option_map, refl, sym, ap, subst, ◌∙◌, arith, eq-eqb, inl, inr}
use Rattle.std.proofs.lemmas.Bool.{and_parts, and_from, cases_Bool, cond-true, cond-false, eqb-true}
use Rattle.config_text.specs.code.PartReading.{body_in, body_first, group_numbers}
use Rattle.browser_rules.specs.Configuration.{Header}
use Rattle.config_text.specs.laws.Grammar.{IsHeader}
use Rattle.config_text.specs.code.Reading.{Head, are_header_digits, named_by, path_behind, name_behind, guid_behind, head_in}
use Rattle.config_text.proofs.ReadLemmas.{some_is, body_in-of, body_in-is, pairs-is, pairs-from, quads-is, quads-from, length_pairs}

abbrev First : Type 0
First = Option (List ℕ × List (List ℕ))

pub first-of : (key body : List ℕ) (rest : List (List ℕ)) → ◌≡◌ {A = First} (body_first key ((key ++ body) ∷ rest)) (Some (body, rest))
first-of key body rest = ap (option_map (λ b. (b, rest))) (body_in-of key body)

pub first-is : (key : List ℕ) (parts : List (List ℕ)) (body : List ℕ) (rest : List (List ℕ)) → ◌≡◌ {A = First} (body_first key parts) (Some (body, rest))
    → parts ≡ (key ++ body) ∷ rest
first-is key [] body rest e = (cc)
first-is key (part ∷ parts) body rest e = go (body_in key part) refl e
  where
    go : (o : Option (List ℕ)) → body_in key part ≡ o → ◌≡◌ {A = First} (option_map (λ b. (b, parts)) o) (Some (body, rest)) → part ∷ parts ≡ (key ++ body) ∷ rest
    go None is e = (cc)
    go (Some b) is e =
        let same : ◌≡◌ {A = List ℕ × List (List ℕ)} (b, parts) (body, rest) = some_is _ _ e in
        let one : b ≡ body = ap (λ (p : List ℕ × List (List ℕ)). p.0) same in
        let others : parts ≡ rest = ap (λ (p : List ℕ × List (List ℕ)). p.1) same in
        ap (λ p. p ∷ parts) (body_in-is key part b is) ∙ ap (λ b. (key ++ b) ∷ parts) one ∙ ap (λ ps. (key ++ body) ∷ ps) others

-- the parts of a header before others
abbrev pub header_parts : List ℕ → List ℕ → List ℕ → List (List ℕ) → List (List ℕ)
header_parts guid name path rest = (codes "GUID=" ++ guid) ∷ (codes "NAME=" ++ name) ∷ (codes "PATH=" ++ path) ∷ rest

-- a head that stands at the front of parts
pub record IsHead (parts : List (List ℕ)) (head : Head) : Type 0 where
  pub whole : parts ≡ header_parts head.guid head.name head.path head.rest
  pub good : are_header_digits head.guid head.name head.path ≡ true

path-is : (guid name : List ℕ) (parts behind : List (List ℕ)) (head : Head) (o : First) → parts ≡ (codes "GUID=" ++ guid) ∷ (codes "NAME=" ++ name) ∷ behind
    → body_first (codes "PATH=") behind ≡ o → path_behind guid name o ≡ Some head → IsHead parts head
path-is guid name parts behind head None whole is e = (cc)
path-is guid name parts behind head (Some (path, rest)) whole is e =
    let here : Head = record { guid = guid; name = name; path = path; rest = rest } in
    elim (cases_Bool (are_header_digits guid name path)) [
      | inl good ↦
          let some : Some here ≡ Some head = sym (cond-true (are_header_digits guid name path) (Some here) None good) ∙ e in
          let same : here ≡ head = some_is _ _ some in
          subst (IsHead parts) same (record {
            whole = whole ∙ ap (λ ps. (codes "GUID=" ++ guid) ∷ (codes "NAME=" ++ name) ∷ ps) (first-is (codes "PATH=") behind path rest is);
            good = good;
          })
      | inr bad ↦ let none : ◌≡◌ {A = Option Head} None (Some head) = sym (cond-false (are_header_digits guid name path) (Some here) None bad) ∙ e in (cc)
    ]

name-is : (guid : List ℕ) (parts behind : List (List ℕ)) (head : Head) (o : First) → parts ≡ (codes "GUID=" ++ guid) ∷ behind
    → body_first (codes "NAME=") behind ≡ o → name_behind guid o ≡ Some head → IsHead parts head
name-is guid parts behind head None whole is e = (cc)
name-is guid parts behind head (Some (name, rest)) whole is e =
    path-is guid name parts rest head (body_first (codes "PATH=") rest) (whole ∙ ap (λ ps. (codes "GUID=" ++ guid) ∷ ps) (first-is (codes "NAME=") behind name rest is)) refl e

guid-is : (parts : List (List ℕ)) (head : Head) (o : First) → body_first (codes "GUID=") parts ≡ o → guid_behind o ≡ Some head → IsHead parts head
guid-is parts head None is e = (cc)
guid-is parts head (Some (guid, rest)) is e =
    name-is guid parts rest head (body_first (codes "NAME=") rest) (first-is (codes "GUID=") parts guid rest is) refl e

pub head-is : (parts : List (List ℕ)) (head : Head) → head_in parts ≡ Some head → IsHead parts head
head-is parts head e = guid-is parts head (body_first (codes "GUID=") parts) refl e

pub head-of : (guid name path : List ℕ) (rest : List (List ℕ)) → are_header_digits guid name path ≡ true
    → head_in (header_parts guid name path rest) ≡ Some record { guid = guid; name = name; path = path; rest = rest }
head-of guid name path rest good =
    ap guid_behind (first-of (codes "GUID=") guid ((codes "NAME=" ++ name) ∷ (codes "PATH=" ++ path) ∷ rest))
    ∙ ap (name_behind guid) (first-of (codes "NAME=") name ((codes "PATH=" ++ path) ∷ rest))
    ∙ ap (path_behind guid name) (first-of (codes "PATH=") path rest)
    ∙ cond-true (are_header_digits guid name path) (Some record { guid = guid; name = name; path = path; rest = rest }) None good

-- the grammar's header

pub header-is : (guid name path : List ℕ) → are_header_digits guid name path ≡ true → IsHeader (header_parts guid name path []) (named_by guid name path)
header-is guid name path good =
    let p = and_parts _ _ good in
    let q = and_parts _ _ p.0 in
    let r = and_parts _ _ p.1 in
    let long : length guid ≡ 32 = eqb-true _ _ q.1 in
    record {
      guid_digits = guid;
      name_digits = name;
      path_digits = path;
      whole = refl;
      guid = pairs-is guid q.0;
      sixteen = omega (arith, length_pairs guid, long);
      name = quads-is name r.0;
      path = pairs-is path r.1;
    }

-- what a header of the grammar is read as
pub record IsRead (header : List (List ℕ)) (named : Header) : Type 0 where
  pub guid : List ℕ
  pub name : List ℕ
  pub path : List ℕ
  pub whole : header ≡ header_parts guid name path []
  pub good : are_header_digits guid name path ≡ true
  pub same : named_by guid name path ≡ named

pub header-from : (header : List (List ℕ)) (named : Header) → IsHeader header named → IsRead header named
header-from header named h =
    let g = pairs-from h.guid_digits named.guid h.guid in
    let n = quads-from h.name_digits named.name h.name in
    let p = pairs-from h.path_digits named.path h.path in
    let long : length h.guid_digits ≡ 32 = omega (arith, g.2, h.sixteen) in
    record {
      guid = h.guid_digits;
      name = h.name_digits;
      path = h.path_digits;
      whole = h.whole;
      good = and_from _ _ (and_from _ _ g.0 (eq-eqb _ _ long)) (and_from _ _ n.0 p.0);
      same = ap (λ b. record { guid = b; name = group_numbers 4 h.name_digits; path = group_numbers 2 h.path_digits }) g.1
          ∙ ap (λ b. record { guid = named.guid; name = b; path = group_numbers 2 h.path_digits }) n.1
          ∙ ap (λ b. record { guid = named.guid; name = named.name; path = b }) p.1;
    }
