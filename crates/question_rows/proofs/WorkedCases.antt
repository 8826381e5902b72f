-- Worked cases of parts of rows.
use Rattle.std.proofs.Common.{◌≡◌, Some, [], ◌∷◌, codes, refl}
use Rattle.std.specs.Char.{encode_utf8}
use Rattle.ifr_opcodes.specs.Forest.{Node}
use Rattle.question_rows.specs.Elements.{html_line, listed}
use Rattle.question_rows.specs.Referring.{linked, linked_from, reference_front, start_of_link}

-- ---- references to questions

an_id_is_referred_to : reference_front (codes "q48 == 1) and (ideqval q49 == 0)") ≡ record { digits = codes "48"; size = 3 }
an_id_is_referred_to = refl

an_answer_is_referred_to : reference_front (codes "questionref(48) + 1u64") ≡ record { digits = codes "48"; size = 15 }
an_answer_is_referred_to = refl

an_operator_is_no_reference : (reference_front (codes "qval q48 == 1")).digits ≡ []
an_operator_is_no_reference = refl

a_link_has_the_place : (n : Node) → n.place ≡ 0x25E → start_of_link (Some n) ≡ codes "<a href=\"#q25e\">"
a_link_has_the_place n e = rw e refl

an_unknown_id_stays_text : linked [] (codes "THIS > questionref(48)") ≡ codes "THIS &gt; questionref(48)"
unfolding linked_from encode_utf8
an_unknown_id_stays_text = refl

-- ---- texts and lists

a_line_stands_in_a_page : html_line (codes "<Slow> & \"fast\"") ≡ codes "&lt;Slow&gt; &amp; &quot;fast&quot;"
unfolding encode_utf8
a_line_stands_in_a_page = refl

items_are_listed : listed (codes "<") (codes ", ") (codes ">") (codes "a" ∷ codes "b" ∷ []) ≡ codes "<a, b>"
items_are_listed = refl

no_items_are_listed : listed (codes "<") (codes ", ") (codes ">") [] ≡ []
no_items_are_listed = refl
