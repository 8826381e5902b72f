-- Questions are counted one after the other.
use Rattle.std.proofs.Common.{◌≡◌, ◌∙◌, ◌+◌, ◌<◌, ◌^◌, ◌++◌, ℕ, Bool, true, false, cond, List, [], ◌∷◌, length, ap, append_assoc, arith, length-append, refl, subst, sym}
use Rattle.std.specs.Prelude.{filter}
use Rattle.std.specs.List.{count_by}
use Rattle.std.proofs.lemmas.List.{append-nil, length-map}
use Rattle.std.proofs.lemmas.List.Sums.{count_by-le-length, sum_by_push}
use Rattle.ifr_nodes.specs.Checked.{IsChecked}
use Rattle.ifr_nodes.specs.Nodes.{is_question, nodes_of}
use Rattle.hii_questions.specs.Fields.{Asked, asked, questions}
use Rattle.guard_policy.specs.World.{World}
use Rattle.check_audit.proofs.CountLemmas.{few}
use Rattle.survey_audit.specs.Counts.{is_disabled, is_fixed, is_for_good, is_grayed, is_hidden, is_open, standing, tally_of}
use Rattle.survey_audit.specs.code.Room.{HasRoom, added, counted}
use Rattle.survey_audit.specs.declared.tally.Tally.{Tally}

-- a package has few questions
pub few_questions : (bytes : List ℕ) → IsChecked bytes → length (questions (nodes_of bytes)) < 2 ^ 64
few_questions bytes checked =
    let all = few bytes is_question (filter is_question (nodes_of bytes)) checked refl in
    omega (arith, all, length-map (filter is_question (nodes_of bytes)) (asked (nodes_of bytes)))

abbrev tally : ℕ → ℕ → ℕ → ℕ → ℕ → ℕ → Tally
tally a b c d e f = record { changeable = a; grayed = b; hidden = c; disabled = d; fixed = e; constant = f }

same_tally : (a b c d e f g h i j k l : ℕ) → a ≡ g → b ≡ h → c ≡ i → d ≡ j → e ≡ k → f ≡ l → tally a b c d e f ≡ tally g h i j k l
same_tally a b c d e f g h i j k l p q r s t u =
    ap (λ n. tally n b c d e f) p ∙ ap (λ n. tally g n c d e f) q ∙ ap (λ n. tally g h n d e f) r
    ∙ ap (λ n. tally g h i n e f) s ∙ ap (λ n. tally g h i j n f) t ∙ ap (λ n. tally g h i j k n) u

one_more : (b : Bool) (n : ℕ) → counted b n ≡ n + cond b 1 0
one_more true n = refl
one_more false n = omega arith

count_more : (p : Asked → Bool) (qs : List Asked) (q : Asked) → counted (p q) (count_by p qs) ≡ count_by p (qs ++ q ∷ [])
count_more p qs q = one_more (p q) (count_by p qs) ∙ sym (sum_by_push (λ r. cond (p r) 1 0) qs q)

tally_more : (w : World) (qs : List Asked) (q : Asked) → added (tally_of w qs) (standing w q.node) (is_for_good w q.node) ≡ tally_of w (qs ++ q ∷ [])
tally_more w qs q =
    same_tally _ _ _ _ _ _ _ _ _ _ _ _ (count_more (λ r. is_open (standing w r.node)) qs q) (count_more (λ r. is_grayed (standing w r.node)) qs q)
    (count_more (λ r. is_hidden (standing w r.node)) qs q) (count_more (λ r. is_disabled (standing w r.node)) qs q)
    (count_more (λ r. is_fixed (standing w r.node)) qs q) (count_more (λ r. is_for_good w r.node) qs q)

-- Those before the ones that are left are counted.
pub record IsCounted (w : World) (all left : List Asked) (t : Tally) : Type 0 where
  pub done : List Asked
  pub parts : all ≡ done ++ left
  pub told : t ≡ tally_of w done
  pub few : length all < 2 ^ 64

module _ (w : World) (all left : List Asked) (t : Tally) where
  pub counted_start : left ≡ all → length all < 2 ^ 64 → t ≡ tally_of w [] → IsCounted w all left t
  counted_start e few none = record { done = []; parts = sym e; told = none; few = few }

  pub counted_more : (q : Asked) (after : List Asked) (new : Tally) → left ≡ q ∷ after → IsCounted w all left t → new ≡ added t (standing w q.node) (is_for_good w q.node)
      → IsCounted w all after new
  counted_more q after new e k more = record {
    done = k.done ++ q ∷ [];
    parts = k.parts ∙ ap (λ (l : List Asked). k.done ++ l) e ∙ sym (append_assoc k.done (q ∷ []) after);
    told = more ∙ ap (λ (u : Tally). added u (standing w q.node) (is_for_good w q.node)) k.told ∙ tally_more w k.done q;
    few = k.few;
  }

  pub counted_room : (q : Asked) (after : List Asked) → left ≡ q ∷ after → IsCounted w all left t → HasRoom t
  counted_room q after e k = subst HasRoom (sym k.told) record {
    changeable = room (λ r. is_open (standing w r.node));
    grayed = room (λ r. is_grayed (standing w r.node));
    hidden = room (λ r. is_hidden (standing w r.node));
    disabled = room (λ r. is_disabled (standing w r.node));
    fixed = room (λ r. is_fixed (standing w r.node));
    constant = room (λ r. is_for_good w r.node);
  }
    where
      longer : length all ≡ length k.done + length (q ∷ after)
      longer = ap length (k.parts ∙ ap (λ (l : List Asked). k.done ++ l) e) ∙ length-append k.done (q ∷ after)

      room : (p : Asked → Bool) → count_by p k.done + 1 < 2 ^ 64
      room p = omega (arith, longer, k.few, count_by-le-length p k.done)

  pub counted_all : left ≡ [] → IsCounted w all left t → t ≡ tally_of w all
  counted_all none k =
      let e : all ≡ k.done ++ [] = k.parts ∙ ap (λ (l : List Asked). k.done ++ l) none in
      k.told ∙ ap (tally_of w) (sym (append-nil k.done) ∙ sym e)
