-- Lines of some items are written one after the other.
use Rattle.std.proofs.Common.{◌≡◌, ℕ, Bool, true, false, List, [], ◌∷◌, ap, subst, sym, ◌∙◌}
use Rattle.std.specs.Prelude.{filter}
use Rattle.std.specs.List.{flat_map}
use Rattle.std.proofs.lemmas.Bool.{cond-true, cond-false}
use Rattle.hii_bytes.specs.Watching.{Pen, Writes}
use Rattle.hii_bytes.specs.code.Writing.{Stands}
use Rattle.hii_bytes.proofs.WritingLemmas.{Stands-start, Stands-all, past_piece}

module _ {X : Type 0} (line : X → List ℕ) where
  -- at first all are left, and at last none
  pub all_left : (a : Pen) (all left : List X) → left ≡ all → Stands a a (flat_map line all) (flat_map line left)
  all_left a all left e = subst (λ (l : List X). Stands a a (flat_map line all) (flat_map line l)) (sym e) (Stands-start a (flat_map line all))

  pub none_left : (a b : Pen) (text : List ℕ) (left : List X) → left ≡ [] → Stands a b text (flat_map line left) → Writes a b text
  none_left a b text left e s = Stands-all a b text (flat_map line left) s (ap (flat_map line) e)

  -- one more is written
  pub past_item : (a b c : Pen) (text : List ℕ) (left rest : List X) (x : X) → left ≡ x ∷ rest → Stands a b text (flat_map line left) → Writes b c (line x) → Stands a c text (flat_map line rest)
  past_item a b c text left rest x e s w = past_piece a b c text (flat_map line left) (line x) (flat_map line rest) (ap (flat_map line) e) s w

  -- one that passes a test is, and one that fails is passed over
  pub past_passing : (test : X → Bool) (a b c : Pen) (text : List ℕ) (left rest : List X) (x : X) → left ≡ x ∷ rest → test x ≡ true
      → Stands a b text (flat_map line (filter test left)) → Writes b c (line x) → Stands a c text (flat_map line (filter test rest))
  past_passing test a b c text left rest x e is s w =
      past_item a b c text (filter test left) (filter test rest) x (ap (filter test) e ∙ cond-true (test x) (x ∷ filter test rest) (filter test rest) is) s w

  pub past_failing : (test : X → Bool) (a b : Pen) (text : List ℕ) (left rest : List X) (x : X) → left ≡ x ∷ rest → test x ≡ false
      → Stands a b text (flat_map line (filter test left)) → Stands a b text (flat_map line (filter test rest))
  past_failing test a b text left rest x e is s =
      subst (λ (l : List X). Stands a b text (flat_map line l)) (ap (filter test) e ∙ cond-false (test x) (x ∷ filter test rest) (filter test rest) is) s
