-- Bases of all sides taken apart: the first are bases of the left sum, and the others, negated, of
-- the right one.
use Rattle.std.proofs.Common.{◌≡◌, ℕ, List, [], ◌∷◌, ◌++◌, length, map, take, drop, ℤ, pos, ◌≤ℤ◌, refl, ap, ◌∙◌, arith}
use Rattle.std.proofs.lemmas.Int.{ints}
use Rattle.std.proofs.lemmas.List.{take-append-drop}
use Rattle.sfm_spec.specs.Families.{Meaning, AreTerms, AreBases}
use Rattle.sfm_spec.proofs.Scaled.{family-times, submodular-times}
use Rattle.sfm_flip.specs.Flipped.{negated, flipped_term}
use Rattle.sfm_flip.specs.FlipLaws.{turned-from, length-negated, negated-twice}

-- the bases of the first terms, and those of the others
pub bases_apart : (q : ℤ) (ks js : List Meaning) (z : List (List ℤ)) → AreBases q (ks ++ js) z
    → AreBases q ks (take (length ks) z) × AreBases q js (drop (length ks) z)
bases_apart q [] js z h = (tt, h)
bases_apart q (k ∷ ks) js [] h = absurd h
bases_apart q (k ∷ ks) js (x ∷ z) h =
    let r = bases_apart q ks js z h.2 in
    ((h.0, h.1, r.0), r.1)

-- those of terms turned round are negated ones of the terms
bases-turned_back : (q : ℤ) → pos 1 ≤ℤ q → (n : ℕ) (terms : List Meaning) (rows : List (List ℤ))
    → AreTerms n terms
    → AreBases q (map flipped_term terms) rows → AreBases q terms (map negated rows)
bases-turned_back q low n [] [] h b = tt
bases-turned_back q low n [] (x ∷ rows) h b = absurd b
bases-turned_back q low n (term ∷ terms) [] h b = absurd b
bases-turned_back q low n (term ∷ terms) (x ∷ rows) h b =
    let k = length term.places in
    let f = term.value in
    let base = turned-from k f h.0.family h.0.submodular q (family-times k q f h.0.family)
    (submodular-times k q f (omega (arith, ints, low)) h.0.submodular) x b.0 b.1 in
    (length-negated x ∙ b.0, base, bases-turned_back q low n terms rows h.1 b.2)

-- all rows negated twice
negated_all-twice : (rows : List (List ℤ)) → map negated (map negated rows) ≡ rows
negated_all-twice [] = refl
negated_all-twice (x ∷ rows) =
    ap (λ y. y ∷ map negated (map negated rows)) (negated-twice x)
    ∙ ap (λ r. x ∷ r) (negated_all-twice rows)

module _ (q : ℤ) (low : pos 1 ≤ℤ q) (n : ℕ) (left right : List Meaning) (fit : AreTerms n right)
    (z : List (List ℤ))
    (bases : AreBases q (left ++ map flipped_term right) z) where
  -- the bases of both sums
  pub sides_apart : AreBases q left (take (length left) z)
      × AreBases q right (map negated (drop (length left) z))
  sides_apart =
      let r = bases_apart q left (map flipped_term right) z bases in
      (r.0, bases-turned_back q low n right (drop (length left) z) fit r.1)

-- and joined again they are those of all sides
pub apart_joined : (k : ℕ) (z : List (List ℤ))
    → (take k z ++ map negated (map negated (drop k z))) ≡ z
apart_joined k z = ap (λ r. take k z ++ r) (negated_all-twice (drop k z)) ∙ take-append-drop k z
