-- A text is sought in a set of the different texts of a list in place of the list.
use Rattle.std.proofs.Common.{◌≡◌, ℕ, Bool, true, false, not, ◌||◌, List, [], ◌∷◌, map, Bor, refl, sym, ap, ◌∙◌}
use Rattle.std.specs.Prelude.{bytes_eq}
use Rattle.std.specs.List.{filter, list_any}
use Rattle.std.proofs.lemmas.Bool.{true≢false}
use Rattle.std.proofs.lemmas.Slice.Eq.{bytes_eq-Decides}
use Rattle.sfm_lines.specs.LabelTerms.{distinct_of}
use Rattle.sfm_lines.specs.RankLines.{is_among}
use Rattle.sfm_lines.proofs.Numbering.{has-others}

-- a text is among the different texts exactly where it is among all
pub any-distinct : (x : List ℕ) (texts : List (List ℕ))
    → list_any (λ o. bytes_eq x o) (distinct_of texts) ≡ list_any (λ o. bytes_eq x o) texts
any-distinct x [] = refl
any-distinct x (t ∷ texts) = at (bytes_eq x t) refl (any-distinct x texts)
  where
    at : (b : Bool) → bytes_eq x t ≡ b → list_any (λ o. bytes_eq x o) (distinct_of texts) ≡ list_any
        (λ o. bytes_eq x o) texts
        → (b || list_any (λ o. bytes_eq x o) (filter (λ o. not (bytes_eq t o)) (distinct_of texts)))
        ≡ (b || list_any (λ o. bytes_eq x o) texts)
    at true e h = refl
    at false e h = has-others t x e (distinct_of texts) ∙ h

-- and so is it among the keys of a set of them
any-keys : (x : List ℕ) (keys : List (Bor (List ℕ)))
    → list_any (λ k. bytes_eq x k.now) keys ≡ list_any (λ o. bytes_eq x o) (map (λ k. k.now) keys)
any-keys x [] = refl
any-keys x (k ∷ keys) = ap (λ r. bytes_eq x k.now || r) (any-keys x keys)

flipped : (x y : List ℕ) → bytes_eq x y ≡ bytes_eq y x
flipped x y = at (bytes_eq x y) (bytes_eq y x) refl refl
  where
    at : (a b : Bool) → bytes_eq x y ≡ a → bytes_eq y x ≡ b → a ≡ b
    at true true e f = refl
    at true false e f =
        absurd (true≢false (sym ((bytes_eq-Decides y x).1 (sym ((bytes_eq-Decides x y).0 e))) ∙ f))
    at false true e f =
        absurd (true≢false (sym ((bytes_eq-Decides x y).1 (sym ((bytes_eq-Decides y x).0 f))) ∙ e))
    at false false e f = refl

any-flipped : (x : List ℕ) (texts : List (List ℕ))
    → list_any (λ o. bytes_eq x o) texts ≡ is_among texts x
any-flipped x [] = refl
any-flipped x (t ∷ texts) = rw (flipped x t, any-flipped x texts) refl

pub known-among : (x : List ℕ) (keys : List (Bor (List ℕ))) (texts : List (List ℕ))
    → map (λ k. k.now) keys ≡ distinct_of texts
    → list_any (λ k. bytes_eq x k.now) keys ≡ is_among texts x
known-among x keys texts e = any-keys x keys
    ∙ (ap (list_any (λ o. bytes_eq x o)) e ∙ (any-distinct x texts ∙ any-flipped x texts))
