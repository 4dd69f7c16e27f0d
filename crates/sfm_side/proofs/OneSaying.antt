-- A line of sizes and a line of pins say one thing each.
use Rattle.std.proofs.Common.{◌≡◌, ◌≢◌, inl, inr, ℕ, Bool, List, [], ◌∷◌, length, codes, Option, AllPairs, ℤ, sym, ap, ◌∙◌, arith}
use Rattle.sfm_spec.proofs.Sets.{same_sets}
use Rattle.sfm_lines.specs.declared.word.TermWord.TheVariants.{WeightWord}
use Rattle.sfm_lines.proofs.WordLines.{parts-same}
use Rattle.sfm_side.specs.Sizes.{HasSizeLine, GivesSizes, sizes_form}
use Rattle.sfm_side.specs.Pins.{PinData, IsWithNames, Pins, pins_form}
use Rattle.sfm_side.proofs.SizeReasons.{gives-same}
use Rattle.sfm_side.proofs.OneReading.{IsSaidOnce}

pub sizes-once : (names : List (List ℕ)) → AllPairs (λ a b. a ≢ b) names
    → IsSaidOnce (sizes_form names)
sizes-once names distinct = record { once = once; ends = ends } where
  once : (given : List (Option ℤ)) (tokens : List (List ℕ)) (a b : List (Option ℤ))
      → HasSizeLine tokens (λ parts. GivesSizes names given parts a)
      → HasSizeLine tokens (λ parts. GivesSizes names given parts b) → a ≡ b
  once given tokens a b (p, (rest, e, line), h) (q, (rest', e', line'), g) =
      let both : codes "size" ∷ rest ≡ codes "size" ∷ rest' = sym e ∙ e' in
      let same : rest ≡ rest' = cc in
      gives-same names distinct given p q a b
      (parts-same WeightWord rest' p q (rw same at line) line') h g

  ends : (given a : List (Option ℤ))
      → HasSizeLine (codes "end" ∷ []) (λ parts. GivesSizes names given parts a) → ⊥
  ends given a (p, (rest, e, line), h) =
      let word : codes "end" ≡ codes "size" = cc in omega (arith, ap length word)

-- a set with the elements of names besides is one
with-same : (names texts : List (List ℕ)) (s t u : List Bool) → IsWithNames names texts s t
    → IsWithNames names texts s u → t ≡ u
with-same names texts s t u h g =
    same_sets t u (h.places ∙ sym g.places) (λ e l has. (g.exact e).1 ((h.exact e).0 has))
    (λ e l has. (h.exact e).1 ((g.exact e).0 has))

abbrev pins : (inside outside : List Bool) → PinData
pins inside outside = record { inside = inside; outside = outside }

same-pins : (a b : PinData) → a.inside ≡ b.inside → a.outside ≡ b.outside → a ≡ b
same-pins a b inside outside = ap (λ s. pins s a.outside) inside ∙ ap (λ s. pins b.inside s) outside

pub pins-once : (names : List (List ℕ)) → IsSaidOnce (pins_form names)
pins-once names = record { once = once; ends = ends } where
  rest-same : (word : List ℕ) (tokens texts texts' : List (List ℕ)) → tokens ≡ word ∷ texts
      → tokens ≡ word ∷ texts' → texts' ≡ texts
  rest-same word tokens texts texts' e e' = let both : word ∷ texts ≡ word ∷ texts' = sym e
      ∙ e' in cc

  words : (tokens texts texts' : List (List ℕ)) → tokens ≡ codes "in" ∷ texts
      → tokens ≡ codes "out" ∷ texts' → ⊥
  words tokens texts texts' e e' =
      let both : codes "in" ∷ texts ≡ codes "out" ∷ texts' = sym e ∙ e' in
      let word : codes "in" ≡ codes "out" = cc in
      omega (arith, ap length word)

  once : (p : PinData) (tokens : List (List ℕ)) (a b : PinData) → Pins names p tokens a
      → Pins names p tokens b → a ≡ b
  once p tokens a b (texts, inl ((e, some, unmarked), h, same))
      (texts', inl ((e', some', unmarked'), g, same')) =
      let one : texts' ≡ texts = rest-same (codes "in") tokens texts texts' e e' in
      let inside : a.inside ≡ b.inside = with-same names texts p.inside a.inside b.inside h
      (rw one at g) in
      same-pins a b inside (same ∙ sym same')
  once p tokens a b (texts, inr ((e, some, unmarked), h, same))
      (texts', inr ((e', some', unmarked'), g, same')) =
      let one : texts' ≡ texts = rest-same (codes "out") tokens texts texts' e e' in
      let outside : a.outside ≡ b.outside = with-same names texts p.outside a.outside b.outside h
      (rw one at g) in
      same-pins a b (same ∙ sym same') outside
  once p tokens a b (texts, inl ((e, some, unmarked), h, same))
      (texts', inr ((e', some', unmarked'), g, same')) = absurd (words tokens texts texts' e e')
  once p tokens a b (texts, inr ((e, some, unmarked), h, same))
      (texts', inl ((e', some', unmarked'), g, same')) = absurd (words tokens texts' texts e' e)

  ends : (p a : PinData) → Pins names p (codes "end" ∷ []) a → ⊥
  ends p a (texts, inl ((e, some, unmarked), h, same)) =
      let word : codes "end" ≡ codes "in" = cc in omega (arith, ap length word)
  ends p a (texts, inr ((e, some, unmarked), h, same)) =
      let none : [] ≡ texts = cc in some (sym none)
