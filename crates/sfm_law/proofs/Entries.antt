-- Listed numbers: their sizes, as numbers of 128 bits, and written one after another.
use Rattle.std.proofs.Common.{◌≡◌, ℕ, zero, suc, ◌<◌, List, [], ◌∷◌, length, map, get_or, ℤ, pos, neg_ℤ, ◌≤ℤ◌, sym, ap, subst, ◌∙◌, to_z, of_z, arith, Fits, FitsSigned}
use Rattle.std.specs.List.{All, range_with_len}
use Rattle.std.proofs.lemmas.Int.{ints, clamps, to_z-of_z}
use Rattle.std.proofs.lemmas.List.Elements.{All-get_or}
use Rattle.std.proofs.lemmas.List.FromFn.{fill_by_all}
use mir.Syntax.{w64, w128}
use Rattle.sfm_spec.specs.Bounds.{IsEntry}
use Rattle.sfm_law.specs.Values.{greatest}
use Rattle.sfm_law.proofs.Writes.{entry_fits}

pub greatest-low : (values : List ℤ) → pos 0 ≤ℤ greatest values
greatest-low [] = omega (arith, ints)
greatest-low (a ∷ values) = let r = greatest-low values in omega (arith, ints, clamps, r)

-- a number that is listed, or 0 beyond them
pub listed-small : (values : List ℤ) (n : ℕ) → (neg_ℤ (greatest values) ≤ℤ get_or values n (pos 0))
    × (get_or values n (pos 0) ≤ℤ greatest values)
listed-small [] n = (omega (arith, ints), omega (arith, ints))
listed-small (a ∷ values) zero =
    let r = greatest-low values in (omega (arith, ints, clamps, r), omega (arith, ints, clamps, r))
listed-small (a ∷ values) (suc n) =
    let r = listed-small values n in (
      omega (arith, ints, clamps, r.0),
      omega (arith, ints, clamps, r.1),
    )

pub fits_at : (x : List ℤ) (i : ℕ) → i < length x → All IsEntry x
    → FitsSigned w128 (get_or x i (pos 0))
fits_at x i lt small = entry_fits _ (All-get_or IsEntry x i (pos 0) lt small)

-- a number that was told of listed numbers, where it and they are kept
pub told_of_kept : (f : List ℤ → ℤ) (a : ℤ) (values kept : List ℤ) → FitsSigned w128 a
    → a ≡ f values → kept ≡ values → to_z w128 (of_z w128 a) ≡ f kept
told_of_kept f a values kept fits told same = to_z-of_z w128 a fits ∙ told ∙ ap f (sym same)

-- numbers that are written as they are to be, and what holds of those
pub written : (f : ℕ → ℤ) (k : ℕ) (P : List ℤ → Type 0) (x : List ℤ) → length x ≡ k
    → ((j : ℕ) → j < k → get_or x j (pos 0) ≡ f j) → P (map f (range_with_len 0 k))
    → record { start : x ≡ map f (range_with_len 0 k); greedy : P x }
written f k P x sized each holds =
    let is = fill_by_all f x k (pos 0) sized each in
    record { start = is; greedy = subst P (sym is) holds }

-- a count as a number of 128 bits
pub count_bits : (n : ℕ) → Fits w64 n → to_z w128 n ≡ pos n
count_bits n fits = omega (arith, ints, fits)
