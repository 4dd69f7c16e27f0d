-- The count and the sum of the places above a number, one place after another, and with one place
-- put in or taken out.
use Rattle.std.proofs.Common.{◌≡◌, ℕ, ◌+◌, ◌-◌, ◌*◌, ◌^◌, ◌<◌, ◌≤◌, Bool, true, false, List, length, get_or, set, drop, ℤ, pos, neg_ℤ, ◌+ℤ◌, ◌-ℤ◌, ◌≤ℤ◌, ◌<ℤ◌, if◌then◌else◌, sym, ◌∙◌, arith, FitsSigned, length-set}
use Rattle.std.specs.List.{All}
use Rattle.std.proofs.lemmas.Int.{ints}
use Rattle.std.proofs.lemmas.List.{drop_more, length-replicate}
use Rattle.std.proofs.lemmas.List.Elements.{All-get_or}
use mir.Syntax.{w128}
use Rattle.sfm_spec.specs.Bounds.{IsAtMost, IsEntry, total_of}
use Rattle.sfm_spec.specs.Sets.{Has, whole_set, size, sum_over}
use Rattle.sfm_spec.proofs.Where.{size-cons}
use Rattle.sfm_spec.proofs.Sizes.{size-whole}
use Rattle.sfm_spec.proofs.Sums.{sum_over-drop}
use Rattle.sfm_law.proofs.Fits.{share_small, share_fits, more_fits, less_fits}
use Rattle.sfm_law.proofs.Totals.{total_of-whole}
use Rattle.sfm_law.proofs.Writes.{entry_fits}
use Rattle.sfm_concave.specs.Counts.{size-put, sum_over-put, size-in, size-out, sum_over-in, sum_over-out}
use Rattle.sfm_concave.specs.Thresholds.{above, IsShareOf, IsSomeShare}
use Rattle.sfm_concave.proofs.Above.{length-above, is_above, is_not_above}

-- ---- one place after another

-- a place more is still to be counted
pub record IsNext (bar : ℤ) (x : List ℤ) (i n : ℕ) (a : ℤ) : Type 0 where
  pub counts : size (drop i (above bar x)) ≡ n + size (drop (i + 1) (above bar x))
  pub sums : sum_over (drop i (above bar x))
      (drop i x) ≡ (a +ℤ sum_over (drop (i + 1) (above bar x)) (drop (i + 1) x))

size-drop : (s : List Bool) (i : ℕ) → i < length s
    → size (drop i s) ≡ (if get_or s i false then 1 else 0) + size (drop (i + 1) s)
size-drop s i h = rw (drop_more s i false h) (size-cons (get_or s i false) (drop (i + 1) s))

pub next_above : (bar : ℤ) (x : List ℤ) (i : ℕ) → i < length x → bar <ℤ get_or x i (pos 0)
    → IsNext bar x i 1 (get_or x i (pos 0))
next_above bar x i h more =
    let lt : i < length (above bar x) = omega (arith, length-above bar x) in
    let is = is_above bar x i h more in
    record {
      counts = rw is at (size-drop (above bar x) i lt);
      sums = rw is at (sum_over-drop (above bar x) x i lt h);
    }

pub next_below : (bar : ℤ) (x : List ℤ) (i : ℕ) → i < length x → get_or x i (pos 0) ≤ℤ bar
    → IsNext bar x i 0 (pos 0)
next_below bar x i h less =
    let lt : i < length (above bar x) = omega (arith, length-above bar x) in
    let is = is_not_above bar x i h less in
    record {
      counts = rw is at (size-drop (above bar x) i lt);
      sums = rw is at (sum_over-drop (above bar x) x i lt h);
    }

-- of the places with more than a number those among the first i have been counted
abbrev pub IsScanned : ℤ → List ℤ → ℕ → ℕ → ℤ → Type 0
IsScanned bar x i count sum = record {
  few : count ≤ i;
  counts : count + size (drop i (above bar x)) ≡ size (above bar x);
  sums : (sum +ℤ sum_over (drop i (above bar x)) (drop i x)) ≡ sum_over (above bar x) x;
  low : neg_ℤ (pos (10 ^ 30 * i)) ≤ℤ sum;
  high : sum ≤ℤ pos (10 ^ 30 * i);
}

pub scanned_more : (bar : ℤ) (x : List ℤ) (i n count count' : ℕ) (a sum sum' : ℤ) → n ≤ 1
    → IsEntry a → IsNext bar x i n a → count' ≡ count + n → sum' ≡ (sum +ℤ a)
    → IsScanned bar x i count sum → IsScanned bar x (i + 1) count' sum'
scanned_more bar x i n count count' a sum sum' one small next counted added inv = record {
  few = omega (arith, inv.few, one, counted);
  counts = omega (arith, inv.counts, next.counts, counted);
  sums = omega (arith, ints, inv.sums, next.sums, added);
  low = omega (arith, ints, inv.low, small.low, added);
  high = omega (arith, ints, inv.high, small.high, added);
}

-- ---- one place put in or taken out

module _ (count : ℕ) (sum : ℤ) (x : List ℤ) (s : List Bool) (share : IsShareOf count sum x s)
    (e : ℕ) (ke : e < length x) where
  here : e < length s
  here = omega (arith, ke, share.places)

  -- a place put as it is
  pub same_put : (b : Bool) → get_or s e false ≡ b → IsShareOf count sum x (set s e b)
  same_put b is =
      let n = rw is at (size-put s e b here) in
      let t = rw is at (sum_over-put s e b x here share.places) in
      record {
        places = length-set s e b ∙ share.places;
        counts = omega (arith, share.counts, n);
        sums = omega (arith, ints, share.sums, t);
      }

  pub in_share : get_or s e false ≡ false
      → IsShareOf (count + 1) (sum +ℤ get_or x e (pos 0)) x (set s e true)
  in_share out =
      let n = size-in s e here out in
      let t = sum_over-in s e x here share.places out in
      record {
        places = length-set s e true ∙ share.places;
        counts = omega (arith, share.counts, n);
        sums = omega (arith, ints, share.sums, t);
      }

  pub out_some : Has s e → 1 ≤ count
  out_some has = let n = size-out s e here has in omega (arith, share.counts, n)

  pub out_share : Has s e → IsShareOf (count - 1) (sum -ℤ get_or x e (pos 0)) x (set s e false)
  out_share has =
      let n = size-out s e here has in
      let t = sum_over-out s e x here share.places has in
      record {
        places = length-set s e false ∙ share.places;
        counts = omega (arith, share.counts, n);
        sums = omega (arith, ints, share.sums, t);
      }

-- all places
pub whole_share : (x : List ℤ) → IsShareOf (length x) (total_of x) x (whole_set (length x))
whole_share x = record {
  places = length-replicate (length x) true;
  counts = sym (size-whole (length x));
  sums = total_of-whole x;
}

-- ---- numbers of 128 bits

-- a share, an entry, their sum and their difference
pub share_and_entry : (x : List ℤ) (e count : ℕ) (sum : ℤ) → length x ≤ 256 → All IsEntry x
    → e < length x → IsSomeShare count sum x
    → let a = get_or x e (pos 0) in FitsSigned w128 sum × FitsSigned w128 a
    × FitsSigned w128 (sum +ℤ a) × FitsSigned w128 (sum -ℤ a)
share_and_entry x e count sum few small ke (s, share) =
    let a : IsEntry (get_or x e (pos 0)) = All-get_or IsEntry x e (pos 0) ke small in
    let all : IsAtMost (10 ^ 33) sum = rw share.sums (share_small s x few small) in
    (share_fits _ all, entry_fits _ a, more_fits _ _ all a, less_fits _ _ all a)
