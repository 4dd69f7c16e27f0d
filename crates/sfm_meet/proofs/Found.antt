-- What is told of two instances, by bases of all sides: of the one found by the minimum, and of
-- bases that are given.
use Rattle.std.proofs.Common.{◌≡◌, ℕ, ◌+◌, ◌<◌, ◌≤◌, ◌^◌, Bool, List, ◌++◌, length, map, take, drop, get_or, ℤ, pos, ◌≤ℤ◌, ap, arith}
use Rattle.std.specs.Int.{int_min}
use Rattle.std.specs.List.{All}
use Rattle.std.proofs.lemmas.Int.{ints}
use Rattle.std.proofs.lemmas.List.{length-append}
use Rattle.std.proofs.lemmas.List.Elements.{All-take, All-drop}
use Rattle.sfm_spec.specs.Sets.{sum_over, whole_set}
use Rattle.sfm_spec.specs.Bounds.{IsAtMost, IsEntry, total_of}
use Rattle.sfm_spec.specs.Families.{AreTerms, AreBases, IsLeast, Prove, base_sum_at, even_shift}
use Rattle.sfm_law.proofs.Lists.{length-bases, length-meanings}
use Rattle.sfm_kind.specs.Kinds.{kind_places, kind_value}
use Rattle.sfm_kind.specs.Limits.{AreInBounds}
use Rattle.sfm_kind.specs.declared.kind.Kind.{Kind}
use Rattle.sfm_flip.specs.Flipped.{negated, flipped_term}
use Rattle.sfm_meet.specs.Both.{both_terms}
use Rattle.sfm_meet.specs.Common.{IsGreatestCommon, IsLeastSplit}
use Rattle.sfm_meet.specs.Met.{IsProvedMet, IsTrueMet}
use Rattle.sfm_meet.specs.Meetable.{HasNoNeed}
use Rattle.sfm_meet.specs.Told.{side_terms}
use Rattle.sfm_meet.proofs.Meeting.{sides_bases}
use Rattle.sfm_meet.proofs.Apart.{sides_apart, apart_joined}
use Rattle.sfm_meet.proofs.TrueMet.{least_met, proved_met, split_proves}
use Rattle.sfm_meet.proofs.SideTerms.{kinds_are_terms, all_allowed}
use Rattle.sfm_meet.proofs.Small.{negated-small, smaller-entries, split-entry, total-whole}

module _ (left right : List Kind) (n : ℕ) (hl : AreInBounds n left) (hr : AreInBounds n right)
    (nl : HasNoNeed left) (nr : HasNoNeed right) where
  fit_left : AreTerms n (side_terms left)
  fit_left = kinds_are_terms n left hl.placed

  fit_right : AreTerms n (side_terms right)
  fit_right = kinds_are_terms n right hr.placed

  one : pos 1 ≤ℤ pos 1
  one = omega (arith, ints)

  -- c has the smaller of two sums of bases at each place
  abbrev pub IsSmaller : List (List ℤ) → List (List ℤ) → List ℤ → Type 0
  IsSmaller x y c = (e : ℕ) → e < n
      → get_or c e (pos 0) ≡ int_min (base_sum_at (side_terms left) x e)
      (base_sum_at (side_terms right) y e)

  -- bases of both sums are those of all sides
  pub both_bases : (x y : List (List ℤ)) → AreBases (pos 1) (side_terms left) x
      → AreBases (pos 1) (side_terms right) y
      → AreBases (pos 1) (both_terms left right) (x ++ map negated y)
  both_bases x y bx by = sides_bases (pos 1) one n (side_terms left) (side_terms right) x y
      fit_right bx by

  -- as many as there are terms of the left sum, and more
  pub count_fits : (z : List (List ℤ)) → AreBases (pos 1) (both_terms left right) z
      → length left ≤ length z
  count_fits z bases = le (length-bases (pos 1) (both_terms left right) z bases)
      (length-append (side_terms left) (map flipped_term (side_terms right)))
      (length-meanings kind_places kind_value left) where
        le : length z ≡ length (both_terms left right)
            → length (both_terms left right) ≡ length (side_terms left) + length
            (map flipped_term (side_terms right)) → length (side_terms left) ≡ length left
            → length left ≤ length z
        le a b c = omega (arith, a, b, c)

  -- bases of all sides taken apart
  pub left_bases : (z : List (List ℤ)) → AreBases (pos 1) (both_terms left right) z
      → AreBases (pos 1) (side_terms left) (take (length left) z)
  left_bases z bases =
      rw (length-meanings kind_places kind_value left) at
      (sides_apart (pos 1) one n (side_terms left) (side_terms right) fit_right z bases).0

  pub right_bases : (z : List (List ℤ)) → AreBases (pos 1) (both_terms left right) z
      → AreBases (pos 1) (side_terms right) (map negated (drop (length left) z))
  right_bases z bases =
      rw (length-meanings kind_places kind_value left) at
      (sides_apart (pos 1) one n (side_terms left) (side_terms right) fit_right z bases).1

  -- the least minimiser and the smaller sums, where bases of both sums prove
  pub least_split_of : (x y : List (List ℤ)) (c : List ℤ) (t : List Bool)
      → AreBases (pos 1) (side_terms left) x → AreBases (pos 1) (side_terms right) y
      → length c ≡ n → IsSmaller x y c
      → IsLeast (both_terms left right) n (pos 1) (even_shift n (pos 0)) t
      → Prove (both_terms left right) n (pos 1) (even_shift n (pos 0)) (x ++ map negated y)
      → IsLeastSplit (side_terms left) (side_terms right) n (sum_over (whole_set n) c) t
      × IsGreatestCommon (side_terms left) (side_terms right) n c
  least_split_of x y c t bx by sized smaller least proves =
      least_met (side_terms left) (side_terms right) n fit_left fit_right (all_allowed n left nl)
      (all_allowed n right nr) x y bx by c sized smaller t least proves

  -- what is told of bases that prove
  pub proved_of : (x y : List (List ℤ)) (c : List ℤ) (v : ℤ) (s t : List Bool)
      → AreBases (pos 1) (side_terms left) x → AreBases (pos 1) (side_terms right) y
      → length c ≡ n → IsSmaller x y c
      → IsLeastSplit (side_terms left) (side_terms right) n (sum_over (whole_set n) c) t
      → IsProvedMet (side_terms left) (side_terms right) n
      (record { value = v; members = s; common = c; left = x; right = y })
  proved_of x y c v s t bx by sized smaller split =
      proved_met (side_terms left) (side_terms right) n fit_left fit_right (all_allowed n left nl)
      (all_allowed n right nr) x y bx by c sized smaller v s t split

  -- and back
  pub proves_of : (x y : List (List ℤ)) (c : List ℤ) (v : ℤ) (s : List Bool)
      → IsProvedMet (side_terms left) (side_terms right) n
      (record { value = v; members = s; common = c; left = x; right = y })
      → Prove (both_terms left right) n (pos 1) (even_shift n (pos 0)) (x ++ map negated y)
  proves_of x y c v s h =
      let (t, split) = h.total in
      split_proves (side_terms left) (side_terms right) n fit_left fit_right (all_allowed n left nl)
      (all_allowed n right nr) x y h.left_bases h.right_bases c h.places h.smaller t split

  -- what is told of the bases that were found
  module _ (z : List (List ℤ)) (t : List Bool) (c : List ℤ)
      (bases : AreBases (pos 1) (both_terms left right) z)
      (small : All (λ x. All (IsAtMost (10 ^ 25)) x) z)
      (least : IsLeast (both_terms left right) n (pos 1) (even_shift n (pos 0)) t)
      (proves : Prove (both_terms left right) n (pos 1) (even_shift n (pos 0)) z)
      (sized : length c ≡ n) (smaller : IsSmaller (take (length left) z)
      (map negated (drop (length left) z)) c) where
    abbrev x : List (List ℤ)
    x = take (length left) z

    abbrev y : List (List ℤ)
    y = map negated (drop (length left) z)

    found : IsLeastSplit (side_terms left) (side_terms right) n (sum_over (whole_set n) c) t
        × IsGreatestCommon (side_terms left) (side_terms right) n c
    found = least_split_of x y c t (left_bases z bases) (right_bases z bases) sized smaller least
        (rw (apart_joined (length left) z) proves)

    found_true : IsTrueMet (side_terms left) (side_terms right) n
        (record { value = total_of c; members = t; common = c; left = x; right = y })
    found_true = record {
      proved = proved_of x y c (total_of c) t t (left_bases z bases) (right_bases z bases) sized
          smaller found.0;
      split = rw (total-whole n c sized) found.0;
    }

    found_greatest : IsGreatestCommon (side_terms left) (side_terms right) n c
    found_greatest = found.1

    found_value : IsEntry (total_of c)
    found_value = rw (total-whole n c sized)
        (split-entry left right n (sum_over (whole_set n) c) t hl.small hr.small found.0)

    left_small : All (λ r. All (IsAtMost (10 ^ 25)) r) x
    left_small = All-take (λ r. All (IsAtMost (10 ^ 25)) r) (length left) z small

    right_small : All (λ r. All (IsAtMost (10 ^ 25)) r) y
    right_small = negated-small (10 ^ 25) (drop (length left) z)
        (All-drop (λ r. All (IsAtMost (10 ^ 25)) r) (length left) z small)

    found_common : All IsEntry c
    found_common = smaller-entries n left right x y c hl.few_places hr.few_places left_small
        right_small sized smaller

    -- all that is told
    pub found_all : IsTrueMet (side_terms left) (side_terms right) n
        (record { value = total_of c; members = t; common = c; left = x; right = y })
        × IsGreatestCommon (side_terms left) (side_terms right) n c × IsEntry (total_of c)
        × All IsEntry c
    found_all = (found_true, found_greatest, found_value, found_common)
