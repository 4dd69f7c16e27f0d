-- The breakpoints as far as some set: one more, and all of them.
use Rattle.std.proofs.Common.{◌≡◌, ℕ, zero, suc, ◌<◌, Bool, List, [], ◌∷◌, ◌++◌, length, map, ℤ, refl, subst, arith}
use Rattle.std.proofs.lemmas.List.{map-append}
use Rattle.std.proofs.lemmas.List.Elements.{All-append, All-nil, All-cons}
use Rattle.sfm_spec.specs.Sets.{empty_set, whole_set, size}
use Rattle.sfm_spec.specs.Families.{Meaning, AreTerms, IsLeast, IsGreatest, sized_shift}
use Rattle.sfm_spec.specs.Laws.{AreBreakpoints}
use Rattle.sfm_spec.specs.Search.{AreLowest, IsChainTo}
use Rattle.sfm_spec.proofs.Sizes.{AreSizes}
use Rattle.sfm_spec.proofs.Chain.{breakpoints_of_chain, chain_push, chain_whole}
use Rattle.sfm_slope.specs.declared.turn.Breakpoint.{Breakpoint}
use Rattle.sfm_slope.specs.Parts.{IsPartTo}
use Rattle.sfm_slope.specs.Points.{IsInRange, found_mark}

pub part_none : (terms : List Meaning) (n : ℕ) (sizes : List ℤ)
    → IsPartTo terms n sizes [] (empty_set n)
part_none terms n sizes = record { chain = refl; ranges = All-nil (IsInRange sizes) }

pub part_push : (terms : List Meaning) (n : ℕ) (sizes : List ℤ) (found : List Breakpoint)
    (b : Breakpoint) (low high : List Bool) → IsPartTo terms n sizes found low
    → IsLeast terms n b.slope.den (sized_shift sizes b.slope.num) low
    → IsGreatest terms n b.slope.den (sized_shift sizes b.slope.num) b.set → b.set ≡ high
    → size low < size high → IsInRange sizes b
    → IsPartTo terms n sizes (found ++ b ∷ []) high
part_push terms n sizes found b low high h least great same larger range = record {
  chain = subst (λ s. IsChainTo terms n sizes (empty_set n) (map found_mark (found ++ b ∷ [])) s)
      same
      (rw (map-append found_mark found (b ∷ []))
      (chain_push terms n sizes (empty_set n) (map found_mark found) low (found_mark b) h.chain
      b.slope.lowest.positive great least (rw same larger)));
  ranges = All-append (IsInRange sizes) found (b ∷ []) h.ranges
      (All-cons (IsInRange sizes) b [] range (All-nil (IsInRange sizes)));
}

marks-lowest : (found : List Breakpoint) → AreLowest (map found_mark found)
marks-lowest [] i l = absurd (omega arith)
marks-lowest (b ∷ found) zero l = b.slope.lowest
marks-lowest (b ∷ found) (suc i) l = marks-lowest found i (omega arith)

pub part_all : (terms : List Meaning) (n : ℕ) (sizes : List ℤ) → AreTerms n terms → length sizes ≡ n
    → AreSizes sizes → (found : List Breakpoint) (last : List Bool)
    → IsPartTo terms n sizes found last → last ≡ whole_set n
    → AreBreakpoints terms n sizes (map found_mark found)
part_all terms n sizes fit sized ones found last h whole =
    breakpoints_of_chain terms n sizes fit sized ones (map found_mark found)
    (chain_whole terms n sizes (empty_set n) (map found_mark found) last h.chain whole)
    (marks-lowest found)
