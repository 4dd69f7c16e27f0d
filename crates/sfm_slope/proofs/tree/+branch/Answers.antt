use Rattle.std.proofs.Common.{◌≡◌, ◌-◌, ◌/◌, ◌^◌, ◌≤◌, ◌<◌, ℕ, List, length, take, drop, arith}
use Rattle.std.proofs.Math.Nat.{mul-div-le, lt-mul-div-succ}
use Rattle.std.proofs.lemmas.List.{length-drop, length-take-le, take_all}
use Rattle.std.proofs.lemmas.List.Elements.{All-drop, All-take}
use Rattle.sfm_slope.specs.declared.turn.Breakpoint.{Breakpoint}
use Rattle.sfm_slope.specs.Points.{IsInRange}
use Rattle.sfm_slope.proofs.Reached.{standing_over}
use Rattle.sfm_slope.proofs.Scaled.{small_from_abs, small_within}
use Rattle.sfm_slope.proofs.Behind.{behind_parts}
use Rattle.sfm_slope.proofs.tree.+branch.Goals as goal

-- half of two or more is less than all, and not nothing
half_less : (n : ℕ) → 2 ≤ n → (n / 2 < n) × (1 ≤ n / 2)
half_less n two =
    let down = mul-div-le n 2 in
    let up = lt-mul-div-succ n {b = 2} (omega arith) in
    (omega (arith, down, two), omega (arith, up, two))

-- what is behind the half
behind : (found : List Breakpoint) (k : ℕ) → k ≤ length found
    → take (length found - k) (drop k found) ≡ drop k found
behind found k le = let l = length-drop k found in take_all (length found - k) (drop k found)
    (omega (arith, l))

pub stage_over-requires-clause-small : goal.stage_over-requires-clause-small
stage_over-requires-clause-small g t c =
    small_within (10 ^ 19) (10 ^ 25) (omega arith) c.args.at.graph.bases
    (small_from_abs (10 ^ 19) c.args.at.graph.bases
    (c.are_within.ensures.0 c.if-not-are_within.false))

pub copy_standing-requires-clause-small : goal.copy_standing-requires-clause-small
copy_standing-requires-clause-small g t c =
    small_within (10 ^ 19) (10 ^ 21) (omega arith) c.stage_over.new.at.graph.bases
    (small_from_abs (10 ^ 19) c.stage_over.new.at.graph.bases
    (c.are_within-else-found-lt-FEW_AT_LEAVES.ensures.0 c.if-not-are_within-2.false))

pub branch-search-requires : goal.branch-search-requires
branch-search-requires g t c = λ κs lives.
    let found = c.args.found.now in
    let k = length found / 2 in
    let P = IsInRange c.args.sizes.now in
    let half = half_less (length found) c.if-found-lt2.false in
    let l = length-take-le k found (omega (arith, half)) in (
      omega (arith, half, l),
      (
        lives.0,
        (
          lives.1,
          (
            c.requires.sizes,
            (
              c.requires.search,
              (
                All-take P k found c.requires.ranges,
                (
                  standing_over c.in_ok-again.ensures (take k found)
                      (λ Q all. All-take Q k found all),
                  c.requires.before,
                ),
              ),
            ),
          ),
        ),
      ),
    )

pub branch-search-requires-2 : goal.branch-search-requires-2
branch-search-requires-2 g t c = λ κs lives.
    let found = c.args.found.now in
    let k = length found / 2 in
    let P = IsInRange c.args.sizes.now in
    let f = c.in_ok-branch.ensures in
    let half = half_less (length found) c.if-found-lt2.false in
    let same = behind found k (omega (arith, half)) in
    let l = length-drop k found in
    rw same (
      omega (arith, half, l),
      (
        lives.0,
        (
          lives.1,
          (
            c.requires.sizes,
            (
              f.search,
              (
                All-drop P k found c.requires.ranges,
                (
                  standing_over c.in_ok-stage_over.ensures (drop k found)
                      (λ Q all. All-drop Q k found all),
                  f.behind.bases,
                ),
              ),
            ),
          ),
        ),
      ),
    )

pub returns-clause-behind : goal.returns-clause-behind
returns-clause-behind g t c =
    let found = c.args.found.now in
    let k = length found / 2 in
    let half = half_less (length found) c.if-found-lt2.false in
    let same = behind found k (omega (arith, half)) in
    behind_parts found k c.branch-search.new.breaks.items c.branch-search-2.new.breaks.items
    c.in_ok-branch.ensures.behind (rw same at c.in_ok-branch-2.ensures.behind)
