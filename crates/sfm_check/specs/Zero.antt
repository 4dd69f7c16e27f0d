-- Where the slopes of an answer pass 0/1, and what its extreme sets are worth there.
use Rattle.std.specs.Prelude.{◌≡◌, ℕ, suc, ◌<◌, ◌≤◌, List, length, map, ℤ, pos, ◌<ℤ◌, ◌≤ℤ◌}
use Rattle.sfm_spec.specs.Sets.{empty_set}
use Rattle.sfm_spec.specs.Families.{Meaning, deficit, rest_at, sized_shift}
use Rattle.sfm_spec.specs.Laws.{Mark}
use Rattle.sfm_spec.specs.Search.{mark_at}
use Rattle.sfm_cert.specs.Answer.{Answer, mark_of}
use Rattle.sfm_check.specs.Findings.{set_before}
use Rattle.sfm_check.specs.Values.{IsWorth}
use Rattle.sfm_check.specs.declared.worth.Worth.{Worth}

-- the numerator of the slope before slope k is below the limit, and that of slope k is not
pub record IsCut (marks : List Mark) (limit : ℤ) (k : ℕ) : Type 0 where
  pub few : k ≤ length marks
  pub below : (j : ℕ) → suc j ≡ k → (mark_at marks j).num <ℤ limit
  pub above : k < length marks → limit ≤ℤ (mark_at marks k).num

-- the least set is that behind the slopes below 0, the greatest that before those above 0
pub record AreBetween (n : ℕ) (a : Answer) : Type 0 where
  pub low : ℕ
  pub high : ℕ
  pub low_is : IsCut (map mark_of a.breaks) (pos 0) low
  pub high_is : IsCut (map mark_of a.breaks) (pos 1) high
  pub least : a.least ≡ set_before (empty_set n) (map mark_of a.breaks) low
  pub greatest : a.greatest ≡ set_before (empty_set n) (map mark_of a.breaks) high

-- the value, and those of the extreme sets, are the sum of min(z, 0) at the bases at 0/1
pub record AreWorthLeast (terms : List Meaning) (n : ℕ) (sizes : List ℤ) (a : Answer) : Type 0 where
  pub low : Worth
  pub high : Worth
  pub low_is : IsWorth terms sizes a.least low
  pub high_is : IsWorth terms sizes a.greatest high
  pub value : a.value ≡ deficit n (rest_at terms a.bases (sized_shift sizes (pos 0)))
  pub low_attains : low.sum ≡ deficit n (rest_at terms a.bases (sized_shift sizes (pos 0)))
  pub high_attains : high.sum ≡ deficit n (rest_at terms a.bases (sized_shift sizes (pos 0)))
