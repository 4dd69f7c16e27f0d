-- The members of a part of kept places, and what holds of each item of a list, for the items that
-- are kept.
use Rattle.std.proofs.Common.{◌≡◌, ℕ, ◌<◌, ◌≤◌, Bool, List, length, take, sym, ap, ◌∙◌, subst, arith}
use Rattle.std.specs.List.{All}
use Rattle.std.proofs.lemmas.List.{take_all}
use Rattle.sfm_spec.specs.Sets.{Has, size}
use Rattle.sfm_rank.proofs.Members.{has_place}
use Rattle.sfm_layers.specs.Kept.{kept, spread}
use Rattle.sfm_layers.proofs.Kept.{has-spread, kept-nth, length-kept, nth-kept, nth-number, nth_kept}

-- two numbers have one kept place only if they are one
pub nth-one : (keep : List Bool) (i j : ℕ) → i < size keep → j < size keep
    → nth_kept keep i ≡ nth_kept keep j → i ≡ j
nth-one keep i j li lj same = sym (nth-number keep i li)
    ∙ (ap (λ e. size (take e keep)) same ∙ nth-number keep j lj)

module _ (keep u : List Bool) (each : length u ≡ size keep) where
  pub member_below : (i : ℕ) → Has u i → i < size keep
  member_below i h = let l = has_place u i h in omega (arith, l, each)

  -- the kept place of a member is in the part of all
  pub spread_nth : (i : ℕ) → Has u i → Has (spread keep u) (nth_kept keep i)
  spread_nth i h =
      let below = member_below i h in
      has-spread keep u (nth_kept keep i) (nth-kept keep i below)
      (subst (λ n. Has u n) (sym (nth-number keep i below)) h)

pub All-kept : {X : Type 0} (P : X → Type 0) (keep : List Bool) (xs : List X)
    → length keep ≡ length xs → All P xs → All P (kept keep xs)
All-kept P keep xs each h i d lt =
    let count = length-kept keep xs each in
    let below : i < size keep = omega (arith, count, lt) in
    let place = has_place keep (nth_kept keep i) (nth-kept keep i below) in
    subst P (sym (kept-nth keep xs i d each below))
    (h (nth_kept keep i) d (omega (arith, place, each)))

-- what is kept of as many items as there are
pub kept-all : {X : Type 0} (keep : List Bool) (xs : List X) (n : ℕ) → length keep ≡ length xs
    → length xs ≤ n → kept (take n keep) (take n xs) ≡ kept keep xs
kept-all keep xs n each all = ap (λ k. kept k (take n xs))
    (take_all n keep (omega (arith, each, all))) ∙ ap (λ l. kept keep l) (take_all n xs all)
