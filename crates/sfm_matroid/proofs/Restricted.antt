-- A part of the kept elements is independent among these where it is so among all: each element
-- that has a slot goes by its number among the kept ones or by its place among all.
use Rattle.std.proofs.Common.{◌≡◌, ◌↔◌, ℕ, Bool, List, [], length, get_or, take, sym, subst, Contains}
use Rattle.sfm_spec.specs.Sets.{size}
use Rattle.sfm_spec.specs.Kinds.{IsMatchable}
use Rattle.sfm_layers.specs.Kept.{kept, spread}
use Rattle.sfm_layers.proofs.Kept.{kept-at, kept-nth, nth_kept, number-one, spread-has}
use Rattle.sfm_matroid.specs.Matchings.{matchable_from}
use Rattle.sfm_matroid.proofs.KeptPlaces.{member_below, nth-one, spread_nth}

module _ (keep : List Bool) (entries : List (List ℕ)) (same : length keep ≡ length entries)
    (u : List Bool) (each : length u ≡ size keep) where
  slots-out : IsMatchable (kept keep entries) u → IsMatchable entries (spread keep u)
  slots-out (slots, m) = matchable_from entries (spread keep u)
      (λ e. get_or slots (size (take e keep)) 0) (record {
        own = λ e h.
            let (k, has) = spread-has keep u e h in
            subst (λ (own : List ℕ). Contains own (get_or slots (size (take e keep)) 0))
            (kept-at keep entries e [] same k) (m.own (size (take e keep)) has);
        distinct = λ d e hd he one.
            let (kd, d_has) = spread-has keep u d hd in
            let (ke, e_has) = spread-has keep u e he in
            number-one keep d e kd ke (m.distinct (size (take d keep)) (size (take e keep)) d_has
            e_has
            one);
      })

  slots-back : IsMatchable entries (spread keep u) → IsMatchable (kept keep entries) u
  slots-back (slots, m) = matchable_from (kept keep entries) u
      (λ i. get_or slots (nth_kept keep i) 0) (record {
        own = λ i h. subst (λ (own : List ℕ). Contains own (get_or slots (nth_kept keep i) 0))
            (sym (kept-nth keep entries i [] same (member_below keep u each i h)))
            (m.own (nth_kept keep i) (spread_nth keep u each i h));
        distinct = λ i j hi hj one. nth-one keep i j (member_below keep u each i hi)
            (member_below keep u each j hj)
            (m.distinct (nth_kept keep i) (nth_kept keep j) (spread_nth keep u each i hi)
            (spread_nth keep u each j hj) one);
      })

  pub transversal-spread : IsMatchable (kept keep entries) u ↔ IsMatchable entries (spread keep u)
  transversal-spread = (slots-out, slots-back)
