use Rattle.std.proofs.Common.{◌≡◌, ◌≢◌, ◌-◌, min, ◌<◌, ◌↔◌, ℕ, arith}
use Rattle.sfm_reach.proofs.Words.{bit_in-lt}
use Rattle.sfm_exchange.proofs.renewing.shared_places.Goals as goal

-- one less another, and of that what a third has
kept : (a b c first last : ℕ) → a < 2 → b < 2 → c < 2 → first ≡ a - c → last ≡ min first b
    → (last ≡ 1) ↔ ((a ≡ 1) × (b ≡ 1) × (c ≢ 1))
kept a b c first last la lb lc f l = (
  (λ one. (
    omega (arith, la, lb, lc, f, l, one),
    omega (arith, la, lb, lc, f, l, one),
    λ z. omega (arith, la, lb, lc, f, l, one, z),
  )),
  (λ (x, y, z). omega (arith, la, lb, lc, f, l, x, y, z)),
)

pub returns : goal.returns
returns c e = kept _ _ _ _ _ (bit_in-lt c.args.changed.now e) (bit_in-lt c.args.of_s.now e)
    (bit_in-lt c.args.claimed.now e) (c.remove_all.ensures e) (c.meet_with.ensures e)
