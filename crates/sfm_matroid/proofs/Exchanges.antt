-- An exchange from a split that was left near it: with nothing at v, and more at u.
use Rattle.std.proofs.Common.{◌≡◌, ◌≢◌, ℕ, List, [], ◌∷◌, length, get_or, set, ℤ, pos, ◌+ℤ◌, ◌-ℤ◌, Some, refl, sym, subst, ◌∙◌, arith, length-set, get_or-set_other, FitsSigned}
use Rattle.std.proofs.lemmas.Int.{ints}
use Rattle.std.proofs.lemmas.List.{set-set, set_comm}
use Rattle.std.proofs.lemmas.List.Elements.{All-get_or}
use Rattle.std.proofs.lemmas.Option.{same_Some}
use mir.Syntax.{w128}
use Rattle.sfm_spec.specs.Terms.{exchanged}
use Rattle.sfm_spec.proofs.Sums.{length-exchanged}
use Rattle.sfm_spec.proofs.MoveOrder.{exchanged-first, exchanged-second}
use Rattle.sfm_assign.specs.Splits.{IsAmount, Demands}
use Rattle.sfm_assign.specs.declared.kept.Kept.{Kept}
use Rattle.sfm_split.specs.Changes.{changed, AreChanges}
use Rattle.sfm_split.specs.declared.lower.Change.{Change}
use Rattle.std.specs.List.{All}
use Rattle.sfm_matroid.proofs.Fits.{amount_fits}
use Rattle.sfm_matroid.specs.Amounts.{CanMove}
use Rattle.sfm_matroid.specs.Notes.{apart_at}
use Rattle.sfm_matroid.specs.declared.pair.Near.{Near}

-- what is noted of a spare split is where it differs
pub near_there : (d : Demands) (held : List ℤ) (m n : Near) (j k : Kept) → Some m ≡ Some n
    → Some j ≡ Some k
    → (b c : ℤ) × (j.demand ≡ apart_at d m b c held) → (b c : ℤ)
    × (k.demand ≡ apart_at d n b c held)
near_there d held m n j k e f h =
    subst (λ (n : Near). (b c : ℤ) × (k.demand ≡ apart_at d n b c held)) (same_Some m n e)
    (subst (λ (k : Kept). (b c : ℤ) × (k.demand ≡ apart_at d m b c held)) (same_Some j k f) h)

module _ (x : List ℤ) (u v : ℕ) (a b c : ℤ) (can : CanMove x u v a) where
  -- what the split was left at
  abbrev pub left : List ℤ
  left = set (set x v b) u c

  abbrev up : ℤ
  up = get_or x u (pos 0) +ℤ a

  abbrev down : ℤ
  down = get_or x v (pos 0) -ℤ a

  -- what is to change
  abbrev pub to_exchanged : List Change
  to_exchanged =
      record { k = u; more = up -ℤ get_or left u (pos 0) }
      ∷ record { k = v; more = down -ℤ get_or left v (pos 0) } ∷ []

  is_u : (get_or left u (pos 0) +ℤ (up -ℤ get_or left u (pos 0))) ≡ up
  is_u = omega (arith, ints)

  apart : v ≢ u
  apart q = can.apart (sym q)

  is_v : (get_or (set left u up) v (pos 0) +ℤ (down -ℤ get_or left v (pos 0))) ≡ down
  is_v = let one = get_or-set_other left u v up (pos 0) apart in omega (arith, ints, one)

  places : length left ≡ length x
  places = length-set (set x v b) u c ∙ length-set x v b

  pub raised_amount : IsAmount up
  raised_amount =
      let l = length-exchanged x u v a in
      rw (exchanged-first x u v a can.from can.apart) at
      (All-get_or IsAmount (exchanged x u v a) u (pos 0) (omega (arith, can.from, l)) can.after)

  pub lowered_amount : IsAmount down
  lowered_amount =
      let l = length-exchanged x u v a in
      rw (exchanged-second x u v a can.onto) at
      (All-get_or IsAmount (exchanged x u v a) v (pos 0) (omega (arith, can.onto, l)) can.after)

  pub can_exchange : AreChanges to_exchanged left
  can_exchange =
      let p = places in
      let lu = length-set left u up in
      rw is_u (
        omega (arith, can.from, p),
        raised_amount,
        (omega (arith, can.onto, p, lu), rw is_v lowered_amount, tt),
      )

  pub is_exchanged : changed to_exchanged left ≡ exchanged x u v a
  is_exchanged =
      rw (
        is_u,
        is_v,
        set-set (set x v b) u c up,
        set_comm x v u b up apart,
        set-set (set x u up) v b down,
      ) refl

-- what the two places have, and how they change
pub record DoFit (x y : List ℤ) (u v : ℕ) (a : ℤ) : Type 0 where
  pub moves : FitsSigned w128 a
  pub x_u : FitsSigned w128 (get_or x u (pos 0))
  pub up : FitsSigned w128 (get_or x u (pos 0) +ℤ a)
  pub y_u : FitsSigned w128 (get_or y u (pos 0))
  pub more_u : FitsSigned w128 ((get_or x u (pos 0) +ℤ a) -ℤ get_or y u (pos 0))
  pub x_v : FitsSigned w128 (get_or x v (pos 0))
  pub down : FitsSigned w128 (get_or x v (pos 0) -ℤ a)
  pub y_v : FitsSigned w128 (get_or y v (pos 0))
  pub more_v : FitsSigned w128 ((get_or x v (pos 0) -ℤ a) -ℤ get_or y v (pos 0))

difference_fits : (a b : ℤ) → IsAmount a → IsAmount b → FitsSigned w128 (a -ℤ b)
difference_fits a b ha hb =
    let al = ha.low in
    let ah = ha.high in
    let bl = hb.low in
    let bh = hb.high in
    omega (arith, ints, al, ah, bl, bh)

pub do_fit : (x : List ℤ) (u v : ℕ) (a b c : ℤ) (can : CanMove x u v a)
    → All IsAmount (left x u v a b c can) → DoFit x (left x u v a b c can) u v a
do_fit x u v a b c can amounts =
    let p = places x u v a b c can in
    let xu = All-get_or IsAmount x u (pos 0) can.from can.before in
    let xv = All-get_or IsAmount x v (pos 0) can.onto can.before in
    let yu = All-get_or IsAmount (left x u v a b c can) u (pos 0) (omega (arith, can.from, p))
    amounts in
    let yv = All-get_or IsAmount (left x u v a b c can) v (pos 0) (omega (arith, can.onto, p))
    amounts in
    let up = raised_amount x u v a b c can in
    let down = lowered_amount x u v a b c can in
    let xl = xu.low in
    let xh = xu.high in
    let ul = up.low in
    let uh = up.high in
    record {
      moves = omega (arith, ints, xl, xh, ul, uh);
      x_u = amount_fits _ xu;
      up = amount_fits _ up;
      y_u = amount_fits _ yu;
      more_u = difference_fits _ _ up yu;
      x_v = amount_fits _ xv;
      down = amount_fits _ down;
      y_v = amount_fits _ yv;
      more_v = difference_fits _ _ down yv;
    }
