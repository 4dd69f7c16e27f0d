use Rattle.std.proofs.Common.{◌≡◌, ◌<◌, ◌*◌, ◌^◌, length, get_or, pos, sym, ap, ◌∙◌, arith, FitsSigned}
use Rattle.std.proofs.lemmas.Int.{ints, to_z-of_z}
use Rattle.std.proofs.lemmas.List.Elements.{All-get_or}
use Rattle.sfm_reach.proofs.Options.{match_some}
use mir.Syntax.{w128}
use Rattle.sfm_spec.specs.Bounds.{IsAtMost}
use Rattle.sfm_spec.specs.Walks.{base_at}
use Rattle.sfm_walk.proofs.following.exchange_places.Goals as goal
use Rattle.sfm_walk.proofs.following.exchange_places.Goals.{After-unwrap-v}

-- where the places stand
record IsFound (c : After-unwrap-v) : Type 0 where
  u_in : c.unwrap-u.result < length c.args.places.now
  v_in : c.unwrap-v.result < length c.args.places.now
  begins : get_or c.args.places.now c.unwrap-u.result 0 ≡ c.args.from
  ends : get_or c.args.places.now c.unwrap-v.result 0 ≡ c.args.to

found : (c : After-unwrap-v) → IsFound c
found c =
    let hu = match_some c.local_of.result c.unwrap-u.result _ _ c.local_of.ensures
    c.unwrap-u.ensures in
    let hv = match_some c.local_of-2.result c.unwrap-v.result _ _ c.local_of-2.ensures
    c.unwrap-v.ensures in
    record { u_in = hu.0; v_in = hv.0; begins = hu.1; ends = hv.1 }

pub exchange-requires : goal.exchange-requires
exchange-requires c =
    let h = found (goal.at.exchange-requires c).After-unwrap-v in
    let r = c.requires in
    let fa : FitsSigned w128 c.args.a = c.ranges.a in
    let row = base_at c.args.bases.now c.args.i in
    let u = c.unwrap-u.result in
    let v = c.unwrap-v.result in
    let low = r.low in
    let high = r.high in
    simp to_z-of_z (record {
      inside = r.inside;
      from = rw r.sized h.u_in;
      onto = rw r.sized h.v_in;
      apart = λ e. r.apart (sym h.begins ∙ (ap (λ k. get_or c.args.places.now k 0) e ∙ h.ends));
      one = All-get_or (IsAtMost (2 * 10 ^ 30)) row u (pos 0) (rw r.sized h.u_in) r.small;
      other = All-get_or (IsAtMost (2 * 10 ^ 30)) row v (pos 0) (rw r.sized h.v_in) r.small;
      amount = record { low = omega (arith, ints, low); high = omega (arith, ints, high) };
    })

pub returns : goal.returns
returns c =
    let h = found (goal.at.returns c).After-unwrap-v in
    let fa : FitsSigned w128 c.args.a = c.ranges.a in (
      c.unwrap-u.result,
      c.unwrap-v.result,
      h.u_in,
      h.v_in,
      h.begins,
      h.ends,
      simp to_z-of_z at c.exchange.ensures,
    )
