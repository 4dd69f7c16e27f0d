use Rattle.std.proofs.Common.{◌≡◌, ◌∙◌, ℕ, ◌+◌, Bool, true, false, cond, length, get_or, take, add-one, refl, sym, ap, subst, arith}
use mir.Val.{bool_byte}
use Rattle.sfm_spec.specs.Sets.{size}
use Rattle.sfm_laminar.proofs.Made.{AreMade, made_more}
use Rattle.sfm_laminar.proofs.Cut.{size-take}
use Rattle.sfm_laminar.proofs.restrict.numbers_of.Goals as goal

byte : (b : Bool) → bool_byte b ≡ cond b 1 0
byte true = refl
byte false = refl

pub loop-e-preserved : goal.loop-e-preserved
loop-e-preserved c =
    let keep = c.args.keep.now in
    let e = c.loop-e.e in
    let inv = c.loop-e.invariant in
    let item : ℕ → ℕ = λ d. size (take d keep) in
    let one : c.from-count.result ≡ cond (get_or keep e false) 1 0 = c.from-count.ensures
    ∙ (ap bool_byte c.contains.ensures ∙ byte (get_or keep e false)) in
    let next = size-take keep e in
    let count : c.loop-e.count + c.from-count.result ≡ size (take (e + 1) keep) = rw add-one
    (omega (arith, one, next, inv.counted)) in
    record {
      made = subst (λ ns. AreMade ℕ 0 item (e + 1) ns) (sym c.in_ok-push.ensures.items)
          (made_more ℕ 0 item e c.loop-e.numbers.items c.loop-e.count inv.made inv.counted);
      counted = count;
    }

pub returns : goal.returns
returns c =
    let inv = c.loop-e.invariant in
    let n : c.loop-e.e ≡ length c.args.keep.now = omega (
      arith,
      c.loop-e-test.false,
      c.len-e-end.ensures,
      c.loop-e.auto.e-end,
    ) in
    record { places = inv.made.places ∙ n; each = λ e lt. inv.made.each e (omega (arith, lt, n)) }
