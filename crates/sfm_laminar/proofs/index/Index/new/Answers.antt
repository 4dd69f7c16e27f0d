use Rattle.std.proofs.Common.{◌≡◌, ◌∙◌, ℕ, List, [], length, arith}
use Rattle.sfm_laminar.specs.Indexes.{holders}
use Rattle.sfm_laminar.proofs.Made.{made_more}
use Rattle.sfm_laminar.proofs.index.Index.new.Goals as goal

pub loop-e-preserved : goal.loop-e-preserved
loop-e-preserved c =
    let groups = c.args.groups.now in
    rw c.in_ok-push.ensures.items
    (made_more (List ℕ) [] (λ p. holders groups p (length groups)) c.loop-e.e _ _
    c.loop-e.invariant c.in_ok-holders_of.ensures)

pub returns : goal.returns
returns c =
    let inv = c.loop-e.invariant in
    let k : c.loop-e.e ≡ c.args.k = omega (arith, c.loop-e-test.false, c.loop-e.auto.e-end) in
    record { places = inv.places ∙ k; numbers = λ e lt. inv.each e (omega (arith, lt, k)) }
