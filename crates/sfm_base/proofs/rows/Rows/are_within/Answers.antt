use Rattle.std.proofs.Common.{◌≤◌, ℤ, unsigned_abs, sym, subst}
use Rattle.std.specs.List.{All}
use Rattle.sfm_base.proofs.Rowing.{all_numbers, all_rows}
use Rattle.sfm_base.proofs.rows.Rows.are_within.Goals as goal

pub returns : goal.returns
returns c =
    let ends = c.self.inside.ends.items in
    let xs = c.self.inside.numbers.items in
    let P : ℤ → Type 0 = λ a. unsigned_abs a ≤ c.args.most in (
      λ yes. subst (λ r. All (λ x. All P x) r) c.self.view_is
          (all_rows P 0 ends xs (rw c.deref.ensures.value at c.are_all_within.ensures.0 yes)),
      λ all. c.are_all_within.ensures.1
          (rw c.deref.ensures.value (all_numbers P 0 ends xs c.self.invariant
          (subst (λ r. All (λ x. All P x) r) (sym c.self.view_is) all))),
    )
