use Rattle.std.proofs.Common.{◌≡◌, Bool, List, ℤ, length, inl, inr, FitsSigned, refl, sym, ap, ◌∙◌, subst}
use Rattle.std.proofs.lemmas.Bool.{false≢true}
use Rattle.std.proofs.lemmas.Int.{to_z-of_z}
use mir.Syntax.{w128}
use mir.Val.{of_z, to_z}
use Rattle.sfm_spec.specs.Bounds.{total_of}
use Rattle.sfm_spec.specs.Sets.{sum_over, whole_set}
use Rattle.sfm_spec.proofs.Sizes.{weight-whole}
use Rattle.sfm_cert.proofs.AnswerLines.{entry_fits}
use Rattle.sfm_meet.specs.Common.{IsLeastSplit}
use Rattle.sfm_meet.specs.Told.{side_terms}
use Rattle.sfm_met.proofs.judging.compare.Goals.{After-has_sum}
use Rattle.sfm_met.proofs.judging.compare.Goals as goal

-- what the common vector adds up to
added : (c : After-has_sum) → total_of c.as_slice.result.now ≡ sum_over
    (whole_set (length c.args.left.now.names)) c.args.met.now.common
added c = ap total_of c.as_slice.ensures
    ∙ sym (weight-whole (length c.args.left.now.names) c.args.met.now.common
    c.requires.formed.count)

-- the value is kept whole
whole : (c : After-has_sum) → to_z w128 (of_z w128 c.args.met.now.value) ≡ c.args.met.now.value
whole c = let f : FitsSigned w128 c.args.met.now.value = entry_fits _
    c.requires.formed.value in simp to_z-of_z

pub returns-then-not-has_sum : goal.returns-then-not-has_sum
returns-then-not-has_sum c =
    let sum = added (goal.at.returns-then-not-has_sum c).After-has_sum in
    let value = whole (goal.at.returns-then-not-has_sum c).After-has_sum in (
      c.requires.proved,
      (
        sum_over (whole_set (length c.args.left.now.names)) c.args.met.now.common,
        c.args.least.now,
        c.requires.split,
        inl (refl, λ e. false≢true (c.if-not-has_sum.ensures.1 (sum ∙ sym e ∙ sym value))),
      ),
    )

pub returns-then-not-are_same : goal.returns-then-not-are_same
returns-then-not-are_same c =
    let sum = added (goal.at.returns-then-not-are_same c).After-has_sum in
    let value = whole (goal.at.returns-then-not-are_same c).After-has_sum in (
      c.requires.proved,
      (
        sum_over (whole_set (length c.args.left.now.names)) c.args.met.now.common,
        c.args.least.now,
        c.requires.split,
        inr (
          refl,
          sym value ∙ sym (c.if-not-has_sum.ensures.0 refl) ∙ sum,
          λ e. false≢true (c.if-not-are_same.ensures.1 e),
        ),
      ),
    )

pub returns : goal.returns
returns c =
    let n = length c.args.left.now.names in
    let sum = added (goal.at.returns c).After-has_sum in
    let value : c.args.met.now.value ≡ sum_over (whole_set n) c.args.met.now.common = sym
    (whole (goal.at.returns c).After-has_sum) ∙ sym (c.if-not-has_sum.ensures.0 refl) ∙ sum in
    let same : c.args.met.now.members ≡ c.args.least.now = c.if-not-are_same.ensures.0 refl in (
      c.requires.proved,
      subst (λ (v : ℤ). IsLeastSplit (side_terms c.args.left.now.terms)
          (side_terms c.args.right.now.terms) n v c.args.met.now.members) (sym value)
          (subst (λ (s : List Bool). IsLeastSplit (side_terms c.args.left.now.terms)
          (side_terms c.args.right.now.terms) n (sum_over (whole_set n) c.args.met.now.common)
          s) (sym same) c.requires.split),
    )
