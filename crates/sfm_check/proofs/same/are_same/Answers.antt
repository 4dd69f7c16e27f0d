use Rattle.std.proofs.Common.{subst, sym}
use Rattle.sfm_spec.proofs.Sets.{same_sets}
use Rattle.sfm_spec.specs.Sets.{Has}
use Rattle.sfm_check.proofs.same.are_same.Goals as goal

pub returns-then-is_within : goal.returns-then-is_within
returns-then-is_within c = (
  (λ t. same_sets c.args.a.now c.args.b.now c.requires
      (λ e l h. c.is_within.ensures.0 c.if-is_within.true e h)
      (λ e l h. c.is_within-then-is_within.ensures.0 t e h)),
  (λ same. c.is_within-then-is_within.ensures.1 (λ e h. subst (λ s. Has s e) (sym same) h)),
)
