-- The bases are the negated ones.
use Rattle.std.proofs.Common.{◌↔◌, ◌∙◌, IsTrue}
use Rattle.std.proofs.lemmas.Result.{IfOk-weaker}
use Rattle.sfm_spec.specs.Terms.{times, IsBase}
use Rattle.sfm_kind.specs.Kinds.{kind_value}
use Rattle.sfm_flip.specs.Flipped.{negated}
use Rattle.sfm_flip.specs.Flips.{flip_value}
use Rattle.sfm_kind.proofs.Passed.{factor_kept}
use Rattle.sfm_flip.proofs.Turning.{negated-small}
use Rattle.sfm_flip.proofs.Bases.{base_from, base_to}
use Rattle.sfm_flip.proofs.flip.FlipTerm.is_base.Goals as goal

pub is_base-requires-clause-small : goal.is_base-requires-clause-small
is_base-requires-clause-small c =
    rw (c.as_slice.ensures ∙ c.in_ok-base.ensures) (negated-small _ c.args.x.now c.requires.small)

pub returns-clause-told : goal.returns-clause-told
returns-clause-told c =
    let s = c.args.self.now in
    let r = c.requires in
    let x = c.args.x.now in
    let q = c.args.q in
    let told = rw (
      factor_kept _ r.factor,
      c.as_slice.ensures ∙ c.in_ok-base.ensures,
      c.self.view_is,
    ) at c.is_base.ensures.told in
    IfOk-weaker c.is_base.result (λ b. IsTrue b ↔ IsBase (times q (kind_value s)) (negated x))
    (λ b. IsTrue b ↔ IsBase (times q (flip_value s)) x)
    (λ b is. (
      (λ t. base_to s q r.factor x r.entries (is.0 t)),
      (λ base. is.1 (base_from s q r.factor x r.entries base)),
    )) told
