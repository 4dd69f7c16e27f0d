use Rattle.std.proofs.Common.{refl, inl}
use Rattle.std.proofs.lemmas.Bool.{eqb-true, eq-eqb}
use Rattle.sfm_readback.proofs.Needs.{not_empty, is_empty_nil}
use Rattle.sfm_readback.proofs.Names.{stop_head, head_of_stop}
use Rattle.sfm_readback.proofs.short.is_stop.Goals as goal

pub returns-then-is_empty : goal.returns-then-is_empty
returns-then-is_empty c = (
  λ _. inl (is_empty_nil _ _ c.is_empty.ensures c.if-is_empty.true),
  λ _. refl,
)

pub returns : goal.returns
returns c =
    let some = not_empty _ _ c.is_empty.ensures c.if-is_empty.false in (
      λ t. stop_head c.args.rest.now some (eqb-true _ _ t),
      λ stop. eq-eqb _ _ (head_of_stop c.args.rest.now some stop),
    )
