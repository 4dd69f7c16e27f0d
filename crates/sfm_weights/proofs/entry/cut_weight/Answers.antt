use Rattle.std.proofs.Common.{refl}
use Rattle.sfm_lines.proofs.Cutting.{none-at}
use Rattle.sfm_weights.proofs.Entries.{no-cut}
use Rattle.sfm_weights.proofs.entry.cut_weight.Goals as goal

pub returns-then-place_of_byte-token : goal.returns-then-place_of_byte-token
returns-then-place_of_byte-token c = (
  refl,
  none-at 42 c.args.token.now c.place_of_byte.result c.place_of_byte.ensures.place
      c.if-place_of_byte-token.true,
)

pub returns-in_default : goal.returns-in_default
returns-in_default c = no-cut c.args.token.now c.place_of_byte.result c.place_of_byte.ensures.place
    c.if-place_of_byte-token.false c.in_default.ensures
