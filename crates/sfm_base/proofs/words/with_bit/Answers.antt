use Rattle.std.proofs.Common.{◌==◌, sym, ap, ◌∙◌, arith}
use Rattle.std.proofs.lemmas.Bool.{eq-eqb}
use Rattle.std.proofs.lemmas.Nat.Bits.{bit_at_set_same, bit_at_set_other, bit_at_clear_same, bit_at_clear_other}
use mir.Syntax.{w64}
use Rattle.sfm_base.proofs.words.with_bit.Goals as goal

pub returns-then-member : goal.returns-then-member
returns-then-member c = record {
  there = eq-eqb _ 1 (bit_at_set_same w64 c.args.word c.args.t (omega arith))
      ∙ sym c.if-member.true;
  others = λ k l ne. bit_at_set_other w64 c.args.word c.args.t (omega arith) k ne;
}

pub returns-else-member : goal.returns-else-member
returns-else-member c = record {
  there = ap (λ z. z == 1) (bit_at_clear_same w64 c.args.word c.args.t (omega arith))
      ∙ sym c.if-member.false;
  others = bit_at_clear_other w64 c.args.word c.args.t (omega arith);
}
