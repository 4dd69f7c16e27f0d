use Rattle.std.proofs.Common.{◌∙◌, ◌<ℤ◌, get_or, pos, arith}
use Rattle.std.proofs.lemmas.Int.{ints}
use Rattle.sfm_laminar.proofs.slacks.put_support.Goals as goal

pub returns : goal.returns
returns c =
    let put = c.put_over.ensures in
    record {
      places = put.places ∙ c.requires.sized;
      exact = λ v lt. (
        (λ h. let more : pos 0 <ℤ get_or c.args.x.now v (pos 0) = (put.over v lt).0
            h in omega (arith, ints, more)),
        (λ some. let more : pos 0 <ℤ get_or c.args.x.now v
            (pos 0) = omega (arith, ints, some) in (put.over v lt).1 more),
      );
    }
