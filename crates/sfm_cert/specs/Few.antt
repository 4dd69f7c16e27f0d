-- Answers with few lines: an answer that is true has at most as many blocks, and as many slopes, as
-- there are elements.
use Rattle.std.specs.Prelude.{◌≤◌, length}
use Rattle.sfm_cert.specs.Answer.{Answer}

-- at most 256 blocks and at most 256 slopes
pub record HasFewLines (a : Answer) : Type 0 where
  pub blocks : length a.blocks ≤ 256
  pub breaks : length a.breaks ≤ 256
