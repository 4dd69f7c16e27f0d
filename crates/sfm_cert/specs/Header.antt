-- The first lines of answer texts.
use Rattle.std.specs.Prelude.{ℕ, List, codes}
use Rattle.sfm_cert.specs.declared.header.Header.{Header}
use Rattle.sfm_cert.specs.declared.header.Header.TheVariants.{Answer, Weighed}

-- `answer 1` where each element counts one, `weighed 1` where each counts its size
abbrev pub header_text : Header → List ℕ
header_text Answer = codes "answer 1"
header_text Weighed = codes "weighed 1"
