-- The words by which refusals name their reasons.
use Rattle.std.specs.Prelude.{ℕ, List, codes}
use Rattle.sfm_lines.specs.declared.reason.Reason.{Reason}
use Rattle.sfm_lines.specs.declared.reason.Reason.TheVariants.{Long, Bytes, Word, Shape, Number, Name, Twice, Law, Total, Short}

-- the word of a reason
abbrev pub reason_word : Reason → List ℕ
reason_word Long = codes "long"
reason_word Bytes = codes "bytes"
reason_word Word = codes "word"
reason_word Shape = codes "shape"
reason_word Number = codes "number"
reason_word Name = codes "name"
reason_word Twice = codes "twice"
reason_word Law = codes "law"
reason_word Total = codes "total"
reason_word Short = codes "short"
