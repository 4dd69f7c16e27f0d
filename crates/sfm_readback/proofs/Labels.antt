-- Labels hold no line feed.
use Rattle.std.proofs.Common.{ℕ, zero, suc, ◌+◌, List, [], ◌∷◌, ◌++◌, map, refl}
use Rattle.std.specs.Prelude.{codes, decimal}
use Rattle.std.specs.List.{All, range_with_len}
use Rattle.std.proofs.lemmas.List.Elements.{All-nil, All-cons, All-append}
use Rattle.sfm_cert.specs.Grammar.{IsLine}
use Rattle.sfm_cert.specs.Labels.{labels_in, labels_of, label_in}
use Rattle.sfm_cert.specs.Spots.{labels_from}
use Rattle.sfm_cert.proofs.Labels.{item_holds}
use Rattle.sfm_readback.proofs.CleanLines.{decimal_line, joined, word_line}

layers_line : (line a n : ℕ) → All IsLine
    (map (λ j. decimal line ++ codes "." ++ decimal j) (range_with_len a n))
layers_line line a zero = All-nil IsLine
layers_line line a (suc n) =
    All-cons IsLine (decimal line ++ codes "." ++ decimal a)
    (map (λ j. decimal line ++ codes "." ++ decimal j) (range_with_len (a + 1) n))
    (joined (decimal line ++ codes ".") (decimal a)
    (joined (decimal line) (codes ".") (decimal_line line) (word_line (codes ".") refl))
    (decimal_line a))
    (layers_line line (a + 1) n)

in_line : (line n : ℕ) → All IsLine (labels_in line n)
in_line line zero = All-cons IsLine (decimal line) [] (decimal_line line) (All-nil IsLine)
in_line line (suc n) = layers_line line 1 (suc n)

from_line : (k : ℕ) (lines : List ℕ) → All IsLine (labels_from k lines)
from_line k [] = All-nil IsLine
from_line k (n ∷ lines) = All-append IsLine (labels_in k n) (labels_from (k + 1) lines)
    (in_line k n) (from_line (k + 1) lines)

pub label_line : (lines : List ℕ) (i : ℕ) → IsLine (label_in lines i)
label_line lines i = item_holds IsLine ([] ∷ labels_of lines) i []
    (All-cons IsLine [] (labels_of lines) (word_line [] refl) (from_line 1 lines))
    (word_line [] refl)
