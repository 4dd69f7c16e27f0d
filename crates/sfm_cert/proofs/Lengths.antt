-- No right file is longer than the limit: each of its lines is short, since the ground has few
-- elements and the terms have few places in all, and there are few of them.
use Rattle.std.proofs.Common.{◌≡◌, ℕ, suc, ◌+◌, ◌*◌, ◌≤◌, Bool, true, false, List, [], ◌∷◌, ◌++◌, length, map, sum, ℤ, pos, negsuc, ap, arith, codes}
use Rattle.std.specs.Prelude.{decimal}
use Rattle.std.specs.Fmt.{signed_decimal}
use Rattle.std.specs.List.{All}
use Rattle.std.proofs.lemmas.Int.{ints}
use Rattle.std.proofs.lemmas.Fmt.{length-decimal-le_wide}
use Rattle.std.proofs.lemmas.List.{length-append, length-map}
use Rattle.std.proofs.lemmas.List.Elements.{All-from_get_or, All-tail}
use Rattle.std.proofs.lemmas.List.Sums.{sum-map, sum_by-cons}
use Rattle.std.proofs.lemmas.Map.Keys.{sorted_from_strictly_increasing}
use Rattle.std.proofs.lemmas.Map.Views.{length-le_from_below}
use Rattle.sfm_spec.specs.Bounds.{IsEntry, IsFactor}
use Rattle.sfm_spec.specs.Blocks.{Block, block_at, no_block}
use Rattle.sfm_cert.specs.Answer.{Answer, Break, Form, listed, slope_text, block_line, slope_line, at_line, row_lines, section_lines, head_lines, answer_lines, text_of}
use Rattle.sfm_cert.specs.Labels.{label_in}
use Rattle.sfm_cert.specs.LineLists.{row_line, counted, numbered, block_lines, slope_lines, base_lines, break_lines}
use Rattle.sfm_cert.specs.Form.{AreFormedRows, IsFormed, IsFormedBlock, IsFormedBreak}
use Rattle.sfm_cert.proofs.Labels.{AreFewLines, count_short, label_short}

-- ---- numbers

pub number_text : (a : ℤ) → IsEntry a → length (signed_decimal a) ≤ 32
number_text (pos n) e =
    let h = e.high in
    let d = length-decimal-le_wide 31 n (omega arith) (omega (arith, ints, h))
    (omega (arith, ints, h)) in
    omega (arith, d)
number_text (negsuc n) e =
    let h = e.low in
    let d = length-decimal-le_wide 31 (suc n) (omega arith) (omega (arith, ints, h))
    (omega (arith, ints, h)) in
    omega (arith, d)

pub factor_entry : (q : ℤ) → IsFactor q → IsEntry q
factor_entry q f = let low = f.low in let high = f.high in record {
  low = omega (arith, ints, low);
  high = omega (arith, ints, high);
}

-- ---- lists in a line

-- each name has at most 32 bytes
abbrev pub AreShort : List (List ℕ) → Type 0
AreShort names = All (λ name. length name ≤ 32) names

pub listed_short : (names : List (List ℕ)) (s : List Bool) → AreShort names
    → length (listed names s) ≤ 33 * length names
listed_short [] s h = omega arith
listed_short (name ∷ names) [] h = omega arith
listed_short (name ∷ names) (true ∷ s) h =
    let first = h 0 [] (omega arith) in
    let rest = listed_short names s (All-tail (λ y. length y ≤ 32) name names h) in
    omega (arith, first, rest, length-append (32 ∷ name) (listed names s))
listed_short (name ∷ names) (false ∷ s) h =
    let rest = listed_short names s (All-tail (λ y. length y ≤ 32) name names h) in
    omega (arith, rest)

pub numbered_short : (x : List ℤ) → All IsEntry x → length (numbered x) ≤ 33 * length x
numbered_short [] h = omega arith
numbered_short (a ∷ x) h =
    let first = number_text a (h 0 (pos 0) (omega arith)) in
    let rest = numbered_short x (All-tail IsEntry a x h) in
    omega (arith, first, rest, length-append (32 ∷ signed_decimal a) (numbered x))

counted_short : (x : List ℕ) → All (λ j. j ≤ 256) x → length (counted x) ≤ 6 * length x
counted_short [] h = omega arith
counted_short (j ∷ x) h =
    let small = h 0 0 (omega arith) in
    let first = count_short j (omega (arith, small)) in
    let rest = counted_short x (All-tail (λ j. j ≤ 256) j x h) in
    omega (arith, first, rest, length-append (32 ∷ decimal j) (counted x))

-- ---- lines

slope_text_short : (p q : ℤ) → IsEntry p → IsEntry q → length (slope_text p q) ≤ 65
slope_text_short p q ep eq =
    let a = number_text p ep in
    let b = number_text q eq in
    omega (
      arith,
      a,
      b,
      length-append (signed_decimal p) (codes "/"),
      length-append (signed_decimal p ++ codes "/") (signed_decimal q),
    )

-- at most 256 needs, of blocks up to that number
pub record HasFewNeeds (block : Block) : Type 0 where
  pub few : length block.needs ≤ 257
  pub small : All (λ j. j ≤ 256) block.needs

block_line_short : (names : List (List ℕ)) (i : ℕ) (block : Block) → AreShort names
    → length names ≤ 256 → i ≤ 256 → HasFewNeeds block → length (block_line names i block) ≤ 10240
block_line_short names i block short few l needs =
    let number = count_short i (omega (arith, l)) in
    let members = listed_short names block.members short in
    let all = counted_short block.needs needs.small in
    let count = needs.few in
    let a = length-append (codes "block ") (decimal i) in
    let b = length-append (codes "block " ++ decimal i) (listed names block.members) in
    let c = length-append (codes "block " ++ decimal i ++ listed names block.members)
    (codes " :") in
    let d = length-append (codes "block " ++ decimal i ++ listed names block.members ++ codes " :")
    (counted block.needs) in
    omega (arith, number, members, all, count, few, a, b, c, d)

slope_line_short : (names : List (List ℕ)) (b : Break) → AreShort names → length names ≤ 256
    → IsEntry b.num → IsEntry b.den → length (slope_line names b) ≤ 8519
slope_line_short names b short few ep eq =
    let text = slope_text_short b.num b.den ep eq in
    let members = listed_short names b.members short in
    let one = length-append (codes "slope ") (slope_text b.num b.den) in
    let two = length-append (codes "slope " ++ slope_text b.num b.den) (listed names b.members) in
    omega (arith, text, members, few, one, two)

pub at_line_short : (p q : ℤ) → IsEntry p → IsEntry q → length (at_line p q) ≤ 68
at_line_short p q ep eq =
    let text = slope_text_short p q ep eq in
    omega (arith, text, length-append (codes "at ") (slope_text p q))

-- a row by a short word and a short label
row_line_short : (word label : List ℕ) (x : List ℤ) → length word ≤ 8 → length label ≤ 11
    → All IsEntry x → length (row_line word label x) ≤ 33 * length x + 19
row_line_short word label x few short small =
    let all = numbered_short x small in
    omega (
      arith,
      few,
      short,
      all,
      length-append word label,
      length-append (word ++ label) (numbered x),
    )

-- ---- parts of the text

pub text_append : (xs ys : List (List ℕ))
    → length (text_of (xs ++ ys)) ≡ length (text_of xs) + length (text_of ys)
text_append [] ys = omega arith
text_append (x ∷ xs) ys =
    let rest = text_append xs ys in
    omega (
      arith,
      rest,
      length-append x (10 ∷ text_of xs),
      length-append x (10 ∷ text_of (xs ++ ys)),
    )

blocks_short : (names : List (List ℕ)) (i : ℕ) (blocks : List Block) → AreShort names
    → length names ≤ 256 → i + length blocks ≤ 257 → All HasFewNeeds blocks
    → length (text_of (block_lines names i blocks)) ≤ 10241 * length blocks
blocks_short names i [] short few l needs = omega arith
blocks_short names i (b ∷ blocks) short few l needs =
    let first = block_line_short names i b short few (omega (arith, l)) (needs 0 b (omega arith)) in
    let rest = blocks_short names (i + 1) blocks short few (omega (arith, l))
    (All-tail HasFewNeeds b blocks needs) in
    omega (
      arith,
      first,
      rest,
      length-append (block_line names i b)
          (10 ∷ text_of (block_lines names (i + 1) blocks)),
    )

-- a slope with small numbers, and rows of as many numbers as the terms have places
abbrev IsSmallBreak : Break → Type 0
IsSmallBreak b = IsEntry b.num × IsEntry b.den

slopes_short : (names : List (List ℕ)) (breaks : List Break) → AreShort names → length names ≤ 256
    → All IsSmallBreak breaks
    → length (text_of (slope_lines names breaks)) ≤ 8520 * length breaks
slopes_short names [] short few small = omega arith
slopes_short names (b ∷ breaks) short few small =
    let one = small 0 b (omega arith) in
    let first = slope_line_short names b short few one.0 one.1 in
    let rest = slopes_short names breaks short few (All-tail IsSmallBreak b breaks small) in
    omega (
      arith,
      first,
      rest,
      length-append (slope_line names b)
          (10 ∷ text_of (slope_lines names breaks)),
    )

pub rows_short : (word lines : List ℕ) (i : ℕ) (rows : List (List ℤ)) → length word ≤ 8
    → AreFewLines lines → All (λ x. All IsEntry x) rows
    → length (text_of (row_lines word lines i rows)) ≤ 33 * sum (map length rows) + 20 * length rows
rows_short word lines i [] few l small = omega arith
rows_short word lines i (x ∷ rows) few l small =
    let first = row_line_short word (label_in lines i) x few (label_short lines i l)
    (small 0 [] (omega arith)) in
    let rest = rows_short word lines (i + 1) rows few l
    (All-tail (λ y. All IsEntry y) x rows small) in
    let both = sum-map length (x ∷ rows) in
    let behind = sum-map length rows in
    let parts = sum_by-cons length x rows in
    omega (
      arith,
      first,
      rest,
      both,
      behind,
      parts,
      length-append (row_line word (label_in lines i) x)
          (10 ∷ text_of (row_lines word lines (i + 1) rows)),
    )

-- the terms are few, and so are their places in all
pub record AreFewWidths (widths : List ℕ) : Type 0 where
  pub terms : length widths ≤ 16384
  pub places : sum widths ≤ 16384

section_short : (lines widths : List ℕ) (p q : ℤ) (rows : List (List ℤ)) → AreFewLines lines
    → AreFewWidths widths → IsEntry p → IsEntry q → AreFormedRows widths rows
    → length (text_of (section_lines lines p q rows)) ≤ 868421
section_short lines widths p q rows short few ep eq formed =
    let at = at_line_short p q ep eq in
    let count = length-map rows length in
    let same = ap length formed.widths_are in
    let total = ap sum formed.widths_are in
    let terms = few.terms in
    let places = few.places in
    let all = rows_short (codes "base ") lines 1 rows (omega arith) short formed.small in
    omega (
      arith,
      at,
      count,
      same,
      total,
      terms,
      places,
      all,
      length-append (at_line p q) (10 ∷ text_of (base_lines lines 1 rows)),
    )

breaks_short : (n : ℕ) (lines widths : List ℕ) (breaks : List Break) → AreFewLines lines
    → AreFewWidths widths → All (IsFormedBreak n widths) breaks
    → length (text_of (break_lines lines breaks)) ≤ 868421 * length breaks
breaks_short n lines widths [] short few formed = omega arith
breaks_short n lines widths (b ∷ breaks) short few formed =
    let one = formed 0 b (omega arith) in
    let first = section_short lines widths b.num b.den b.bases short few one.entry
    (factor_entry b.den one.factor) one.bases in
    let rest = breaks_short n lines widths breaks short few
    (All-tail (IsFormedBreak n widths) b breaks formed) in
    omega (
      arith,
      first,
      rest,
      text_append (section_lines lines b.num b.den b.bases)
          (break_lines lines breaks),
    )

-- ---- the whole text

-- what is known of the sizes of an answer
pub record IsSmallAnswer (form : Form) (a : Answer) : Type 0 where
  pub header : length form.header ≤ 100
  pub names : AreShort form.names
  pub few_names : length form.names ≤ 256
  pub lines : AreFewLines form.lines
  pub widths : AreFewWidths form.widths
  pub few_blocks : length a.blocks ≤ 256
  pub few_breaks : length a.breaks ≤ 256

needs_few : (n i : ℕ) (block : Block) → i ≤ 256 → IsFormedBlock n i block → HasFewNeeds block
needs_few n i block l f = record {
  few = length-le_from_below 257 block.needs
      (sorted_from_strictly_increasing block.needs f.ascending)
      (λ k d lk. let x = (f.before k d lk).1 in omega (arith, x, l));
  small = λ k d lk. let x = (f.before k d lk).1 in omega (arith, x, l);
}

blocks_few : (form : Form) (a : Answer) → IsFormed form a → length a.blocks ≤ 256
    → All HasFewNeeds a.blocks
blocks_few form a f few = All-from_get_or HasFewNeeds a.blocks no_block
    (λ i l. needs_few (length form.names) i (block_at a.blocks i) (omega (arith, l, few))
    (f.blocks i l))

breaks_small : (form : Form) (a : Answer) → IsFormed form a → All IsSmallBreak a.breaks
breaks_small form a f i d l = let b = f.breaks i d l in (b.entry, factor_entry _ b.factor)

entry_zero : IsEntry (pos 0)
entry_zero = record { low = omega (arith, ints); high = omega (arith, ints) }

entry_one : IsEntry (pos 1)
entry_one = record { low = omega (arith, ints); high = omega (arith, ints) }

head_short : (form : Form) (a : Answer) → IsFormed form a → IsSmallAnswer form a
    → length (text_of (head_lines form a)) ≤ 5000000
head_short form a f s =
    let names = s.few_names in
    let header = s.header in
    let value = number_text a.value f.value in
    let least = listed_short form.names a.least s.names in
    let greatest = listed_short form.names a.greatest s.names in
    let blocks = blocks_short form.names 1 a.blocks s.names s.few_names
    (omega (arith, s.few_blocks)) (blocks_few form a f s.few_blocks) in
    let slopes = slopes_short form.names a.breaks s.names s.few_names (breaks_small form a f) in
    let few = s.few_blocks in
    let few' = s.few_breaks in
    let rest = text_append (block_lines form.names 1 a.blocks) (slope_lines form.names a.breaks) in
    let tail = block_lines form.names 1 a.blocks ++ slope_lines form.names a.breaks in
    let four = length-append (codes "greatest" ++ listed form.names a.greatest)
    (10 ∷ text_of tail) in
    let three = length-append (codes "least" ++ listed form.names a.least)
    (10 ∷ text_of ((codes "greatest" ++ listed form.names a.greatest) ∷ tail)) in
    let two = length-append (codes "minimum " ++ signed_decimal a.value)
    (10 ∷ text_of ((codes "least" ++ listed form.names a.least)
    ∷ (codes "greatest" ++ listed form.names a.greatest) ∷ tail)) in
    let one = length-append form.header
    (10 ∷ text_of ((codes "minimum " ++ signed_decimal a.value)
    ∷ (codes "least" ++ listed form.names a.least)
    ∷ (codes "greatest" ++ listed form.names a.greatest) ∷ tail)) in
    let g = length-append (codes "greatest") (listed form.names a.greatest) in
    let l = length-append (codes "least") (listed form.names a.least) in
    let m = length-append (codes "minimum ") (signed_decimal a.value) in
    omega (
      arith,
      names,
      header,
      value,
      least,
      greatest,
      blocks,
      slopes,
      few,
      few',
      rest,
      one,
      two,
      three,
      four,
      g,
      l,
      m,
    )

-- an answer over a few short names and a few places is no longer than the limit
pub answer_short : (form : Form) (a : Answer) → IsFormed form a → IsSmallAnswer form a
    → length (text_of (answer_lines form a)) ≤ 268435456
answer_short form a f s =
    let head = head_short form a f s in
    let first = section_short form.lines form.widths (pos 0) (pos 1) a.bases s.lines s.widths
    entry_zero entry_one f.bases in
    let breaks = breaks_short (length form.names) form.lines form.widths a.breaks s.lines s.widths
    f.breaks in
    let few = s.few_breaks in
    let one = text_append (head_lines form a) (section_lines form.lines (pos 0) (pos 1) a.bases) in
    let two = text_append (head_lines form a ++ section_lines form.lines (pos 0) (pos 1) a.bases)
    (break_lines form.lines a.breaks) in
    let three = text_append (head_lines form a ++ section_lines form.lines (pos 0) (pos 1)
    a.bases ++ break_lines form.lines a.breaks) (codes "end" ∷ []) in
    omega (arith, head, first, breaks, few, one, two, three)
