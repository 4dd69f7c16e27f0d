-- What is told has the form that an instance asks for, and its text is short.
use Rattle.std.proofs.Common.{◌≡◌, ℕ, ◌*◌, ◌^◌, ◌≤◌, List, [], ◌∷◌, ◌++◌, length, map, sum, ℤ, pos, ◌≤ℤ◌, refl, sym, ap, ◌∙◌, arith, codes}
use Rattle.std.specs.List.{All}
use Rattle.std.specs.Fmt.{signed_decimal}
use Rattle.std.proofs.lemmas.Int.{ints}
use Rattle.std.proofs.lemmas.List.{length-append, length-map}
use Rattle.sfm_spec.specs.Bounds.{IsAtMost}
use Rattle.sfm_spec.specs.Families.{Meaning, AreBases, meanings}
use Rattle.sfm_kind.specs.declared.kind.Kind.{Kind}
use Rattle.sfm_kind.specs.Kinds.{kind_places, kind_value}
use Rattle.sfm_cert.specs.Answer.{Form, text_of}
use Rattle.sfm_cert.specs.LineLists.{base_lines, numbered}
use Rattle.sfm_cert.proofs.Labels.{AreFewLines}
use Rattle.sfm_cert.proofs.Lengths.{AreFewWidths, number_text, numbered_short, rows_short, text_append}
use Rattle.sfm_squares.specs.Level.{IsLevel, IsSumOf, squares}
use Rattle.sfm_level.specs.Told.{LevelAnswer, IsFormedLevel, IsTrueLevel, level_lines}
use Rattle.sfm_level.specs.Sums.{sums_of}
use Rattle.sfm_level.proofs.Bounds.{roots-small, squares-low}
use Rattle.sfm_level.proofs.Values.{sums_are}

-- bases are as long as their terms have elements
pub base_widths : (ts : List Kind) (rows : List (List ℤ))
    → AreBases (pos 1) (meanings kind_places kind_value ts) rows
    → map length rows ≡ map (λ term. length (kind_places term)) ts
base_widths [] [] h = refl
base_widths [] (x ∷ rows) h = absurd h
base_widths (t ∷ ts) [] h = absurd h
base_widths (t ∷ ts) (x ∷ rows) h = let r = base_widths ts rows h.2 in let l = h.0 in cc

-- what is told of bases whose sum is a most level one
pub told_true : (terms : List Meaning) (n : ℕ) (bases : List (List ℤ)) (vector : List ℤ) (total : ℤ)
    → AreBases (pos 1) terms bases → ((z : List ℤ) → IsSumOf terms n bases z → IsLevel terms n z)
    → vector ≡ sums_of terms n bases → total ≡ squares vector
    → IsTrueLevel terms n (record { squares = total; vector = vector; bases = bases })
told_true terms n bases vector total are_bases level is sum =
    let sums : IsSumOf terms n bases vector = rw is (sums_are terms n bases) in
    record { bases = are_bases; sum = sums; level = level vector sums; squares = sum }

-- and its numbers are small, where the squares are
pub told_formed : (form : Form) (ts : List Kind) (bases : List (List ℤ)) (vector : List ℤ)
    (total : ℤ) → form.widths ≡ map (λ term. length (kind_places term)) ts
    → AreBases (pos 1) (meanings kind_places kind_value ts) bases
    → All (λ x. All (IsAtMost (10 ^ 29)) x) bases → length vector ≡ length form.names
    → total ≡ squares vector → squares vector ≤ℤ pos (11 * 10 ^ 28)
    → IsFormedLevel form (record { squares = total; vector = vector; bases = bases })
told_formed form ts bases vector total widths are_bases small count sum near =
    let low = squares-low vector in
    let each = roots-small vector (omega (arith, ints, near)) in
    record {
      squares = record {
        low = omega (arith, ints, sum, low);
        high = omega (arith, ints, sum, near);
      };
      count = count;
      vector = λ e d l.
          let a = each e d l in
          record { low = omega (arith, ints, a.low); high = omega (arith, ints, a.high) };
      bases = record {
        widths_are = base_widths ts bases are_bases ∙ sym widths;
        small = λ i d l e k lt.
            let a = small i d l e k lt in
            record { low = omega (arith, ints, a.low); high = omega (arith, ints, a.high) };
      };
    }

-- the text has few lines, each of a few numbers
pub level_short : (form : Form) (a : LevelAnswer) → IsFormedLevel form a
    → length form.names ≤ 256 → AreFewLines form.lines → AreFewWidths form.widths
    → length (text_of (level_lines form a)) ≤ 1000000
level_short form a f few lines widths =
    let number = number_text a.squares f.squares in
    let vector = numbered_short a.vector f.vector in
    let count = f.count in
    let rows_count = length-map a.bases length in
    let rows_same = ap length f.bases.widths_are in
    let total = ap sum f.bases.widths_are in
    let terms = widths.terms in
    let places = widths.places in
    let rows = rows_short (codes "base ") form.lines 1 a.bases (omega arith) lines f.bases.small in
    let end = text_append (base_lines form.lines 1 a.bases) (codes "end" ∷ []) in
    let tail = text_of (base_lines form.lines 1 a.bases ++ codes "end" ∷ []) in
    let third = codes "vector" ++ numbered a.vector in
    let second = codes "squares " ++ signed_decimal a.squares in
    let v = length-append (codes "vector") (numbered a.vector) in
    let s = length-append (codes "squares ") (signed_decimal a.squares) in
    let three = length-append third (10 ∷ tail) in
    let two = length-append second (10 ∷ (third ++ (10 ∷ tail))) in
    omega (
      arith,
      number,
      vector,
      count,
      few,
      rows_count,
      rows_same,
      total,
      terms,
      places,
      rows,
      end,
      v,
      s,
      three,
      two,
    )
