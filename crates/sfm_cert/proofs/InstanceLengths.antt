-- The texts of the answers for an instance are short: an instance has few names and terms, and its
-- terms have few places.
use Rattle.std.proofs.Common.{◌≡◌, ℕ, ◌≤◌, List, [], ◌∷◌, length, map, sum, ℤ, refl, ap, arith, subst}
use Rattle.std.proofs.lemmas.List.{length-map}
use Rattle.sfm_kind.specs.declared.kind.Kind.{Kind}
use Rattle.sfm_kind.specs.Instance.{InstanceData, terms_in}
use Rattle.sfm_kind.specs.Limits.{AreInBounds}
use Rattle.sfm_kind.specs.Kinds.{kind_places}
use Rattle.sfm_kind.specs.Names.{AreElementNames}
use Rattle.sfm_cert.specs.Answer.{Answer}
use Rattle.sfm_cert.specs.LineLists.{answer_text}
use Rattle.sfm_cert.specs.Few.{HasFewLines}
use Rattle.sfm_cert.specs.Form.{AreFormedRows, IsFormed}
use Rattle.sfm_cert.specs.Header.{header_text}
use Rattle.sfm_cert.specs.Solved.{form_with}
use Rattle.sfm_cert.specs.declared.header.Header.{Header}
use Rattle.sfm_cert.specs.declared.header.Header.TheVariants.{Answer as AnswerHeader, Weighed}
use Rattle.sfm_cert.proofs.Labels.{AreFewLines, few_lines}
use Rattle.sfm_cert.proofs.Lengths.{AreFewWidths, IsSmallAnswer, answer_short}

same_widths : (ts : List Kind)
    → map length (map kind_places ts) ≡ map (λ term. length (kind_places term)) ts
same_widths [] = refl
same_widths (t ∷ ts) = ap (λ z. length (kind_places t) ∷ z) (same_widths ts)

pub few_widths : (n : ℕ) (ts : List Kind) → AreInBounds n ts
    → AreFewWidths (map (λ term. length (kind_places term)) ts)
few_widths n ts bounded =
    let few = bounded.few_terms in
    record {
      terms = omega (
        arith,
        few,
        length-map ts kind_places,
        length-map ts (λ term. length (kind_places term)),
      );
      places = subst (λ (z : List ℕ). sum z ≤ 16384) (same_widths ts) bounded.few_places;
    }

-- an instance with few terms has few lines, and each has few layers
pub few_lines_of : (n : ℕ) (instance : InstanceData) → AreInBounds n instance.terms
    → terms_in instance.lines ≡ length instance.terms → AreFewLines instance.lines
few_lines_of n instance bounded lined =
    let few = bounded.few_terms in
    few_lines instance.lines (omega (arith, few, lined, length-map instance.terms kind_places))

-- rows of the form that the terms ask for are as many as the terms
pub rows_count : (ts : List Kind) (rows : List (List ℤ))
    → AreFormedRows (map (λ term. length (kind_places term)) ts) rows → length rows ≡ length ts
rows_count ts rows h = omega (
  arith,
  ap length h.widths_are,
  length-map rows length,
  length-map ts (λ term. length (kind_places term)),
)

-- the first line is short
header_short : (header : Header) → length (header_text header) ≤ 100
header_short AnswerHeader = omega arith
header_short Weighed = omega arith

pub instance_text_short : (header : Header) (instance : InstanceData) (a : Answer)
    → AreElementNames instance.names → AreInBounds (length instance.names) instance.terms
    → terms_in instance.lines ≡ length instance.terms
    → IsFormed (form_with (header_text header) instance) a
    → HasFewLines a → length (answer_text (form_with (header_text header) instance) a) ≤ 268435456
instance_text_short header instance a fine bounded lined formed few =
    let small : IsSmallAnswer (form_with (header_text header) instance) a = record {
      header = header_short header;
      names = λ i d l. (fine.forms i d l).short;
      few_names = fine.few;
      lines = few_lines_of (length instance.names) instance bounded lined;
      widths = few_widths (length instance.names) instance.terms bounded;
      few_blocks = few.blocks;
      few_breaks = few.breaks;
    } in
    answer_short (form_with (header_text header) instance) a formed small
