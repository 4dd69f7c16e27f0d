-- The sections of an answer of the right form: their slopes and entries are small, and each row is
-- as long as its term has elements.
use Rattle.std.proofs.Common.{◌≡◌, ◌≢◌, ℕ, zero, suc, ◌+◌, ◌-◌, ◌<◌, ◌≤◌, ◌^◌, List, [], ◌∷◌, ◌++◌, length, map, get_or, ℤ, pos, ◌≤ℤ◌, refl, sym, ap, ◌∙◌, arith, subst}
use Rattle.std.specs.List.{All}
use Rattle.std.proofs.lemmas.Int.{ints}
use Rattle.std.proofs.lemmas.List.{length-append, length-map, length-replicate, get_or-map}
use Rattle.std.proofs.lemmas.List.Elements.{All-from_get_or, All-map, All-tail}
use Rattle.sfm_spec.specs.Sets.{empty_set}
use Rattle.sfm_spec.specs.Bounds.{IsEntry, IsFactor}
use Rattle.sfm_spec.specs.Terms.{times, IsBase}
use Rattle.sfm_spec.specs.Families.{AreBases, meanings}
use Rattle.sfm_spec.specs.Blocks.{Block}
use Rattle.sfm_spec.specs.Walks.{term_at, base_at}
use Rattle.sfm_kind.specs.declared.kind.Kind.{Kind}
use Rattle.sfm_kind.specs.Instance.{InstanceData}
use Rattle.sfm_kind.specs.Limits.{AreInBounds}
use Rattle.sfm_kind.specs.Kinds.{kind_places, kind_size, kind_value, kind-bounded, kind-submodular}
use Rattle.sfm_law.proofs.Lists.{below-total}
use Rattle.sfm_cert.specs.Answer.{Answer, Break, Form, answer_lines, head_lines, section_lines}
use Rattle.sfm_cert.specs.LineLists.{block_lines, break_lines, slope_lines}
use Rattle.sfm_cert.specs.Form.{AreFormedRows, IsFormed}
use Rattle.sfm_cert.specs.Solved.{break_of, form_of}
use Rattle.sfm_law.specs.declared.breaks.Break.{Break as Found}
use Rattle.sfm_check.specs.Truth.{Section, section_at, section_of, sections_of}
use Rattle.sfm_check.specs.Findings.{AllRowsAreBases, IsSection, no_section, AllAreBases}

pub record IsFormedSection (widths : List ℕ) (section : Section) : Type 0 where
  pub entry : IsEntry section.num
  pub factor : IsFactor section.den
  pub rows : AreFormedRows widths section.bases

-- a section behind the first is that of a slope
pub section_break : (a : Answer) (s : ℕ) (b : Break) → s ≢ 0 → s < length (sections_of a)
    → b ≡ get_or a.breaks (s - 1) b → section_at a s ≡ section_of b
section_break a zero b ne l e = absurd (ne refl)
section_break a (suc k) b ne l e =
    let lk : k < length a.breaks = omega (arith, l, length-map a.breaks section_of) in
    let back : suc k - 1 ≡ k = omega arith in
    get_or-map section_of a.breaks k b no_section lk
    ∙ (ap (λ j. section_of (get_or a.breaks j b)) (sym back) ∙ ap section_of (sym e))

pub formed_section : (form : Form) (a : Answer) (s : ℕ) → IsFormed form a
    → s < length (sections_of a) → IsFormedSection form.widths (section_at a s)
formed_section form a zero f l = record {
  entry = record { low = omega (arith, ints); high = omega (arith, ints) };
  factor = record { low = omega (arith, ints); high = omega (arith, ints) };
  rows = f.bases;
}
formed_section form a (suc k) f l =
    let lk : k < length a.breaks = omega (arith, l, length-map a.breaks section_of) in
    let d : Break = record { num = pos 0; den = pos 1; members = []; bases = [] } in
    let b = f.breaks k d lk in
    subst (IsFormedSection form.widths) (sym (get_or-map section_of a.breaks k d no_section lk))
    (record { entry = b.entry; factor = b.factor; rows = b.bases })

-- a section with these parts
pub same_section : (x : Section) (num den : ℤ) (rows : List (List ℤ)) → IsSection x num den rows
    → x ≡ record { num = num; den = den; bases = rows }
same_section x num den rows e =
    let f : ℤ → Section = λ z. record { num = z; den = x.den; bases = x.bases } in
    let g : ℤ → Section = λ z. record { num = num; den = z; bases = x.bases } in
    let h : List (List ℤ) → Section = λ z. record { num = num; den = den; bases = z } in
    ap f e.num_is ∙ (ap g e.den_is ∙ ap h e.rows_are)

-- the same of its parts
pub formed_parts : {form : Form} {a : Answer} {s : ℕ} {num den : ℤ} {rows : List (List ℤ)}
    → IsFormed form a → s < length (sections_of a) → IsSection (section_at a s) num den rows
    → IsFormedSection form.widths (record { num = num; den = den; bases = rows })
formed_parts {form = form} {a = a} {s = s} {num = num} {den = den} {rows = rows} f l e =
    subst (IsFormedSection form.widths) (same_section (section_at a s) num den rows e)
    (formed_section form a s f l)

-- there is a section for each slope, and one more
pub section_in : (items : List Found) (a : Answer) (s count : ℕ) → a.breaks ≡ map break_of items
    → count ≡ length items → s < count + 1 → s < length (sections_of a)
section_in items a s count kept is l =
    let c = ap length kept in omega (
      arith,
      l,
      is,
      c,
      length-map items break_of,
      length-map a.breaks section_of,
    )

-- ---- rows

pub row_count : (widths : List ℕ) (rows : List (List ℤ)) → AreFormedRows widths rows
    → length rows ≡ length widths
row_count widths rows f = sym (length-map rows length) ∙ ap length f.widths_are

-- a row is as long as its term has elements
pub row_width : (ts : List Kind) (rows : List (List ℤ)) (i : ℕ) (t : Kind)
    → AreFormedRows (map (λ term. length (kind_places term)) ts) rows → i < length ts
    → t ≡ get_or ts i t → length (get_or rows i []) ≡ length (kind_places t)
row_width ts rows i t f l e =
    let w : Kind → ℕ = λ term. length (kind_places term) in
    let lr : i < length rows = omega (arith, l, row_count (map w ts) rows f, length-map ts w) in
    sym (get_or-map length rows i [] 0 lr)
    ∙ (ap (λ z. get_or z i 0) f.widths_are ∙ (get_or-map w ts i t 0 l ∙ ap w (sym e)))

-- the size of a term is small
pub small_sizes : (n : ℕ) (ts : List Kind) → AreInBounds n ts → (k : ℕ) (d : Kind) → k < length ts
    → kind_size (get_or ts k d) ≤ℤ pos (10 ^ 18)
small_sizes n ts bounded k d l =
    let all = below-total (map kind_size ts) (pos (10 ^ 18))
    (All-map (λ a. pos 0 ≤ℤ a) kind_size ts (λ j e lj.
    let x = get_or ts j e in
    (kind-bounded x (empty_set (length (kind_places x))) (pos 0)
    (length-replicate (length (kind_places x)) _) (kind-submodular x).at_empty).1))
    bounded.small in
    let lm : k < length (map kind_size ts) = omega (arith, l, length-map ts kind_size) in
    subst (λ z. z ≤ℤ pos (10 ^ 18)) (get_or-map kind_size ts k d (kind_size d) l)
    (all k (kind_size d) lm)

-- ---- lines

pub length-block_lines : (names : List (List ℕ)) (i : ℕ) (blocks : List Block)
    → length (block_lines names i blocks) ≡ length blocks
length-block_lines names i [] = refl
length-block_lines names i (b ∷ blocks) = ap suc (length-block_lines names (i + 1) blocks)

pub length-slope_lines : (names : List (List ℕ)) (breaks : List Break)
    → length (slope_lines names breaks) ≡ length breaks
length-slope_lines names [] = refl
length-slope_lines names (b ∷ breaks) = ap suc (length-slope_lines names breaks)

-- an answer has a line for each block and for each slope
pub few_lines : (form : Form) (a : Answer)
    → length a.blocks + length a.breaks + 6 ≤ length (answer_lines form a)
few_lines form a =
    let b = length-block_lines form.names 1 a.blocks in
    let s = length-slope_lines form.names a.breaks in
    let h : length (head_lines form a) ≡ 4 + (length a.blocks + length a.breaks) = omega (
      arith,
      length-append (block_lines form.names 1 a.blocks) (slope_lines form.names a.breaks),
      b,
      s,
    ) in
    let sec = length-append (head_lines form a)
    (section_lines form.lines (pos 0) (pos 1) a.bases) in
    let brk = length-append (head_lines form a ++ section_lines form.lines (pos 0) (pos 1) a.bases)
    (break_lines form.lines a.breaks) in
    let end = length-append (head_lines form a ++ section_lines form.lines (pos 0) (pos 1)
    a.bases ++ break_lines form.lines a.breaks) ((101 ∷ 110 ∷ 100 ∷ []) ∷ []) in
    omega (arith, h, sec, brk, end)

abbrev tail : List ℕ → List ℕ
tail [] = []
tail (n ∷ ns) = ns

-- rows that are bases, one for each term of an instance
pub section_bases : (q : ℤ) (ts : List Kind) (rows : List (List ℤ))
    → AreFormedRows (map (λ term. length (kind_places term)) ts) rows
    → ((i : ℕ) → i < length (meanings kind_places kind_value ts)
    → IsBase (times q (term_at (meanings kind_places kind_value ts) i).value) (base_at rows i))
    → AreBases q (meanings kind_places kind_value ts) rows
section_bases q [] [] f bases = tt
section_bases q [] (x ∷ rows) f bases = absurd (omega (arith, row_count [] (x ∷ rows) f))
section_bases q (t ∷ ts) [] f bases =
    absurd (omega (
      arith,
      row_count
          (length (kind_places t) ∷ map (λ term. length (kind_places term)) ts) [] f,
    ))
section_bases q (t ∷ ts) (x ∷ rows) f bases = (
  row_width (t ∷ ts) (x ∷ rows) 0 t f (omega arith) refl,
  bases 0 (omega arith),
  section_bases q ts rows (rest_rows t ts x rows f)
      (λ i l. bases (suc i) (omega arith)),
) where
  rest_rows : (t : Kind) (ts : List Kind) (x : List ℤ) (rows : List (List ℤ))
      → AreFormedRows (map (λ term. length (kind_places term)) (t ∷ ts)) (x ∷ rows)
      → AreFormedRows (map (λ term. length (kind_places term)) ts) rows
  rest_rows t ts x rows g = record {
    widths_are = ap tail g.widths_are;
    small = All-tail (λ y. All IsEntry y) x rows g.small;
  }

-- where each row is a base, so are those of each section
pub all_bases : (instance : InstanceData) (a : Answer) → IsFormed (form_of instance) a
    → AllRowsAreBases (meanings kind_places kind_value instance.terms) a
    → AllAreBases (meanings kind_places kind_value instance.terms) a
all_bases instance a formed rows =
    All-from_get_or (λ (section : Section).
    AreBases section.den (meanings kind_places kind_value instance.terms) section.bases)
    (sections_of a) no_section
    (λ s l. section_bases (section_at a s).den instance.terms (section_at a s).bases
    (formed_section (form_of instance) a s formed l).rows (λ i k. rows s i l k))

-- and so are those of the parts of a section
pub part_bases : (instance : InstanceData) {a : Answer} {s : ℕ} {num den : ℤ} {rows : List (List ℤ)}
    → IsFormed (form_of instance) a
    → AllRowsAreBases (meanings kind_places kind_value instance.terms) a
    → s < length (sections_of a) → IsSection (section_at a s) num den rows
    → AreBases den (meanings kind_places kind_value instance.terms) rows
part_bases instance {a = a} {s = s} {num = num} {den = den} {rows = rows} f bases l e =
    subst (λ (z : Section). AreBases z.den (meanings kind_places kind_value instance.terms) z.bases)
    (same_section (section_at a s) num den rows e) (all_bases instance a f bases s no_section l)
