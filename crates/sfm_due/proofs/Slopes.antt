-- The slopes that are found are those of an answer of the right form, each with bases that prove.
use Rattle.std.proofs.Common.{◌≡◌, ⊎_elim, ℕ, suc, ◌<◌, Bool, true, false, List, [], ◌∷◌, length, map, get_or, ℤ, refl, sym, ap, ◌∙◌, arith, subst}
use Rattle.std.specs.List.{All}
use Rattle.std.proofs.lemmas.Int.{ints}
use Rattle.std.proofs.lemmas.List.{get_or-map, length-map}
use Rattle.std.proofs.lemmas.List.Elements.{All-from_get_or, All-nil}
use Rattle.sfm_spec.specs.Sets.{Has, size}
use Rattle.sfm_spec.specs.Slopes.{IsLowest}
use Rattle.sfm_spec.specs.Families.{IsBreakpoint}
use Rattle.sfm_spec.specs.Laws.{AreBreakpoints, Mark, no_mark}
use Rattle.sfm_spec.specs.Search.{mark_at}
use Rattle.sfm_spec.proofs.Sizes.{size_grows}
use Rattle.sfm_law.specs.declared.breaks.Break.{Break as Found}
use Rattle.sfm_kind.specs.Instance.{InstanceData}
use Rattle.sfm_kind.specs.Limits.{AreInBounds}
use Rattle.sfm_sizes.specs.Sizes.{AreElementSizes}
use Rattle.sfm_slope.specs.Marks.{HasBasesBy, mark_of as kept_mark}
use Rattle.sfm_cert.specs.Answer.{mark_of}
use Rattle.sfm_cert.specs.Form.{IsFormedBreak}
use Rattle.sfm_cert.specs.Solved.{break_of, form_of}
use Rattle.sfm_check.specs.Truth.{IsProvedSection, section_of}
use Rattle.sfm_check.specs.Findings.{no_section}
use Rattle.sfm_check.proofs.AllSlopes.{due_plain}
use Rattle.sfm_check.proofs.OneToOne.{IsPlainMark}
use Rattle.sfm_kind.specs.Kinds.{kind_start}
use Rattle.sfm_due.specs.Meanings.{meanings_of}
use Rattle.sfm_due.specs.Due.{IsReached}
use Rattle.sfm_due.proofs.Moved.{reached}
use Rattle.sfm_due.proofs.Rows.{formed_rows}

-- the marks as they are found and as an answer has them
pub same_marks : (items : List Found) → map kept_mark items ≡ map mark_of (map break_of items)
same_marks [] = refl
same_marks (b ∷ items) = ap (λ z. kept_mark b ∷ z) (same_marks items)

some_member : (s : List Bool) → 0 < size s → (e : ℕ) × Has s e
some_member [] l = absurd (omega (arith, l))
some_member (true ∷ s) l = (0, refl)
some_member (false ∷ s) l = let (e, h) = some_member s (omega (arith, l)) in (suc e, h)

module _ (instance : InstanceData) (bounded : AreInBounds (length instance.names) instance.terms)
    (sizes : List ℤ) (sized : AreElementSizes (length instance.names) sizes) where
  -- a breakpoint has a member, as a smaller set is a minimiser too
  some_in : (m : Mark) → IsBreakpoint (meanings_of instance.terms) (length instance.names) sizes
      m.num m.den m.members → (e : ℕ) × Has m.members e
  some_in m b =
      let (t, least, other) = b.another in
      let inside = b.greatest.within t least in
      let less : size t < size m.members = ⊎_elim (λ e. absurd (other e)) (λ l. l)
      (size_grows t m.members (least.places ∙ sym b.greatest.minimiser.places) inside) in
      some_member m.members (omega (arith, less))

  formed_break : (b : Found) → IsLowest b.slope.num b.slope.den
      → IsBreakpoint (meanings_of instance.terms) (length instance.names) sizes b.slope.num
      b.slope.den b.set
      → IsPlainMark instance.names (kept_mark b)
      → HasBasesBy (meanings_of instance.terms)
      (λ q. map (λ kind. kind_start kind q) instance.terms) (length instance.names) sizes b
      → IsFormedBreak (length instance.names) (form_of instance).widths (break_of b)
  formed_break b low point plain has =
      let f = has.few in
      let g = sized.small in
      record {
        lowest = low;
        entry = plain.num;
        factor = record { low = low.positive; high = omega (arith, ints, f, g) };
        members = record { places = plain.places; some = some_in (kept_mark b) point };
        bases = record {
          widths_are = formed_rows b.slope.den instance.terms b.bases has.bases;
          small = has.small;
        };
      }

  -- d stands for a breakpoint behind the last
  module _ (d : Found) (items : List Found)
      (slopes : AreBreakpoints (meanings_of instance.terms) (length instance.names) sizes
      (map kept_mark items)) (has : All
      (HasBasesBy (meanings_of instance.terms) (λ q. map (λ kind. kind_start kind q) instance.terms)
      (length instance.names) sizes) items) where
    mark_is : (i : ℕ) → i < length items
        → mark_at (map kept_mark items) i ≡ kept_mark (get_or items i d)
    mark_is i l = get_or-map kept_mark items i d no_mark l

    formed_behind : All (IsFormedBreak (length instance.names) (form_of instance).widths)
        (map break_of items)
    formed_behind = All-from_get_or
        (IsFormedBreak (length instance.names) (form_of instance).widths) (map break_of items)
        (break_of d) (λ i l.
        let li : i < length items = omega (arith, l, length-map items break_of) in
        let lm : i < length (map kept_mark items) = omega (arith, li, length-map items kept_mark) in
        let b = get_or items i d in
        let low : IsLowest b.slope.num b.slope.den = subst (λ (m : Mark). IsLowest m.num m.den)
        (mark_is i li) (slopes.lowest i lm) in
        let point : IsBreakpoint (meanings_of instance.terms) (length instance.names) sizes
        b.slope.num b.slope.den b.set
        = subst (λ (m : Mark). IsBreakpoint (meanings_of instance.terms) (length instance.names)
        sizes m.num m.den m.members) (mark_is i li) (slopes.sound i lm) in
        let plain : IsPlainMark instance.names (kept_mark b) = subst (IsPlainMark instance.names)
        (mark_is i li) (due_plain (length instance.names) instance.terms bounded sizes sized
        instance.names (map kept_mark items) refl slopes i no_mark lm) in
        subst (IsFormedBreak (length instance.names) (form_of instance).widths)
        (sym (get_or-map break_of items i d (break_of d) li))
        (formed_break b low point plain (has i d li)))

    proved_behind : All (IsProvedSection (meanings_of instance.terms) (length instance.names) sizes)
        (map section_of (map break_of items))
    proved_behind = All-from_get_or
        (IsProvedSection (meanings_of instance.terms) (length instance.names) sizes)
        (map section_of (map break_of items)) no_section (λ i l.
        let lb : i < length (map break_of items) = omega (
          arith,
          l,
          length-map (map break_of items) section_of,
        ) in
        let li : i < length items = omega (arith, lb, length-map items break_of) in
        let is : get_or (map section_of (map break_of items)) i no_section ≡ section_of
        (break_of (get_or items i d))
        = get_or-map section_of (map break_of items) i (break_of d) no_section lb
        ∙ ap section_of (get_or-map break_of items i d (break_of d) li) in
        let h = has i d li in
        subst (IsProvedSection (meanings_of instance.terms) (length instance.names) sizes) (sym is)
        (record { bases = h.bases; proves = h.proves }))

    reached_behind : All (IsReached instance.terms (meanings_of instance.terms)
        (length instance.names) sizes) (map section_of (map break_of items))
    reached_behind = All-from_get_or
        (IsReached instance.terms (meanings_of instance.terms) (length instance.names) sizes)
        (map section_of (map break_of items)) no_section (λ i l.
        let lb : i < length (map break_of items) = omega (
          arith,
          l,
          length-map (map break_of items) section_of,
        ) in
        let li : i < length items = omega (arith, lb, length-map items break_of) in
        let is : get_or (map section_of (map break_of items)) i no_section ≡ section_of
        (break_of (get_or items i d))
        = get_or-map section_of (map break_of items) i (break_of d) no_section lb
        ∙ ap section_of (get_or-map break_of items i d (break_of d) li) in
        let h = has i d li in
        let low : IsLowest (get_or items i d).slope.num
        (get_or items i d).slope.den = subst (λ (m : Mark). IsLowest m.num m.den) (mark_is i li)
        (slopes.lowest i (omega (arith, li, length-map items kept_mark))) in
        subst (IsReached instance.terms (meanings_of instance.terms) (length instance.names) sizes)
        (sym is) (reached instance.terms (length instance.names) sizes
        (section_of (break_of (get_or items i d))) bounded low.positive h.reached))

  pub formed_breaks : (items : List Found)
      → AreBreakpoints (meanings_of instance.terms) (length instance.names) sizes
      (map kept_mark items) → All (HasBasesBy (meanings_of instance.terms)
      (λ q. map (λ kind. kind_start kind q) instance.terms) (length instance.names) sizes) items
      → All (IsFormedBreak (length instance.names) (form_of instance).widths) (map break_of items)
  formed_breaks [] slopes has = All-nil
      (IsFormedBreak (length instance.names) (form_of instance).widths)
  formed_breaks (b ∷ items) slopes has = formed_behind b (b ∷ items) slopes has

  pub proved_breaks : (items : List Found)
      → AreBreakpoints (meanings_of instance.terms) (length instance.names) sizes
      (map kept_mark items) → All (HasBasesBy (meanings_of instance.terms)
      (λ q. map (λ kind. kind_start kind q) instance.terms) (length instance.names) sizes) items
      → All (IsProvedSection (meanings_of instance.terms) (length instance.names) sizes)
      (map section_of (map break_of items))
  proved_breaks [] slopes has = All-nil
      (IsProvedSection (meanings_of instance.terms) (length instance.names) sizes)
  proved_breaks (b ∷ items) slopes has = proved_behind b (b ∷ items) slopes has

  pub reached_breaks : (items : List Found)
      → AreBreakpoints (meanings_of instance.terms) (length instance.names) sizes
      (map kept_mark items) → All (HasBasesBy (meanings_of instance.terms)
      (λ q. map (λ kind. kind_start kind q) instance.terms) (length instance.names) sizes) items
      → All (IsReached instance.terms (meanings_of instance.terms) (length instance.names) sizes)
      (map section_of (map break_of items))
  reached_breaks [] slopes has =
      All-nil (IsReached instance.terms (meanings_of instance.terms) (length instance.names) sizes)
  reached_breaks (b ∷ items) slopes has = reached_behind b (b ∷ items) slopes has
