-- All breakpoints of the terms of an instance, against the slopes of an answer.
use Rattle.std.proofs.Common.{◌≡◌, ◌≢◌, ◌⊎◌, inl, inr, ℕ, ◌+◌, ◌<◌, ◌≤◌, ◌^◌, Bool, List, [], ◌∷◌, ◌++◌, length, map, get_or, take, drop, ℤ, pos, refl, sym, ap, ◌∙◌, arith, subst}
use Rattle.std.specs.Prelude.{unsigned_abs}
use borrow.Author.Differences.{abs_is}
use Rattle.std.specs.List.{All}
use Rattle.std.proofs.lemmas.Int.{ints}
use Rattle.std.proofs.lemmas.List.{at_drop_all, get_or-drop, get_or-map, length-drop, length-map, length-take-le, take-append-drop}
use Rattle.std.proofs.Math.Seq.{drop-append_seam}
use Rattle.std.proofs.lemmas.List.Elements.{All-drop, All-from_get_or}
use Rattle.sfm_spec.specs.Slopes.{IsLowest}
use Rattle.sfm_spec.specs.Families.{AreTerms, IsAllowed, meanings, sum_at}
use Rattle.sfm_spec.specs.Laws.{AreBreakpoints, Mark, no_mark}
use Rattle.sfm_spec.specs.Search.{AreLowest, mark_at}
use Rattle.sfm_spec.proofs.Breakpoints.{breakpoint_den, breakpoint_num, breakpoints_exist, breakpoints_unique}
use Rattle.sfm_spec.proofs.Duality.{meanings-terms}
use Rattle.sfm_sizes.specs.Sizes.{AreElementSizes}
use Rattle.sfm_law.proofs.Lists.{placed-meanings}
use Rattle.sfm_kind.specs.declared.kind.Kind.{Kind}
use Rattle.sfm_kind.specs.Limits.{AreInBounds}
use Rattle.sfm_kind.specs.Names.{AreElementNames}
use Rattle.sfm_kind.specs.Kinds.{kind_places, kind_value, kind-family, kind-submodular}
use Rattle.sfm_cert.specs.Answer.{Answer, Break, Form, mark_of}
use Rattle.sfm_cert.specs.Form.{IsFormed, IsFormedBreak}
use Rattle.sfm_check.specs.Due.{break_at}
use Rattle.sfm_check.specs.Findings.{IsFirstWrongSlope, IsWrongLine, SaysTheSame}
use Rattle.sfm_check.proofs.Following.{wrong_slope_departs}
use Rattle.sfm_check.proofs.OneToOne.{IsPlainMark}
use Rattle.sfm_check.proofs.Small.{sum_small}
use Rattle.sfm_check.proofs.WrongLines.{wrong_slope}

-- the marks of slopes without bases
pub marks_kept : (marks : List Mark) → map mark_of (map break_at marks) ≡ marks
marks_kept [] = refl
marks_kept (m ∷ marks) = ap (λ z. m ∷ z) (marks_kept marks)

no_break : Break
no_break = record { num = pos 0; den = pos 1; members = []; bases = [] }

-- ---- the slopes of a formed answer

module _ (form : Form) (a : Answer) (formed : IsFormed form a) where
  mark_is : (i : ℕ) → i < length a.breaks
      → mark_at (map mark_of a.breaks) i ≡ mark_of (get_or a.breaks i no_break)
  mark_is i l = get_or-map mark_of a.breaks i no_break no_mark l

  pub given_lowest : AreLowest (map mark_of a.breaks)
  given_lowest i l =
      let lb : i < length a.breaks = omega (arith, l, length-map a.breaks mark_of) in
      subst (λ (m : Mark). IsLowest m.num m.den) (sym (mark_is i lb))
      (formed.breaks i no_break lb).lowest

  pub given_plain : All (IsPlainMark form.names) (map mark_of a.breaks)
  given_plain = All-from_get_or (IsPlainMark form.names) (map mark_of a.breaks) no_mark (λ i l.
      let lb : i < length a.breaks = omega (arith, l, length-map a.breaks mark_of) in
      subst (IsPlainMark form.names) (sym (mark_is i lb))
      (plain (get_or a.breaks i no_break) (formed.breaks i no_break lb))) where
        plain : (b : Break) → IsFormedBreak (length form.names) form.widths b
            → IsPlainMark form.names (mark_of b)
        plain b f =
            let low = f.factor.low in
            let high = f.factor.high in
            record {
              num = f.entry;
              den = record {
                low = omega (arith, ints, low);
                high = omega (arith, ints, high);
              };
              places = f.members.places;
            }

-- ---- all breakpoints of some terms

module _ (n : ℕ) (ts : List Kind) (bounded : AreInBounds n ts) where
  pub fit : AreTerms n (meanings kind_places kind_value ts)
  fit = meanings-terms n kind_places kind_value kind-family kind-submodular ts
      (placed-meanings n kind_places kind_value ts bounded.placed)

  pub all_slopes : (sizes : List ℤ) → AreElementSizes n sizes → (marks : List Mark)
      × AreBreakpoints (meanings kind_places kind_value ts) n sizes marks
  all_slopes sizes sized = breakpoints_exist (meanings kind_places kind_value ts) n sizes fit
      sized.places sized.positive

  pub same_slopes : (sizes : List ℤ) → AreElementSizes n sizes → (marks marks' : List Mark)
      → AreBreakpoints (meanings kind_places kind_value ts) n sizes marks
      → AreBreakpoints (meanings kind_places kind_value ts) n sizes marks' → marks ≡ marks'
  same_slopes sizes sized = breakpoints_unique (meanings kind_places kind_value ts) n sizes fit
      sized.places sized.positive

  sum_within : (s : List Bool) → length s ≡ n → IsAllowed (meanings kind_places kind_value ts) s
      → unsigned_abs (sum_at (meanings kind_places kind_value ts) s) ≤ 10 ^ 18
  sum_within s places allowed =
      let r = sum_small ts s allowed in
      let m = bounded.small in
      let x = abs_is (sum_at (meanings kind_places kind_value ts) s) in
      omega (arith, ints, r.0, r.1, m, x)

  pub due_plain : (sizes : List ℤ) → AreElementSizes n sizes
      → (names : List (List ℕ)) (marks : List Mark) → length names ≡ n
      → AreBreakpoints (meanings kind_places kind_value ts) n sizes marks
      → All (IsPlainMark names) marks
  due_plain sizes sized names marks ln are =
      All-from_get_or (IsPlainMark names) marks no_mark each where
        each : (i : ℕ) → i < length marks → IsPlainMark names (mark_at marks i)
        each i l =
            let m = mark_at marks i in
            let b = are.sound i l in
            let low = are.lowest i l in
            let small = breakpoint_num (meanings kind_places kind_value ts) n sizes fit sized.places
            sized.positive (10 ^ 18) sum_within m.num m.den m.members low b in
            let short = breakpoint_den (meanings kind_places kind_value ts) n sizes fit sized.places
            sized.positive m.num m.den m.members low b in
            let x = abs_is m.num in
            let one = low.positive in
            let t = sized.small in
            record {
              num = record {
                low = omega (arith, ints, small, x);
                high = omega (arith, ints, small, x);
              };
              den = record { low = omega (arith, ints, one); high = omega (arith, ints, short, t) };
              places = b.greatest.minimiser.places ∙ sym ln;
            }

-- ---- the first wrong slope is on the first wrong line

module _ (form : Form) (a : Answer) (ts : List Kind) (formed : IsFormed form a)
    (fine : AreElementNames form.names) (bounded : AreInBounds (length form.names) ts)
    (sizes : List ℤ) (sized : AreElementSizes (length form.names) sizes) where
  pub wrong_at : (t : Answer) (k : ℕ)
      → AreBreakpoints (meanings kind_places kind_value ts) (length form.names) sizes
      (map mark_of t.breaks) → SaysTheSame a t
      → IsFirstWrongSlope (meanings kind_places kind_value ts) (length form.names) sizes
      (map mark_of a.breaks) k → IsWrongLine form a t (5 + length a.blocks + k)
  wrong_at t k are same w =
      let d = wrong_slope_departs (meanings kind_places kind_value ts) (length form.names) sizes
      (fit (length form.names) ts bounded) sized (map mark_of a.breaks) (map mark_of t.breaks) k
      (given_lowest form a formed) are w in
      let plain = due_plain (length form.names) ts bounded sizes sized form.names
      (map mark_of t.breaks) refl are in
      wrong_slope form a t k (take k (map mark_of a.breaks)) (drop k (map mark_of a.breaks)) d.rest
      fine
      (All-drop (IsPlainMark form.names) k (map mark_of a.breaks) (given_plain form a formed))
      (behind (take k (map mark_of a.breaks)) d.rest
      (subst (All (IsPlainMark form.names)) d.parts plain))
      same.value same.least same.greatest same.blocks
      (sym (take-append-drop k (map mark_of a.breaks))) d.parts
      (sym (length-take-le k (map mark_of a.breaks) d.in_given))
      (apart d.rest d.departs) where
        behind : (front rest : List Mark) → All (IsPlainMark form.names) (front ++ rest)
            → All (IsPlainMark form.names) rest
        behind front rest h = subst (All (IsPlainMark form.names)) (drop-append_seam front rest)
            (All-drop (IsPlainMark form.names) (length front) (front ++ rest) h)

        apart : (rest : List Mark) → ((k < length (map mark_of a.breaks))
            × ((0 < length rest) × (mark_at rest 0 ≡ mark_at (map mark_of a.breaks) k) → ⊥))
            ⊎ ((k ≡ length (map mark_of a.breaks)) × (rest ≢ []))
            → ((0 < length (drop k (map mark_of a.breaks)))
            × ((0 < length rest) × (mark_at rest 0 ≡ mark_at (drop k (map mark_of a.breaks)) 0)
            → ⊥)) ⊎ ((drop k (map mark_of a.breaks) ≡ []) × (rest ≢ []))
        apart rest (inl (l, other)) =
            inl (
              omega (arith, l, length-drop k (map mark_of a.breaks)),
              (λ (some, is). other (
                some,
                is ∙ (get_or-drop k (map mark_of a.breaks) 0 no_mark
                    ∙ ap (mark_at (map mark_of a.breaks)) (omega arith)),
              )),
            )
        apart rest (inr (e, some)) =
            inr (at_drop_all (λ z. z) (map mark_of a.breaks) k (omega (arith, e)), some)
