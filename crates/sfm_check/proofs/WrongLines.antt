-- The first line of an answer that is not the due one, by what it says.
use Rattle.std.proofs.Common.{◌≡◌, ◌≢◌, ◌⊎◌, inl, inr, ℕ, zero, suc, ◌+◌, ◌<◌, ◌≤◌, ◌^◌, List, [], ◌∷◌, ◌++◌, length, map, get_or, ℤ, pos, nat_abs, refl, sym, ap, ◌∙◌, arith, subst, append_assoc, codes}
use Rattle.std.proofs.lemmas.List.{get_or_append_left, length-append}
use Rattle.std.specs.Fmt.{signed_decimal}
use Rattle.sfm_base.specs.NumberText.{IsNumber}
use Rattle.sfm_base.proofs.NumberText.{number_of_text, one_value}
use Rattle.sfm_spec.specs.Blocks.{Block, block_at}
use Rattle.sfm_kind.specs.Names.{AreElementNames}
use Rattle.sfm_cert.specs.Answer.{Answer, Break, Form, answer_lines, at_line, block_line, listed, mark_of, slope_line, slope_text}
use Rattle.sfm_cert.specs.LineLists.{base_lines, block_lines, break_lines, slope_lines}
use Rattle.sfm_cert.specs.Form.{IsFormedBlock}
use Rattle.sfm_check.specs.Verdict.{due_lines}
use Rattle.sfm_check.specs.Findings.{IsFirstUnlike, IsWrongLine}
use Rattle.sfm_check.proofs.Forming.{length-block_lines, length-slope_lines}
use Rattle.sfm_readback.proofs.Unique.{listed-same}
use Rattle.sfm_check.proofs.OneToOne.{IsPlainMark, block_line-same, slope_line-apart}
use Rattle.sfm_spec.specs.Laws.{Mark}
use Rattle.sfm_spec.specs.Search.{mark_at}
use Rattle.std.specs.List.{All}
use Rattle.std.proofs.lemmas.List.Elements.{All-head}

-- what stands behind the greatest minimiser
abbrev pub later_lines : Form → Answer → List (List ℕ)
later_lines form a = (block_lines form.names 1 a.blocks ++ slope_lines form.names a.breaks)
    ++ at_line (pos 0) (pos 1) ∷ []

length-later : (form : Form) (a : Answer) → length (later_lines form a) ≡ length a.blocks + length
    a.breaks + 1
length-later form a =
    let o = length-append (block_lines form.names 1 a.blocks ++ slope_lines form.names a.breaks)
    (at_line (pos 0) (pos 1) ∷ []) in
    let i = length-append (block_lines form.names 1 a.blocks) (slope_lines form.names a.breaks) in
    omega (
      arith,
      o,
      i,
      length-block_lines form.names 1 a.blocks,
      length-slope_lines form.names a.breaks,
    )

-- the answer lines come first
due_first : (form : Form) (a : Answer)
    → answer_lines form a ≡ due_lines form
    a ++ (base_lines form.lines 1 a.bases ++ break_lines form.lines a.breaks ++ codes "end" ∷ [])
due_first form a = simp append_assoc

pub line_due : (form : Form) (a : Answer) (i : ℕ) → i < length (due_lines form a)
    → get_or (answer_lines form a) i [] ≡ get_or (due_lines form a) i []
line_due form a i l = ap (λ z. get_or z i []) (due_first form a)
    ∙ get_or_append_left (due_lines form a)
    (base_lines form.lines 1 a.bases ++ break_lines form.lines a.breaks ++ codes "end" ∷ []) [] i l

line_later : (form : Form) (a : Answer) (i : ℕ) → i < length (later_lines form a)
    → get_or (answer_lines form a) (suc (suc (suc (suc i)))) [] ≡ get_or (later_lines form a) i []
line_later form a i l = line_due form a (suc (suc (suc (suc i)))) (omega arith)

-- ---- the lines of blocks

block_lines-at : (names : List (List ℕ)) (j : ℕ) (blocks : List Block) (i : ℕ) → i < length blocks
    → get_or (block_lines names j blocks) i [] ≡ block_line names (i + j) (block_at blocks i)
block_lines-at names j [] i l = absurd (omega arith)
block_lines-at names j (b ∷ blocks) zero l =
    let e : j ≡ 0 + j = omega arith in ap (λ z. block_line names z b) e
block_lines-at names j (b ∷ blocks) (suc i) l =
    let e : i + (j + 1) ≡ suc i + j = omega arith in block_lines-at names (j + 1) blocks i
    (omega arith) ∙ ap (λ z. block_line names z (block_at blocks i)) e

later_block : (form : Form) (a : Answer) (i : ℕ) → i < length a.blocks
    → get_or (later_lines form a) i [] ≡ block_line form.names (i + 1) (block_at a.blocks i)
later_block form a i l =
    let lb : i < length (block_lines form.names 1 a.blocks) = omega (
      arith,
      l,
      length-block_lines form.names 1 a.blocks,
    ) in
    let lo : i < length (block_lines form.names 1 a.blocks ++ slope_lines form.names
    a.breaks) = omega (
      arith,
      lb,
      length-append (block_lines form.names 1 a.blocks) (slope_lines form.names a.breaks),
    ) in
    get_or_append_left (block_lines form.names 1 a.blocks ++ slope_lines form.names a.breaks)
    (at_line (pos 0) (pos 1) ∷ []) [] i lo
    ∙ (get_or_append_left (block_lines form.names 1 a.blocks) (slope_lines form.names a.breaks) [] i
    lb ∙ block_lines-at form.names 1 a.blocks i l)

get_or-behind : (xs ys : List (List ℕ)) (i : ℕ) → i ≡ length xs
    → get_or (xs ++ ys) i [] ≡ get_or ys 0 []
get_or-behind [] ys i e = ap (λ z. get_or ys z []) e
get_or-behind (x ∷ xs) ys zero e = absurd (omega arith)
get_or-behind (x ∷ xs) ys (suc i) e = get_or-behind xs ys i (omega arith)

-- the first line behind the blocks
abbrev first_later : List (List ℕ) → List Break → List ℕ
first_later names [] = at_line (pos 0) (pos 1)
first_later names (b ∷ breaks) = slope_line names b

later_end : (form : Form) (a : Answer) (i : ℕ) → i ≡ length a.blocks
    → get_or (later_lines form a) i [] ≡ first_later form.names a.breaks
later_end form a i e =
    ap (λ z. get_or z i []) (append_assoc (block_lines form.names 1 a.blocks)
    (slope_lines form.names a.breaks) (at_line (pos 0) (pos 1) ∷ []))
    ∙ (get_or-behind (block_lines form.names 1 a.blocks)
    (slope_lines form.names a.breaks ++ at_line (pos 0) (pos 1) ∷ []) i
    (e ∙ sym (length-block_lines form.names 1 a.blocks)) ∙ first a.breaks) where
      first : (breaks : List Break)
          → get_or (slope_lines form.names breaks ++ at_line (pos 0) (pos 1) ∷ []) 0
          [] ≡ first_later form.names breaks
      first [] = refl
      first (b ∷ breaks) = refl

-- no other line begins as that of a block
no_block_line : (names : List (List ℕ)) (i : ℕ) (b : Block) (breaks : List Break)
    → block_line names i b ≡ first_later names breaks → ⊥
no_block_line names i b [] e = let f : 98 ≡ 97 = ap (λ z. get_or z 0 0) e in omega (arith, f)
no_block_line names i b (x ∷ breaks) e =
    let f : 98 ≡ 115 = ap (λ z. get_or z 0 0) e in omega (arith, f)

-- ---- which line is wrong

pub one_number : (a b : ℤ) → nat_abs a < 10 ^ 64 → nat_abs b < 10 ^ 64
    → signed_decimal a ≡ signed_decimal b → a ≡ b
one_number a b la lb e = one_value (signed_decimal a) a b (number_of_text a la)
    (subst (λ (x : List ℕ). IsNumber x b) (sym e) (number_of_text b lb))

module _ (form : Form) (a t : Answer) where
  wrong_line : (i : ℕ) → i < length (due_lines form t)
      → get_or (answer_lines form a) i [] ≢ get_or (due_lines form t) i []
      → ((j : ℕ) → j < i → get_or (answer_lines form a) j [] ≡ get_or (due_lines form t) j [])
      → IsWrongLine form a t (i + 1)
  wrong_line i l ne before = record {
    at = i;
    is_due = l;
    line_is = refl;
    wrong = ne;
    before = before;
  }

  -- the first lines, as far as they are alike
  same_first : (k : ℕ) → k < 4 → (1 < k → a.value ≡ t.value) → (2 < k → a.least ≡ t.least) → (i : ℕ)
      → i < k → get_or (answer_lines form a) i [] ≡ get_or (due_lines form t) i []
  same_first k few value least zero l = refl
  same_first k few value least (suc zero) l =
      ap (λ z. codes "minimum " ++ signed_decimal z) (value l)
  same_first k few value least (suc (suc zero)) l =
      ap (λ z. codes "least" ++ listed form.names z) (least l)
  same_first k few value least (suc (suc (suc i))) l = absurd (omega arith)

  pub wrong_value : signed_decimal a.value ≢ signed_decimal t.value → IsWrongLine form a t 2
  wrong_value ne = wrong_line 1 (omega arith)
      (λ e. let d : signed_decimal a.value ≡ signed_decimal t.value = cc in ne d)
      (same_first 1 (omega arith) (λ l. absurd (omega arith)) (λ l. absurd (omega arith)))

  pub wrong_least : AreElementNames form.names → length a.least ≡ length form.names
      → length t.least ≡ length form.names → a.value ≡ t.value → a.least ≢ t.least
      → IsWrongLine form a t 3
  wrong_least fine la lt value ne =
      wrong_line 2 (omega arith) (λ e. let d : listed form.names a.least ≡ listed form.names
      t.least = cc in ne (listed-same form.names a.least t.least fine la lt d))
      (same_first 2 (omega arith) (λ l. value) (λ l. absurd (omega arith)))

  pub wrong_greatest : AreElementNames form.names → length a.greatest ≡ length form.names
      → length t.greatest ≡ length form.names → a.value ≡ t.value → a.least ≡ t.least
      → a.greatest ≢ t.greatest → IsWrongLine form a t 4
  wrong_greatest fine la lt value least ne =
      wrong_line 3 (omega arith) (λ e. let d : listed form.names a.greatest ≡ listed form.names
      t.greatest = cc in ne (listed-same form.names a.greatest t.greatest fine la lt d))
      (same_first 3 (omega arith) (λ l. value) (λ l. least))

  -- the first four lines and those of blocks that are alike
  same_before : a.value ≡ t.value → a.least ≡ t.least → a.greatest ≡ t.greatest → (k : ℕ)
      → k ≤ length a.blocks → k ≤ length t.blocks
      → ((j : ℕ) → j < k → block_at a.blocks j ≡ block_at t.blocks j)
      → (i : ℕ) → i < suc (suc (suc (suc k)))
      → get_or (answer_lines form a) i [] ≡ get_or (due_lines form t) i []
  same_before value least greatest k ka kt like zero l = refl
  same_before value least greatest k ka kt like (suc zero) l =
      ap (λ z. codes "minimum " ++ signed_decimal z) value
  same_before value least greatest k ka kt like (suc (suc zero)) l =
      ap (λ z. codes "least" ++ listed form.names z) least
  same_before value least greatest k ka kt like (suc (suc (suc zero))) l =
      ap (λ z. codes "greatest" ++ listed form.names z) greatest
  same_before value least greatest k ka kt like (suc (suc (suc (suc j)))) l =
      let lj : j < k = omega arith in
      line_later form a j (omega (arith, lj, ka, length-later form a))
      ∙ (later_block form a j (omega arith)
      ∙ (ap (block_line form.names (j + 1)) (like j lj)
      ∙ sym (later_block form t j (omega arith))))

  pub wrong_block : AreElementNames form.names
      → ((i : ℕ) → i < length a.blocks → IsFormedBlock (length form.names) i (block_at a.blocks i))
      → ((i : ℕ) → i < length t.blocks → IsFormedBlock (length form.names) i (block_at t.blocks i))
      → length a.blocks < 2 ^ 63 → a.value ≡ t.value → a.least ≡ t.least → a.greatest ≡ t.greatest
      → (k : ℕ) → IsFirstUnlike a.blocks t.blocks k → IsWrongLine form a t (5 + k)
  wrong_block fine fa ft few value least greatest k u = record {
    at = suc (suc (suc (suc k)));
    is_due = let l = u.in_due in omega (arith, l, length-later form t);
    line_is = omega arith;
    wrong = λ e.
        clash (sym (line_later form a k
        (let l = u.in_given in omega (arith, l, length-later form a))) ∙ e) u.unlike;
    before = same_before value least greatest k u.in_given u.in_due u.before;
  } where
    clash : get_or (later_lines form a) k [] ≡ get_or (later_lines form t) k []
        → ((k < length a.blocks) × (k < length t.blocks)
        × (block_at a.blocks k ≢ block_at t.blocks k))
        ⊎ ((k ≡ length a.blocks) × (k < length t.blocks))
        ⊎ ((k < length a.blocks) × (k ≡ length t.blocks)) → ⊥
    clash e (inl (ka, kt, ne)) = ne
        (block_line-same form.names k (block_at a.blocks k) (block_at t.blocks k) fine
        (omega (arith, ka, few)) (fa k ka) (ft k kt)
        (sym (later_block form a k ka) ∙ (e ∙ later_block form t k kt)))
    clash e (inr (inl (ka, kt))) = no_block_line form.names (k + 1) (block_at t.blocks k) a.breaks
        (sym (later_block form t k kt) ∙ (sym e ∙ later_end form a k ka))
    clash e (inr (inr (ka, kt))) = no_block_line form.names (k + 1) (block_at a.blocks k) t.breaks
        (sym (later_block form a k ka) ∙ (e ∙ later_end form t k kt))

-- ---- slopes

-- the line of a slope
mark_line : List (List ℕ) → Mark → List ℕ
mark_line names m = codes "slope " ++ slope_text m.num m.den ++ listed names m.members

mark_lines : List (List ℕ) → List Mark → List (List ℕ)
mark_lines names [] = []
mark_lines names (m ∷ marks) = mark_line names m ∷ mark_lines names marks

slope_lines-marks : (names : List (List ℕ)) (breaks : List Break)
    → slope_lines names breaks ≡ mark_lines names (map mark_of breaks)
unfolding mark_line mark_lines
slope_lines-marks names [] = refl
slope_lines-marks names (b ∷ breaks) =
    ap (λ z. slope_line names b ∷ z) (slope_lines-marks names breaks)

-- the lines of slopes are those of their marks
pub slope_lines-same : (names : List (List ℕ)) (x y : List Break) → map mark_of x ≡ map mark_of y
    → slope_lines names x ≡ slope_lines names y
slope_lines-same names x y e = slope_lines-marks names x
    ∙ (ap (mark_lines names) e ∙ sym (slope_lines-marks names y))

mark_lines-append : (names : List (List ℕ)) (xs ys : List Mark)
    → mark_lines names (xs ++ ys) ≡ mark_lines names xs ++ mark_lines names ys
unfolding mark_lines
mark_lines-append names [] ys = refl
mark_lines-append names (x ∷ xs) ys =
    ap (λ z. mark_line names x ∷ z) (mark_lines-append names xs ys)

length-mark_lines : (names : List (List ℕ)) (marks : List Mark)
    → length (mark_lines names marks) ≡ length marks
unfolding mark_lines
length-mark_lines names [] = refl
length-mark_lines names (m ∷ marks) = ap suc (length-mark_lines names marks)

-- the lines from some slope on
tail_lines : List (List ℕ) → List Mark → List (List ℕ)
tail_lines names rest = mark_lines names rest ++ at_line (pos 0) (pos 1) ∷ []

-- the lines before it
front_lines : Form → Answer → List Mark → List (List ℕ)
front_lines form a front = form.header ∷ (codes "minimum " ++ signed_decimal a.value)
    ∷ (codes "least" ++ listed form.names a.least)
    ∷ (codes "greatest" ++ listed form.names a.greatest)
    ∷ (block_lines form.names 1 a.blocks ++ mark_lines form.names front)

due_parts : (form : Form) (a : Answer) (front rest : List Mark)
    → map mark_of a.breaks ≡ front ++ rest
    → due_lines form a ≡ front_lines form a front ++ tail_lines form.names rest
unfolding front_lines tail_lines
due_parts form a front rest e =
    let s : slope_lines form.names a.breaks ≡ mark_lines form.names front ++ mark_lines form.names
    rest = slope_lines-marks form.names a.breaks
    ∙ (ap (mark_lines form.names) e ∙ mark_lines-append form.names front rest) in
    let f : List (List ℕ) → List (List ℕ) = λ z.
    form.header ∷ (codes "minimum " ++ signed_decimal a.value)
    ∷ (codes "least" ++ listed form.names a.least)
    ∷ (codes "greatest" ++ listed form.names a.greatest) ∷ z in
    ap f (ap (λ z. (block_lines form.names 1 a.blocks ++ z) ++ at_line (pos 0) (pos 1) ∷ []) s
    ∙ regroup (block_lines form.names 1 a.blocks) (mark_lines form.names front)
    (mark_lines form.names rest) (at_line (pos 0) (pos 1) ∷ [])) where
      regroup : (b f r o : List (List ℕ)) → (b ++ (f ++ r)) ++ o ≡ (b ++ f) ++ (r ++ o)
      regroup b f r o = simp append_assoc

length-front : (form : Form) (a : Answer) (front : List Mark)
    → length (front_lines form a front) ≡ suc (suc (suc (suc (length a.blocks + length front))))
unfolding front_lines
length-front form a front =
    let l = length-append (block_lines form.names 1 a.blocks) (mark_lines form.names front) in
    omega (arith, l, length-block_lines form.names 1 a.blocks, length-mark_lines form.names front)

-- two lists that begin alike
alike_before : (xs ys p u v : List (List ℕ)) → xs ≡ p ++ u → ys ≡ p ++ v → (i : ℕ) → i < length p
    → get_or xs i [] ≡ get_or ys i []
alike_before xs ys p u v ex ey i l = ap (λ z. get_or z i []) ex
    ∙ (get_or_append_left p u [] i l
    ∙ sym (ap (λ z. get_or z i []) ey ∙ get_or_append_left p v [] i l))

then_at : (xs p u : List (List ℕ)) → xs ≡ p ++ u → (i : ℕ) → i ≡ length p
    → get_or xs i [] ≡ get_or u 0 []
then_at xs p u e i is = ap (λ z. get_or z i []) e ∙ get_or-behind p u i is

first_tail : (names : List (List ℕ)) (given rest : List Mark) → AreElementNames names
    → All (IsPlainMark names) given → All (IsPlainMark names) rest
    → ((0 < length given) × ((0 < length rest) × (mark_at rest 0 ≡ mark_at given 0) → ⊥))
    ⊎ ((given ≡ []) × (rest ≢ []))
    → get_or (tail_lines names given) 0 [] ≡ get_or (tail_lines names rest) 0 [] → ⊥
unfolding tail_lines mark_lines mark_line
first_tail names [] rest fine pg pr (inl (l, other)) e = omega (arith, l)
first_tail names [] [] fine pg pr (inr (none, some)) e = some refl
first_tail names [] (r ∷ rest) fine pg pr (inr (none, some)) e =
    let f : 97 ≡ 115 = ap (λ z. get_or z 0 0) e in omega (arith, f)
first_tail names (g ∷ given) [] fine pg pr o e =
    let f : 115 ≡ 97 = ap (λ z. get_or z 0 0) e in omega (arith, f)
first_tail names (g ∷ given) (r ∷ rest) fine pg pr (inl (l, other)) e =
    other (
      omega arith,
      sym (slope_line-apart names g r fine (All-head (IsPlainMark names) g given pg)
          (All-head (IsPlainMark names) r rest pr) e),
    )
first_tail names (g ∷ given) (r ∷ rest) fine pg pr (inr (none, some)) e = cc

tail_some : (names : List (List ℕ)) (rest : List Mark) → 0 < length (tail_lines names rest)
unfolding tail_lines
tail_some names rest = omega (
  arith,
  length-append (mark_lines names rest) (at_line (pos 0) (pos 1) ∷ []),
)

same_front_lines : (form : Form) (a t : Answer) (front : List Mark) → a.value ≡ t.value
    → a.least ≡ t.least → a.greatest ≡ t.greatest → a.blocks ≡ t.blocks
    → front_lines form a front ≡ front_lines form t front
unfolding front_lines
same_front_lines form a t front value least greatest blocks = cc

pub wrong_slope : (form : Form) (a t : Answer) (k : ℕ) (front given rest : List Mark)
    → AreElementNames form.names → All (IsPlainMark form.names) given
    → All (IsPlainMark form.names) rest → a.value ≡ t.value → a.least ≡ t.least
    → a.greatest ≡ t.greatest → a.blocks ≡ t.blocks
    → map mark_of a.breaks ≡ front ++ given → map mark_of t.breaks ≡ front ++ rest
    → k ≡ length front
    → ((0 < length given) × ((0 < length rest) × (mark_at rest 0 ≡ mark_at given 0) → ⊥))
    ⊎ ((given ≡ []) × (rest ≢ [])) → IsWrongLine form a t (5 + length a.blocks + k)
wrong_slope form a t k front given rest fine pg pr value least greatest blocks ea et ek departs =
    record {
      at = suc (suc (suc (suc (length a.blocks + k))));
      is_due = let e = ap length (due_parts form t front rest et) in let p = length-append
          (front_lines form t front) (tail_lines form.names rest) in let b = ap length
          blocks in omega (
            arith,
            e,
            p,
            b,
            ek,
            length-front form t front,
            tail_some form.names rest,
          );
      line_is = omega arith;
      wrong = λ e. first_tail form.names given rest fine pg pr departs
          (sym (then_at (due_lines form a) (front_lines form a front) (tail_lines form.names given)
          (due_parts form a front given ea) (suc (suc (suc (suc (length a.blocks + k)))))
          (omega (arith, ek, length-front form a front)))
          ∙ (sym (line_due form a (suc (suc (suc (suc (length a.blocks + k)))))
          (inside_a (suc (suc (suc (suc (length a.blocks + k))))) (omega (arith, ek))))
          ∙ (e ∙ then_at (due_lines form t) (front_lines form a front) (tail_lines form.names rest)
          et' (suc (suc (suc (suc (length a.blocks + k)))))
          (omega (arith, ek, length-front form a front)))));
      before = λ i l. line_due form a i (inside_a i (omega (arith, l, ek)))
          ∙ alike_before (due_lines form a) (due_lines form t) (front_lines form a front)
          (tail_lines form.names given) (tail_lines form.names rest)
          (due_parts form a front given ea)
          et' i (omega (arith, l, ek, length-front form a front));
    } where
      inside_a : (i : ℕ) → i < suc (suc (suc (suc (length a.blocks + length front)))) + 1
          → i < length (due_lines form a)
      inside_a i l = let e = ap length (due_parts form a front given ea) in let p = length-append
          (front_lines form a front) (tail_lines form.names given) in omega (
            arith,
            l,
            e,
            p,
            length-front form a front,
            tail_some form.names given,
          )

      et' : due_lines form t ≡ front_lines form a front ++ tail_lines form.names rest
      et' = due_parts form t front rest et
          ∙ ap (λ z. z ++ tail_lines form.names rest)
          (sym (same_front_lines form a t front value least greatest blocks))
