-- Amounts cut into rows one after the other.
use Rattle.std.proofs.Common.{◌≡◌, ℕ, ◌+◌, ◌<◌, ◌≤◌, List, [], ◌∷◌, ◌++◌, length, take, drop, ℤ, sym, ap, ◌∙◌, arith, append_assoc}
use Rattle.std.proofs.lemmas.List.{drop_more, drop-drop, drop_all, append-nil, length-append}
use Rattle.sfm_cells.specs.Splits.{list_at}
use Rattle.sfm_cells.specs.Cells.{joined, cut}

-- the rows of the first i lists, which have the first `at` amounts
pub record IsCutTo (lists : List (List ℕ)) (y : List ℤ) (rows : List (List ℤ)) (at i : ℕ) : Type
    0 where
  pub rest : (rows ++ cut (drop i lists) (drop at y)) ≡ cut lists y
  pub counted : at + length (joined (drop i lists)) ≡ length y

pub cut_fits : (lists : List (List ℕ)) (y : List ℤ) (rows : List (List ℤ)) (at i : ℕ)
    → i < length lists → IsCutTo lists y rows at i → at + length (list_at lists i) ≤ length y
cut_fits lists y rows at i lt h =
    let d = ap (λ ls. length (joined ls)) (drop_more lists i [] lt) in
    let a = length-append (list_at lists i) (joined (drop (i + 1) lists)) in
    let c = h.counted in
    omega (arith, d, a, c)

pub cut_more : (lists : List (List ℕ)) (y : List ℤ) (rows : List (List ℤ)) (row : List ℤ) (at i : ℕ)
    → i < length lists → row ≡ take (length (list_at lists i)) (drop at y)
    → IsCutTo lists y rows at i
    → IsCutTo lists y (rows ++ row ∷ []) (at + length (list_at lists i)) (i + 1)
cut_more lists y rows row at i lt is h = record {
  rest =
      (let l = list_at lists i in
      let d = ap (λ ls. rows ++ cut ls (drop at y)) (drop_more lists i [] lt) in
      let e = ap (λ x. rows ++ (x ∷ cut (drop (i + 1) lists) (drop (length l) (drop at y)))) is in
      let f = ap (λ x. rows ++ (row ∷ cut (drop (i + 1) lists) x)) (drop-drop (length l) at y) in
      append_assoc rows (row ∷ []) (cut (drop (i + 1) lists) (drop (at + length l) y))
      ∙ (sym f ∙ (e ∙ (sym d ∙ h.rest))));
  counted =
      (let d = ap (λ ls. length (joined ls)) (drop_more lists i [] lt) in
      let a = length-append (list_at lists i) (joined (drop (i + 1) lists)) in
      let c = h.counted in
      omega (arith, d, a, c));
}

pub cut_whole : (lists : List (List ℕ)) (y : List ℤ) (rows : List (List ℤ)) (at i : ℕ)
    → length lists ≤ i → IsCutTo lists y rows at i → rows ≡ cut lists y
cut_whole lists y rows at i past h = sym (append-nil rows)
    ∙ (ap (λ ls. rows ++ cut ls (drop at y)) (sym (drop_all i lists past)) ∙ h.rest)
