-- Where the terms of a line stand among all.
use Rattle.std.proofs.Common.{◌≡◌, ℕ, suc, ◌+◌, ◌<◌, ◌≤◌, List, length, get_or, take, ap, ◌∙◌, arith}
use Rattle.std.proofs.lemmas.List.{get_or_default}
use Rattle.sfm_kind.specs.Instance.{width_of, terms_in}
use Rattle.sfm_kind.proofs.Lined.{terms_in_more, terms_in-first}

-- those of the next line stand behind them
pub next-line : (lines : List ℕ) (i : ℕ) → i < length lines
    → terms_in (take (suc i) lines) ≡ terms_in (take i lines) + width_of (get_or lines i 0)
next-line lines i lt =
    let one = terms_in_more lines i (get_or lines i 0) lt
    (get_or_default lines i 0 (get_or lines i 0) lt) in
    let at : suc i ≡ i + 1 = omega arith in
    ap (λ n. terms_in (take n lines)) at ∙ one

pub width-at : (lines : List ℕ) (i d width : ℕ) → i < length lines
    → width ≡ width_of (get_or lines i d) → width ≡ width_of (get_or lines i 0)
width-at lines i d width lt is = is ∙ ap width_of (get_or_default lines i d 0 lt)

-- so they stand from one place on
pub record IsSpan (lines : List ℕ) (i first count : ℕ) : Type 0 where
  pub first_is : first ≡ terms_in (take i lines)
  pub next_is : first + count ≡ terms_in (take (suc i) lines)
  pub within : first + count ≤ terms_in lines

pub line-span : (lines : List ℕ) (i d first count : ℕ) → i < length lines
    → first ≡ terms_in (take i lines) → count ≡ width_of (get_or lines i d)
    → IsSpan lines i first count
line-span lines i d first count lt begins is =
    let next = next-line lines i lt in
    let wide = width-at lines i d count lt is in
    let most = terms_in-first lines (suc i) in
    record {
      first_is = begins;
      next_is = omega (arith, begins, wide, next);
      within = omega (arith, begins, wide, next, most);
    }
