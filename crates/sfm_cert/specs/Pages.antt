-- What becomes of a page, and of the room for a text, by a piece of text. Two pieces do what the
-- longer piece does that they make.
use Rattle.std.specs.Prelude.{◌≡◌, ℕ, ◌-◌, List, [], ◌∷◌, ◌++◌, length, take}
use Rattle.std.proofs.Common.{zero, suc, refl, sym, ap, ◌∙◌, arith, append_assoc}
use Rattle.std.proofs.lemmas.List.{length-append, append-nil}
use Rattle.std.proofs.Math.Seq.{take-nil}
use Rattle.sfm_base.specs.Page.{PageData}

-- as much of the piece as there is room for stands at the end
abbrev pub after_page : PageData → List ℕ → PageData
after_page p piece = record {
  bytes = p.bytes ++ take p.spare piece;
  spare = p.spare - length piece;
}

pub left_nothing : (left : ℕ) → left - 0 ≡ left
left_nothing left = omega arith

pub left_joined : (left : ℕ) (x y : List ℕ) → (left - length x) - length y ≡ left - length (x ++ y)
left_joined left x y = omega (arith, length-append x y)

none_left : (n : ℕ) → 0 - n ≡ 0
none_left n = omega arith

one_less : (n k : ℕ) → n - k ≡ suc n - suc k
one_less n k = omega arith

take_parts : (n : ℕ) (x y : List ℕ) → take n (x ++ y) ≡ take n x ++ take (n - length x) y
take_parts n [] y = rw (take-nil n) (ap (λ m. take m y) (sym (left_nothing n)))
take_parts zero (c ∷ x) y = ap (λ m. take m y) (sym (none_left (length (c ∷ x))))
take_parts (suc n) (c ∷ x) y =
    ap (λ z. c ∷ z) (take_parts n x y ∙ ap (λ m. take n x ++ take m y) (one_less n (length x)))

pub page_nothing : (p : PageData) → after_page p [] ≡ p
page_nothing p = rw (take-nil p.spare, append-nil p.bytes, left_nothing p.spare) refl

pub page_joined : (p : PageData) (x y : List ℕ)
    → after_page (after_page p x) y ≡ after_page p (x ++ y)
page_joined p x y = rw (
  take_parts p.spare x y,
  append_assoc p.bytes (take p.spare x) (take (p.spare - length x) y),
  left_joined p.spare x y,
)
    refl
