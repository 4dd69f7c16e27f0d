-- What a page becomes by the digits of a number, one behind another.
use Rattle.std.proofs.Common.{◌≡◌, ℕ, ◌+◌, ◌<◌, ◌≤◌, ◌/◌, ◌%◌, ◌^◌, [], ◌∷◌, sym, ap, ◌∙◌, arith}
use Rattle.std.specs.Fmt.{decimal}
use Rattle.std.proofs.lemmas.Fmt.{decimal_digit, decimal_step}
use Rattle.sfm_base.specs.Page.{PageData}
use Rattle.sfm_cert.specs.Pages.{after_page, page_joined}
use Rattle.sfm_cert.proofs.Pieces.{both}

-- a number below ten is its one digit
pub last_digit : (n : ℕ) → n < 10 → (48 + n % 10) ∷ [] ≡ decimal n
last_digit n lt =
    let same : n % 10 ≡ n = omega (arith, lt) in
    ap (λ d. (48 + d) ∷ []) same ∙ sym (decimal_digit n lt)

-- the tens, and then the ones
pub digit_behind : (from out new : PageData) (n : ℕ) → 10 ≤ n → n < 2 ^ 64
    → out ≡ after_page from (decimal (n / 10)) → new ≡ after_page out ((48 + n % 10) ∷ [])
    → new ≡ after_page from (decimal n)
digit_behind from out new n ge small tens ones =
    both after_page page_joined from out new (decimal (n / 10)) ((48 + n % 10) ∷ []) tens ones
    ∙ ap (after_page from) (sym (decimal_step n ge small))
