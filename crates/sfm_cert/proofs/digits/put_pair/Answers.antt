use Rattle.std.proofs.Common.{◌≡◌, ◌+◌, ◌<◌, ◌/◌, ◌%◌, [], ◌∷◌, ap, sym, ◌∙◌, arith}
use Rattle.std.specs.Fmt.{decimal}
use Rattle.std.proofs.lemmas.Fmt.{decimal_digit}
use Rattle.sfm_cert.specs.Pages.{after_page}
use Rattle.sfm_cert.proofs.DigitTexts.{last_digit, digit_behind}
use Rattle.sfm_cert.proofs.digits.put_pair.Goals as goal
use Rattle.sfm_cert.proofs.digits.put_pair.Goals.{then-n-ge10, else-n-ge10}

pub returns : goal.returns
returns c =
    let n = c.args.n in
    let page = c.args.page.now in
    elim c.if-n-ge10.branch [
      | then-n-ge10 w ↦
          let tenth : n / 10 < 10 = omega (arith, c.requires) in
          let tens : c.if-n-ge10.page ≡ after_page page (decimal (n / 10)) = w.page-is
          ∙ (w.put_digit.ensures ∙ ap (after_page page) (sym (decimal_digit (n / 10) tenth))) in
          digit_behind page _ _ n (omega (arith, w.if-n-ge10)) (omega (arith, c.requires)) tens
          c.put_digit-2.ensures
      | else-n-ge10 w ↦
          c.put_digit-2.ensures ∙ (ap (λ p. after_page p ((48 + n % 10) ∷ [])) w.page-is
          ∙ ap (after_page page) (last_digit n (omega (arith, w.if-n-ge10))))
    ]
