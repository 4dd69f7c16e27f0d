-- A number of the line is one of at most 10^30, so it is read, and then kept.
use Rattle.std.proofs.Common.{◌≡◌, ℤ, to_z, of_z, subst, refl, arith}
use Rattle.std.specs.Int.{w128}
use Rattle.std.proofs.lemmas.Int.{ints}
use Rattle.std.proofs.lemmas.Option.{none-some, same_Some}
use Rattle.sfm_lines.specs.TermLines.{IsNumberFor}
use Rattle.sfm_lines.proofs.Numbers.{entry-number, kept-entry, kept-lowest, kept-highest}
use Rattle.sfm_lines.proofs.term_line.number_in.Goals as goal
use Rattle.sfm_lines.proofs.term_line.number_in.Goals.{else-lowest-value-via-then-lowest-value+else-value-highest, else-lowest-value-via-else-lowest-value}

pub returns-in_default : goal.returns-in_default
returns-in_default c = λ w. (
  λ e. absurd (none-some w e),
  λ h. (c.in_default.ensures w).1
      (h.0, entry-number c.args.version c.args.word c.args.text.now w h),
)

pub returns-then-value-highest : goal.returns-then-value-highest
returns-then-value-highest c =
    let v = c.in-Some.value in
    let read = (c.in-Some.ensures v).0 refl in
    let e : to_z w128 (of_z w128 v) ≡ v = kept-entry v read.1 in
    let least = kept-lowest c.args.version c.args.word c.lowest_number-lowest.result
    c.lowest_number-lowest.ensures.least in
    let most = kept-highest c.args.version c.highest_number-highest.result
    c.highest_number-highest.ensures.most in
    let is : IsNumberFor c.args.version c.args.word c.args.text.now
    v = (
      read.0,
      omega (arith, ints, e, least, c.if-lowest-value.true),
      omega (arith, ints, e, most, c.if-value-highest.true),
    ) in
    rw e (λ w. (
      λ s. subst (λ (z : ℤ). IsNumberFor c.args.version c.args.word c.args.text.now z)
          (same_Some v w s) is,
      λ h. (c.in-Some.ensures w).1
          (h.0, entry-number c.args.version c.args.word c.args.text.now w h),
    ))

pub returns-else-lowest-value : goal.returns-else-lowest-value
returns-else-lowest-value c = λ w. (
  λ e. absurd (none-some w e),
  λ h.
      let v = c.in-Some.value in
      let read = (c.in-Some.ensures v).0 refl in
      let e : to_z w128 (of_z w128 v) ≡ v = kept-entry v read.1 in
      let s : v ≡ w = same_Some v w
      ((c.in-Some.ensures w).1 (
        h.0,
        entry-number c.args.version c.args.word c.args.text.now w h,
      )) in
      let least = kept-lowest c.args.version c.args.word c.lowest_number-lowest.result
      c.lowest_number-lowest.ensures.least in
      let most = kept-highest c.args.version c.highest_number-highest.result
      c.highest_number-highest.ensures.most in
      absurd (elim c.else-lowest-value.branch [
        | else-lowest-value-via-then-lowest-value+else-value-highest b ↦
            omega (arith, ints, e, s, h.2, most)
        | else-lowest-value-via-else-lowest-value b ↦
            omega (arith, ints, e, s, h.1, least)
      ]),
)
