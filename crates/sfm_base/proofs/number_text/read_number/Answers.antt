-- each branch answers what the text of its form says
use Rattle.std.proofs.Common.{◌≡◌, ℕ, pos, neg_ℤ, List, length, take, drop, ◌-◌, ◌-ℤ◌, ◌≤◌, ◌^◌, to_z, of_z, subst, refl, arith}
use Rattle.std.specs.Prelude.{Option}
use Rattle.std.specs.Int.{w128}
use Rattle.std.proofs.lemmas.Bool.{false≢true}
use Rattle.std.proofs.lemmas.Int.{ints}
use Rattle.std.proofs.lemmas.Grind.{common_steps}
use Rattle.sfm_base.proofs.NumberText.{ReadsCount, reads_minus_some, reads_minus_none, reads_plain_some, reads_plain_none}
use Rattle.sfm_base.proofs.number_text.read_number.Goals as goal

rest_is : (bytes : List ℕ) → take (length bytes - 1) (drop 1 bytes) ≡ drop 1 bytes
rest_is bytes = grind (arith, common_steps)

reads_rest : (bytes : List ℕ) (r : Option ℕ) → ReadsCount (take (length bytes - 1) (drop 1 bytes)) r
    → ReadsCount (drop 1 bytes) r
reads_rest bytes r h = subst (λ (x : List ℕ). ReadsCount x r) (rest_is bytes) h

plus_is : (n : ℕ) → n ≤ 10 ^ 30 → to_z w128 n ≡ pos n
plus_is n h = omega (arith, ints, h)

minus_is : (n : ℕ) → n ≤ 10 ^ 30 → to_z w128 (of_z w128 (pos 0 -ℤ to_z w128 n)) ≡ neg_ℤ (pos n)
minus_is n h = omega (arith, ints, h)

pub returns-in_err-count : goal.returns-in_err-count
returns-in_err-count c =
    reads_minus_none c.args.bytes.now _ (c.if-has_minus.ensures.0 refl)
    (reads_rest c.args.bytes.now _ c.in_err-count.ensures.value) c.from_residual.ensures

pub returns-in_ok-count : goal.returns-in_ok-count
returns-in_ok-count c =
    reads_minus_some c.args.bytes.now _ _ (c.if-has_minus.ensures.0 refl)
    (reads_rest c.args.bytes.now _ c.in_ok-count.ensures.value)
    (minus_is c.in_ok-count.count c.in_ok-count.ensures.small)

pub returns-in_err-count-2 : goal.returns-in_err-count-2
returns-in_err-count-2 c =
    reads_plain_none c.args.bytes.now _ (λ e. false≢true (c.if-is_zero.ensures.1 e))
    (λ e. false≢true (c.if-has_minus.ensures.1 e)) c.in_err-count-2.ensures.value
    c.from_residual-in_err-count-2.ensures

pub returns-in_ok-count-2 : goal.returns-in_ok-count-2
returns-in_ok-count-2 c = reads_plain_some c.args.bytes.now _ _ c.in_ok-count-2.ensures.value
    (plus_is c.in_ok-count-2.count c.in_ok-count-2.ensures.small)
