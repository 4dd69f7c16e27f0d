-- the value so far goes on to that of all, the bytes that are left tell whether all are digits, and
-- i digits are below 10^i
use Rattle.std.proofs.Common.{◌≡◌, ◌↔◌, ◌<◌, ◌^◌, drop}
use Rattle.std.specs.Str.Parse.{AllDigits, digits_value, digits_value_after}
use Rattle.sfm_base.proofs.number_text.value_of.Given as goal

abbrev pub invariant-loop-digit : goal.invariant-loop-digit
invariant-loop-digit l = (digits_value_after 10 l.value (drop l.digit-index l.digits) ≡ digits_value
    10 l.digits)
    × (AllDigits 10 (drop l.digit-index l.digits) ↔ AllDigits 10 l.digits)
    × (l.value < 10 ^ l.digit-index)
