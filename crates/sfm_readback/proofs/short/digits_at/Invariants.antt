-- the bytes so far are digits, of the value so far
use Rattle.std.proofs.Common.{◌≡◌, ◌-◌, ◌≤◌, ◌<◌, ◌^◌, take}
use Rattle.std.specs.Str.Parse.{AllDigits, digits_value}
use Rattle.sfm_readback.proofs.short.digits_at.Given as goal

abbrev pub invariant-loop-len : goal.invariant-loop-len
invariant-loop-len l =
    (l.len ≤ l.most) × AllDigits 10 (take l.len l.bytes)
    × (l.value ≡ digits_value 10 (take l.len l.bytes)) × (l.value < 10 ^ l.len)

abbrev pub decreases-loop-len : goal.decreases-loop-len
decreases-loop-len l = l.most - l.len
