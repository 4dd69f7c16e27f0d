use Rattle.std.proofs.Common.{◌≡◌, ℤ, ℕ, List, ◌++◌, All, sym, ◌∙◌}
use Rattle.std.specs.Fmt.{signed_decimal}
use Rattle.std.specs.Prelude.{◌≢◌}
use Rattle.sfm_spec.specs.Bounds.{IsEntry}
use Rattle.sfm_readback.specs.Lists.{IsStop}
use Rattle.sfm_readback.proofs.Tokens.{same_front, no_space, entry_plain}
use Rattle.sfm_readback.proofs.numbers.long_entry.Goals as goal

none_at : (bytes token rest : List ℕ) → bytes ≡ token ++ rest → All (λ c. c ≢ 32) token
    → IsStop rest → ((a : ℤ) → IsEntry a → token ≡ signed_decimal a → ⊥)
    → (a : ℤ) (r : List ℕ) → IsEntry a → IsStop r → bytes ≡ signed_decimal a ++ r → ⊥
none_at bytes token rest e plain stop none a r h sr g =
    none a h (same_front 32 token (signed_decimal a) rest r plain (no_space _ (entry_plain a h))
    stop sr (sym e ∙ g)).0

pub returns-in_err-a : goal.returns-in_err-a
returns-in_err-a c =
    rw c.from_residual.ensures
    (none_at _ _ _ c.split_token.ensures.cut c.split_token.ensures.plain c.split_token.ensures.stop
    c.in_err-a.ensures)
