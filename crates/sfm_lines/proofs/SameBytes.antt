-- What `==` and `!=` on texts say.
use Rattle.std.proofs.Common.{◌≡◌, ◌≢◌, ℕ, List, Bool, true, false, MatchBool, sym, ◌∙◌}
use Rattle.std.specs.Str.{bytes_eq}
use Rattle.std.proofs.lemmas.Bool.{false≢true}
use Rattle.std.proofs.lemmas.Slice.Eq.{bytes_eq-Decides}

-- whether a text equals another
pub word-by : (text word : List ℕ) (r : Bool) → r ≡ bytes_eq text word
    → MatchBool r (text ≡ word) (text ≢ word)
word-by text word true is = (bytes_eq-Decides text word).0 (sym is)
word-by text word false is = λ same. false≢true (is ∙ (bytes_eq-Decides text word).1 same)
