-- Numbers drawn from a seed by a linear congruential generator, and what is made of them: a value, and the state that the draws leave.
use Rattle.std.specs.Prelude.{ℕ, ◌+◌, ◌*◌, ◌/◌, ◌%◌, ◌^◌, List, ◌++◌}

-- the state that follows a state
unfoldable pub next : ℕ → ℕ
next state = (state * 6364136223846793005 + 1442695040888963407) % 2 ^ 64

-- the top half of a state, modulo k
unfoldable pub top : ℕ → ℕ → ℕ
top k state = state / 2 ^ 32 % k

-- a value that was made, and the state after the draws that made it
pub record Drawn (A : Type 0) : Type 0 where
  pub value : A
  pub state : ℕ

-- what is made by draws from a state on
abbrev pub Drawing : Type 0 → Type 0
Drawing A = ℕ → Drawn A

-- a number below k
abbrev pub draw : ℕ → Drawing ℕ
draw k = λ s. record { value = top k (next s); state = next s }

-- no draw
abbrev pub done : {A : Type 0} → A → Drawing A
done a = λ s. record { value = a; state = s }

infixl 10 ◌>>=◌
abbrev pub ◌>>=◌ : {A B : Type 0} → Drawing A → (A → Drawing B) → Drawing B
m >>= f = λ s. f (m s).value (m s).state

-- one text and then the other
infixr 10 ◌>>◌
abbrev pub ◌>>◌ : Drawing (List ℕ) → Drawing (List ℕ) → Drawing (List ℕ)
m >> n = λ s. record { value = (m s).value ++ (n (m s).state).value; state = (n (m s).state).state }
