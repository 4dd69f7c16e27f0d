-- Tokens of which the first are kept, to tell whether one stands twice: among those, or among those
-- and behind them, or behind them alone.
use Rattle.std.proofs.Common.{◌≡◌, ℕ, zero, suc, ◌+◌, ◌-◌, ◌<◌, ◌≤◌, Bool, true, false, List, [], ◌∷◌, ◌++◌, length, get_or, map, Bor, Contains, MatchBool, nat_eq, sym, ap, ◌∙◌, length-append, arith}
use Rattle.std.specs.List.{All, Any, list_any}
use Rattle.std.specs.Cmp.Lexicographic.{pointwise}
use Rattle.std.proofs.lemmas.Bool.{cases_lt}
use Rattle.std.proofs.lemmas.List.{get_or_append_left, get_or-append-add}
use mathlib.Core.Logic.{⊎_elim}
use Rattle.sfm_kind.proofs.Keys.{new_where_none}
use Rattle.sfm_lines.specs.TermLines.{StandsTwice}
use Rattle.sfm_lines.proofs.Repeats.{twice-at, twice-same, twice-more, found-among}

-- whether a key is found tells whether the text is among the keys
pub found-or-not : (keys : List (Bor (List ℕ))) (text : List ℕ) (b : Bool)
    → b ≡ list_any (λ y. pointwise nat_eq text y.now) keys
    → MatchBool b (Contains (map (λ k. k.now) keys) text)
    (Contains (map (λ k. k.now) keys) text → ⊥)
found-or-not keys text true is = found-among keys text (sym is)
found-or-not keys text false is = λ (k, lt, e). new_where_none (λ (t : Bor (List ℕ)). t.now) text
    keys (sym is) k text lt e

-- one alone does not
pub one-once : (text : List ℕ) → StandsTwice (text ∷ []) → ⊥
one-once text t = absurd (omega (arith, t.2, t.3))

module _ {X : Type 0} where
  pub twice-rest : (kept rest : List X) → StandsTwice rest → StandsTwice (kept ++ rest)
  twice-rest [] rest t = t
  twice-rest (x ∷ kept) rest t = twice-more x (kept ++ rest) (twice-rest kept rest t)

  -- one of those behind is among those before
  pub twice-both : (kept rest : List X) → Any (Contains kept) rest → StandsTwice (kept ++ rest)
  twice-both kept rest (k, x, lt, at, (j, within, here)) =
      let len = length-append kept rest in
      twice-at (kept ++ rest) j (length kept + k) x (omega (arith, within)) (omega (arith, lt, len))
      (get_or_append_left kept rest x j within
      ∙ (here ∙ sym (get_or-append-add kept rest k x ∙ at)))

  -- none is
  once-tail : (x : X) (kept : List X) → (StandsTwice (x ∷ kept) → ⊥) → StandsTwice kept → ⊥
  once-tail x kept once t = once (twice-more x kept t)

  none-tail : (x : X) (kept rest : List X) → All (λ y. Contains (x ∷ kept) y → ⊥) rest
      → All (λ y. Contains kept y → ⊥) rest
  none-tail x kept rest none = λ k d lt (j, within, here).
      none k d lt (suc j, omega (arith, within), here)

  first-apart : (x : X) (kept rest : List X) (j : ℕ) → j < length (kept ++ rest)
      → x ≡ get_or (kept ++ rest) j x → (StandsTwice (x ∷ kept) → ⊥)
      → All (λ y. Contains (x ∷ kept) y → ⊥) rest → ⊥
  first-apart x kept rest j within e once none = ⊎_elim
      (λ (lt : j < length kept). once
      (twice-at (x ∷ kept) 0 (suc j) x (omega arith) (omega (arith, lt))
      (e ∙ get_or_append_left kept rest x j lt)))
      (λ (ge : length kept ≤ j).
      let here : length kept + (j - length kept) ≡ j = omega (arith, ge) in
      let lt : j - length kept < length rest = omega (arith, ge, within, length-append kept rest) in
      let same : get_or rest (j - length kept) x ≡ x = sym
      (get_or-append-add kept rest (j - length kept) x)
      ∙ (ap (λ (n : ℕ). get_or (kept ++ rest) n x) here ∙ sym e) in
      none (j - length kept) x lt (0, omega arith, sym same))
      (cases_lt j (length kept))

  pub twice-behind-kept : (kept rest : List X) → (StandsTwice kept → ⊥)
      → All (λ y. Contains kept y → ⊥) rest → StandsTwice (kept ++ rest) → StandsTwice rest
  twice-behind-kept [] rest once none t = t
  twice-behind-kept (x ∷ kept) rest once none t =
      twice-behind-kept kept rest (once-tail x kept once) (none-tail x kept rest none)
      (tail t.0 t.1 t.2 t.3 (twice-same (x ∷ (kept ++ rest)) x t))
    where
      tail : (i j : ℕ) → i < j → j < length (x ∷ (kept ++ rest))
          → get_or (x ∷ (kept ++ rest)) i x ≡ get_or (x ∷ (kept ++ rest)) j x
          → StandsTwice (kept ++ rest)
      tail i zero lt within e = absurd (omega (arith, lt))
      tail zero (suc j) lt within e =
          absurd (first-apart x kept rest j (omega (arith, within)) e once none)
      tail (suc i) (suc j) lt within e =
          twice-at (kept ++ rest) i j x (omega (arith, lt)) (omega (arith, within)) e
