-- Demands that change one after another: those that have changed so far, and what is left to
-- change.
use Rattle.std.proofs.Common.{◌≡◌, ℕ, ◌+◌, ◌<◌, ◌≤◌, List, [], ◌∷◌, length, get_or, drop, ℤ, pos, ◌+ℤ◌, refl, subst, ◌∙◌, length-set}
use Rattle.std.specs.List.{All}
use Rattle.std.proofs.lemmas.List.Elements.{All-set}
use Rattle.std.proofs.lemmas.List.{drop_more, drop_all}
use Rattle.sfm_cells.specs.Splits.{amount_at, IsAmount}
use Rattle.sfm_split.specs.Changes.{with_change, changed, AreChanges}
use Rattle.sfm_split.specs.declared.lower.Change.{Change}

-- the demands now, of which the changes from the k-th on lead to what all lead to
pub record AreToCome (changes : List Change) (k : ℕ) (demands now : List ℤ) : Type 0 where
  pub rest : AreChanges (drop k changes) now
  pub same : changed (drop k changes) now ≡ changed changes demands

-- the k-th change
abbrev pub change_at : List Change → ℕ → Change
change_at changes k = get_or changes k (record { k = 0; more = pos 0 })

pub next : (changes : List Change) (k : ℕ) (demands now : List ℤ) → k < length changes
    → AreToCome changes k demands now
    → let c = change_at changes k in (c.k < length now) × IsAmount (amount_at now c.k +ℤ c.more)
    × AreToCome changes (k + 1) demands (with_change c now)
next changes k demands now lt h =
    let e = drop_more changes k (record { k = 0; more = pos 0 }) lt in
    let (place, amount, rest) = subst (λ cs. AreChanges cs now) e h.rest in
    let same = subst (λ cs. changed cs now ≡ changed changes demands) e h.same in
    (place, amount, record { rest = rest; same = same })

pub all_changed : (changes : List Change) (k : ℕ) (demands now : List ℤ) → length changes ≤ k
    → AreToCome changes k demands now → now ≡ changed changes demands
all_changed changes k demands now le h =
    subst (λ cs. changed cs now ≡ changed changes demands) (drop_all k changes le) h.same

pub length-changed : (changes : List Change) (demands : List ℤ)
    → length (changed changes demands) ≡ length demands
length-changed [] demands = refl
length-changed (c ∷ changes) demands = length-changed changes (with_change c demands)
    ∙ length-set demands c.k (amount_at demands c.k +ℤ c.more)

pub changed_amounts : (changes : List Change) (demands : List ℤ) → AreChanges changes demands
    → All IsAmount demands → All IsAmount (changed changes demands)
changed_amounts [] demands h all = all
changed_amounts (c ∷ changes) demands (place, amount, rest) all =
    changed_amounts changes (with_change c demands) rest
    (All-set IsAmount demands c.k (amount_at demands c.k +ℤ c.more) amount all)
