-- The least of what is left and the groups that hold, one group after another; and the first
-- crossing is one.
use Rattle.std.proofs.Common.{◌≡◌, ◌⊎◌, ℕ, ◌+◌, ◌<◌, ◌≤◌, Bool, List, length, get_or, ℤ, pos, ◌-ℤ◌, ◌*ℤ◌, ◌≤ℤ◌, refl, sym, ◌∙◌, arith, inl, inr, ⊎_elim}
use Rattle.std.specs.List.{Contains}
use Rattle.std.specs.Int.{int_min}
use Rattle.std.proofs.lemmas.Bool.{cases_lt}
use Rattle.std.proofs.lemmas.Int.{ints, clamps, by_lt_z}
use Rattle.sfm_spec.specs.Sets.{intersection}
use Rattle.sfm_spec.specs.Kinds.{Group}
use Rattle.sfm_spec.proofs.Sets.{in_both, in_first, in_second}
use Rattle.sfm_spec.proofs.Sums.{length-intersection}
use Rattle.sfm_laminar.specs.Crossing.{no_group, group_at}
use Rattle.sfm_laminar.specs.Groups.{AreGroups, IsFirstCrossing}
use Rattle.sfm_laminar.specs.Indexes.{AreHoldersOf}
use Rattle.sfm_laminar.specs.Masks.{mask, length-mask}
use Rattle.sfm_laminar.specs.Ranks.{contains-mask, mask-contains}
use Rattle.sfm_laminar.specs.Rooms.{slack_of, Splits, IsLeast, IsHeld, IsHeldAt, IsKept}
use Rattle.sfm_laminar.proofs.Holders.{AreHolders, number_of, holder_at}

one_of : (r a b : ℤ) → r ≡ int_min a b → (r ≡ a) ⊎ (r ≡ b)
one_of r a b e = by_lt_z a b (λ less. inl (omega (arith, ints, clamps, e, less)))
    (λ more. inr (omega (arith, ints, clamps, e, more)))

pub least_first : (q w : ℤ) (groups : List Group) (x : List ℤ) (u v : ℕ) (a : ℤ)
    → a ≡ int_min (get_or x v (pos 0)) ((q *ℤ w) -ℤ get_or x u (pos 0))
    → IsLeast q w groups x u v 0 a
least_first q w groups x u v a e = record {
  onto = omega (arith, ints, clamps, e);
  from = omega (arith, ints, clamps, e);
  left = λ i h. absurd (omega arith);
  reached = ⊎_elim (λ o. inl o) (λ f. inr (inl f))
      (one_of a (get_or x v (pos 0)) ((q *ℤ w) -ℤ get_or x u (pos 0)) e);
}

-- what v has, what u lacks of q·w, and what each of the groups with the first n of some numbers
-- lacks that has not v: the least
pub record IsLeastBy (q w : ℤ) (groups : List Group) (x : List ℤ) (es : List ℕ) (u v n : ℕ)
    (a : ℤ) : Type 0 where
  pub onto : a ≤ℤ get_or x v (pos 0)
  pub from : a ≤ℤ ((q *ℤ w) -ℤ get_or x u (pos 0))
  pub left : (p : ℕ) → p < n → (Contains (group_at groups (get_or es p 0)).members v → ⊥)
      → a ≤ℤ slack_of q w x (group_at groups (get_or es p 0))
  pub reached : (a ≡ get_or x v (pos 0))
      ⊎ ((a ≡ ((q *ℤ w) -ℤ get_or x u (pos 0)))
      ⊎ ((i : ℕ) × (i < length groups) × Splits (group_at groups i) u v
      × (a ≡ slack_of q w x (group_at groups i))))

pub least_begin : (q w : ℤ) (groups : List Group) (x : List ℤ) (es : List ℕ) (u v : ℕ) (a : ℤ)
    → IsLeast q w groups x u v 0 a → IsLeastBy q w groups x es u v 0 a
least_begin q w groups x es u v a h =
    record {
      onto = h.onto;
      from = h.from;
      left = λ p lt. absurd (omega arith);
      reached = h.reached;
    }

pub least_with : (q w : ℤ) (groups : List Group) (x : List ℤ) (es : List ℕ) (u v n : ℕ) (a b r : ℤ)
    → IsLeastBy q w groups x es u v n a → get_or es n 0 < length groups
    → Splits (group_at groups (get_or es n 0)) u v
    → b ≡ slack_of q w x (group_at groups (get_or es n 0)) → r ≡ int_min a b
    → IsLeastBy q w groups x es u v (n + 1) r
least_with q w groups x es u v n a b r h lt splits e m = record {
  onto = (let k = h.onto in omega (arith, ints, clamps, k, m));
  from = (let k = h.from in omega (arith, ints, clamps, k, m));
  left = λ p lp never. ⊎_elim
      (λ l. let k = h.left p l never in omega (arith, ints, clamps, k, m))
      (λ (ge : n ≤ p). let same : p ≡ n = omega arith in rw same
      (omega (arith, ints, clamps, e, m)))
      (cases_lt p n);
  reached = ⊎_elim
      (λ old. ⊎_elim (λ o. inl (old ∙ o))
      (λ rest. ⊎_elim (λ f. inr (inl (old ∙ f)))
      (λ (i, li, s, k). inr (inr (i, li, s, old ∙ k))) rest) h.reached)
      (λ new. inr (inr (get_or es n 0, lt, splits, new ∙ e)))
      (one_of r a b m);
}

pub least_without : (q w : ℤ) (groups : List Group) (x : List ℤ) (es : List ℕ) (u v n : ℕ) (a : ℤ)
    → IsLeastBy q w groups x es u v n a → Contains (group_at groups (get_or es n 0)).members v
    → IsLeastBy q w groups x es u v (n + 1) a
least_without q w groups x es u v n a h has = record {
  onto = h.onto;
  from = h.from;
  left = λ p lp never. ⊎_elim
      (λ l. h.left p l never)
      (λ (ge : n ≤ p). let same : p ≡ n = omega arith in absurd ((rw same at never) has))
      (cases_lt p n);
  reached = h.reached;
}

pub least_all : (q w : ℤ) (groups : List Group) (x : List ℤ) (es : List ℕ) (u v n : ℕ) (a : ℤ)
    → IsLeastBy q w groups x es u v n a → length es ≤ n → AreHolders groups (length groups) u es
    → IsLeast q w groups x u v (length groups) a
least_all q w groups x es u v n a h le index = record {
  onto = h.onto;
  from = h.from;
  left = λ i li (has, never). let (p, lp, is) = number_of groups es u i index li has in rw (← is)
      (h.left p (omega arith) (rw (← is) at never));
  reached = h.reached;
}

-- those of the groups with the first n of some numbers that lack nothing have v
abbrev pub IsHeldBy : ℤ → ℤ → List Group → List ℤ → List ℕ → ℕ → ℕ → Type 0
IsHeldBy q w groups x es n v = (p : ℕ) → p < n → IsHeldAt q w groups x (get_or es p 0) v

module _ (q w : ℤ) (groups : List Group) (x : List ℤ) where
  pub kept_begin : (es : List ℕ) (to : List Bool) → IsKept to to (IsHeldBy q w groups x es 0)
  kept_begin es to = record {
    places = refl;
    exact = λ v lt. ((λ h. (h, λ p lp. absurd (omega arith))), (λ (h, all). h));
  }

  pub kept_next : (es : List ℕ) (n : ℕ) (a b c : List Bool)
      → IsKept a b (IsHeldBy q w groups x es n) → IsKept b c (IsHeldAt q w groups x (get_or es n 0))
      → IsKept a c (IsHeldBy q w groups x es (n + 1))
  kept_next es n a b c h k = record {
    places = k.places ∙ h.places;
    exact = λ v lt.
        let f = h.exact v lt in
        let g = k.exact v (omega (arith, lt, h.places)) in (
          (λ has. let l = g.0 has in let m = f.0
              l.0 in (
                m.0,
                λ p lp. ⊎_elim (λ l. m.1 p l)
                    (λ (ge : n ≤ p). let same : p ≡ n = omega arith in rw same l.1) (cases_lt p n),
              )),
          (λ (has, held). g.1 (f.1 (has, λ p lp. held p (omega arith)), held n (omega arith))),
        );
  }

  pub kept_all : (es : List ℕ) (u n : ℕ) (a b : List Bool) → n ≡ length es
      → AreHoldersOf groups u es → IsKept a b (IsHeldBy q w groups x es n)
      → IsKept a b (IsHeld q w groups x u (length groups))
  kept_all es u n a b all index h = record {
    places = h.places;
    exact = λ v lt. let f = h.exact v lt in (
      (λ has. let l = f.0 has in (
        l.0,
        λ i li here none. let (p, lp, is) = number_of groups es u i index.exact li
            here in rw (← is) (l.1 p (omega (arith, all)) (rw (← is) at none)),
      )),
      (λ (has, held). f.1 (
        has,
        λ p lp none. let i = holder_at groups es u p index.exact
            (omega (arith, all)) in held (get_or es p 0) i.0 i.1 none,
      )),
    );
  }

  pub kept_free : (i : ℕ) (to : List Bool) → (slack_of q w x (group_at groups i) ≡ pos 0 → ⊥)
      → IsKept to to (IsHeldAt q w groups x i)
  kept_free i to never = record {
    places = refl;
    exact = λ v lt. ((λ h. (h, λ none. absurd (never none))), (λ (h, held). h));
  }

  pub kept_full : (k i : ℕ) (to : List Bool) → AreGroups k groups → i < length groups
      → length to ≡ k → slack_of q w x (group_at groups i) ≡ pos 0
      → IsKept to (intersection to (mask k (group_at groups i).members)) (IsHeldAt q w groups x i)
  kept_full k i to ok lt sized full =
      let g = group_at groups i in
      let m = mask k g.members in
      let same = sized ∙ sym (length-mask k g.members) in
      record {
        places = length-intersection to m same;
        exact = λ v lv. (
          (λ h. (in_first to m v same h, λ none. mask-contains k g v (in_second to m v same h))),
          (λ (h, held). in_both to m v same h
              (contains-mask k g v (ok.below i no_group lt) (held full))),
        );
      }

pub first_once : (groups : List Group) (i j a b : ℕ) → IsFirstCrossing groups i j
    → IsFirstCrossing groups a b → (i ≡ a) × (j ≡ b)
first_once groups i j a b h k = (
  ⊎_elim (λ (l : i < a). absurd (k.least_first i l (rw seconds at h.crossing)))
      (λ (ge : a ≤ i). ⊎_elim (λ (l : a < i).
      absurd (h.least_first a l (rw (← seconds) at k.crossing))) (λ (le : i ≤ a). omega arith)
      (cases_lt a i)) (cases_lt i a),
  seconds,
) where
  seconds : j ≡ b
  seconds = ⊎_elim (λ (l : j < b). absurd (k.least_second i j l h.crossing))
      (λ (ge : b ≤ j). ⊎_elim (λ (l : b < j). absurd (h.least_second a b l k.crossing))
      (λ (le : j ≤ b). omega arith) (cases_lt b j)) (cases_lt j b)
