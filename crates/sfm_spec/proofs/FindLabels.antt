-- At any bases there are distances and least steps. Of what falls by at most one along each step
-- and is 0 at the last places, a place that no step leads from to a lesser number, and that is no
-- last one, is raised by one, until there is none: that is the distance. The least step of a place
-- is then found by trying each.
use Rattle.std.proofs.Common.{◌≡◌, ◌≢◌, ◌⊎◌, ℕ, zero, suc, ◌+◌, ◌*◌, ◌<◌, ◌≤◌, Bool, false, List, length, get_or, ℤ, pos, ◌≤ℤ◌, refl, sym, ap, ◌∙◌, arith, inl, inr, ⊎_elim}
use Rattle.std.proofs.Math.Nat.{mul-le-mul_left}
use Rattle.std.proofs.lemmas.Bool.{both_ways, cases_lt, cases_eq}
use Rattle.sfm_spec.specs.Sets.{Has}
use Rattle.sfm_spec.specs.Terms.{times, IsFamily, IsSubmodular, IsBase, HasRoom}
use Rattle.sfm_spec.specs.Families.{Meaning, IsTerm, AreTerms, AreBases}
use Rattle.sfm_spec.specs.Walks.{Step, term_at, base_at, IsStep}
use Rattle.sfm_spec.specs.Labels.{AreDistances, AreLabels, step_code}
use Rattle.sfm_spec.specs.Progress.{sum_below}
use Rattle.sfm_spec.proofs.Scaled.{family-times, submodular-times}
use Rattle.sfm_spec.proofs.Tight.{TightSet, room_or_split, tight_closed}
use Rattle.sfm_spec.proofs.Walks.{terms-at, bases-at, each_or, step_below}
use Rattle.sfm_spec.proofs.Changed.{changed, changed-here, each_changed}
use Rattle.sfm_spec.proofs.Counts.{few_values, sum_below-lt, sum_below-bound}

-- of the numbers below k the first that fulfils P, or none does
first_or_none : (k : ℕ) (P : ℕ → Type 0) → ((j : ℕ) → j < k → P j ⊎ (P j → ⊥))
    → ((c : ℕ) × (c < k) × P c × ((j : ℕ) → j < c → P j → ⊥)) ⊎ ((j : ℕ) → j < k → P j → ⊥)
first_or_none zero P test = inr (λ j l p. omega arith)
first_or_none (suc k) P test = at (first_or_none k P (λ j l. test j (omega (arith, l))))
    (test k (omega arith)) where
      at : ((c : ℕ) × (c < k) × P c × ((j : ℕ) → j < c → P j → ⊥)) ⊎ ((j : ℕ) → j < k → P j → ⊥)
          → P k
          ⊎ (P k → ⊥) → ((c : ℕ) × (c < suc k) × P c × ((j : ℕ) → j < c → P j → ⊥))
          ⊎ ((j : ℕ) → j < suc k → P j → ⊥)
      at (inl (c, l, p, before)) o = inl (c, omega (arith, l), p, before)
      at (inr none) (inl p) = inl (k, omega arith, p, none)
      at (inr none) (inr not) = inr (λ j l p. ⊎_elim (λ less. none j less p)
          (λ ge. let e : j ≡ k = omega (arith, ge, l) in not (rw e at p)) (cases_lt j k))

module _ (terms : List Meaning) (rows : List (List ℤ)) (n : ℕ) (q : ℤ) (low : pos 0 ≤ℤ q)
    (fit : AreTerms n terms) (bases : AreBases q terms rows) where
  -- a step is one or it is none
  step_or_not : (from : ℕ) (step : Step) → IsStep terms q rows from step
      ⊎ (IsStep terms q rows from step → ⊥)
  step_or_not from step = by_term (cases_lt step.term (length terms)) where
    t : Meaning
    t = term_at terms step.term

    Place : ℕ → Type 0
    Place e = (u : ℕ) × (u < length t.places) × (get_or t.places u 0 ≡ e)

    place_or_none : (e : ℕ) → Place e
        ⊎ ((u : ℕ) → u < length t.places → get_or t.places u 0 ≡ e → ⊥)
    place_or_none e = ⊎_elim (λ (u, lu, is, before). inl (u, lu, is)) (λ none. inr none)
        (first_or_none (length t.places) (λ u. get_or t.places u 0 ≡ e)
        (λ u lu. cases_eq (get_or t.places u 0) e))

    by_term : (step.term < length terms) ⊎ (length terms ≤ step.term)
        → IsStep terms q rows from step ⊎ (IsStep terms q rows from step → ⊥)
    by_term (inr past) = inr (λ h. let l = h.2.in_range in omega (arith, l, past))
    by_term (inl li) = by_places (place_or_none from) (place_or_none step.to) where
      l : IsTerm n t
      l = terms-at n terms step.term fit li

      b : (length (base_at rows step.term) ≡ length t.places)
          × IsBase (times q t.value) (base_at rows step.term)
      b = bases-at q terms rows step.term bases li

      family : IsFamily (length t.places) (times q t.value)
      family = family-times (length t.places) q t.value l.family

      law : IsSubmodular (length t.places) (times q t.value)
      law = submodular-times (length t.places) q t.value low l.submodular

      by_room : (u v : ℕ) → u < length t.places → v < length t.places → get_or t.places u 0 ≡ from
          → get_or t.places v 0 ≡ step.to → u ≢ v
          → HasRoom (times q t.value) (base_at rows step.term) u v
          ⊎ ((r : List Bool) × TightSet family law b.0 b.1 r × Has r u
          × (get_or r v false ≡ false)) → IsStep terms q rows from step
          ⊎ (IsStep terms q rows from step → ⊥)
      by_room u v lu lv begins ends ne (inl (a, least, moved)) =
          inl (
            a,
            least,
            record {
              in_range = li;
              u = u;
              v = v;
              u_in = lu;
              v_in = lv;
              begins = begins;
              ends = ends;
              apart = ne;
              base = moved;
            },
          )
      by_room u v lu lv begins ends ne (inr (r, tight, ru, rv)) = inr (λ (a, least, c).
          let eu : c.u ≡ u = l.placed.distinct c.u u c.u_in lu (c.begins ∙ sym begins) in
          let ev : c.v ≡ v = l.placed.distinct c.v v c.v_in lv (c.ends ∙ sym ends) in
          both_ways (get_or r v false) rv
          (tight_closed family law b.0 b.1 r u v tight lu lv ne ru
          (a, least, rw (eu, ev) at c.base)))

      by_places : Place from ⊎ ((u : ℕ) → u < length t.places → get_or t.places u 0 ≡ from → ⊥)
          → Place step.to ⊎ ((v : ℕ) → v < length t.places → get_or t.places v 0 ≡ step.to → ⊥)
          → IsStep terms q rows from step ⊎ (IsStep terms q rows from step → ⊥)
      by_places (inr none) o = inr (λ h. none h.2.u h.2.u_in h.2.begins)
      by_places (inl p) (inr none) = inr (λ h. none h.2.v h.2.v_in h.2.ends)
      by_places (inl (u, lu, begins)) (inl (v, lv, ends)) = apart (cases_eq u v) where
        apart : (u ≡ v) ⊎ (u ≢ v) → IsStep terms q rows from step
            ⊎ (IsStep terms q rows from step → ⊥)
        apart (inr ne) = by_room u v lu lv begins ends ne
            (room_or_split family law b.0 b.1 u v lu lv ne)
        apart (inl e) = inr (λ h.
            let c = h.2 in
            let eu : c.u ≡ u = l.placed.distinct c.u u c.u_in lu (c.begins ∙ sym begins) in
            let ev : c.v ≡ v = l.placed.distinct c.v v c.v_in lv (c.ends ∙ sym ends) in
            c.apart (eu ∙ (e ∙ sym ev)))

  -- ---- the least step that lowers d

  module _ (d : ℕ → ℕ) where
    abbrev Lowers : ℕ → Step → Type 0
    Lowers from step = IsStep terms q rows from step × (d from ≡ d step.to + 1)

    lowers_or_not : (from : ℕ) (step : Step) → Lowers from step ⊎ (Lowers from step → ⊥)
    lowers_or_not from step = at (step_or_not from step) (cases_eq (d from) (d step.to + 1)) where
      at : IsStep terms q rows from step ⊎ (IsStep terms q rows from step → ⊥)
          → (d from ≡ d step.to + 1) ⊎ (d from ≢ d step.to + 1) → Lowers from step
          ⊎ (Lowers from step → ⊥)
      at (inl h) (inl f) = inl (h, f)
      at (inl h) (inr nf) = inr (λ k. nf k.1)
      at (inr nh) o = inr (λ k. nh k.0)

    abbrev Least : ℕ → Type 0
    Least from = (step : Step) × Lowers from step
        × ((other : Step) → Lowers from other → step_code terms step ≤ step_code terms other)

    abbrev NoneLowers : ℕ → Type 0
    NoneLowers from = (other : Step) → Lowers from other → ⊥

    -- the least step, or none
    least_or_none : (from : ℕ) → Least from ⊎ NoneLowers from
    least_or_none from = at (first_or_none n To (λ v lv. to_or_not v)) where
      m : ℕ
      m = length terms

      By : ℕ → ℕ → Type 0
      By v i = Lowers from (record { to = v; term = i })

      To : ℕ → Type 0
      To v = (i : ℕ) × (i < m) × By v i × ((j : ℕ) → j < i → By v j → ⊥)

      none_by : (v : ℕ) → ((i : ℕ) → i < m → By v i → ⊥) → To v → ⊥
      none_by v none (i, li, h, before) = none i li h

      to_or_not : (v : ℕ) → To v ⊎ (To v → ⊥)
      to_or_not v = ⊎_elim (λ h. inl h) (λ none. inr (none_by v none))
          (first_or_none m (By v) (λ i li. lowers_or_not from (record { to = v; term = i })))

      to_of : (other : Step) → Lowers from other → To other.to
      to_of other h = ⊎_elim (λ k. k) (λ none. absurd (none other.term h.0.2.in_range h))
          (first_or_none m (By other.to)
          (λ i li. lowers_or_not from (record { to = other.to; term = i })))

      at : ((v : ℕ) × (v < n) × To v × ((w : ℕ) → w < v → To w → ⊥)) ⊎ ((v : ℕ) → v < n → To v → ⊥)
          → Least from ⊎ NoneLowers from
      at (inr none) = inr (λ other h.
          none other.to (step_below terms rows n q low fit bases from other h.0) (to_of other h))
      at (inl (v, lv, (i, li, h, before), nearer)) =
          inl (record { to = v; term = i }, h, least) where
            least : (other : Step) → Lowers from other
                → step_code terms (record { to = v; term = i }) ≤ step_code terms other
            least other k = by (cases_lt other.to v) (cases_lt v other.to) where
              by : (other.to < v) ⊎ (v ≤ other.to) → (v < other.to) ⊎ (other.to ≤ v)
                  → step_code terms (record { to = v; term = i }) ≤ step_code terms other
              by (inl less) o = absurd (nearer other.to less (to_of other k))
              by (inr ge) (inl more) = let g = mul-le-mul_left m more in omega (arith, g, li)
              by (inr ge) (inr le) = by_term (cases_lt other.term i) where
                same : v ≡ other.to
                same = omega (arith, ge, le)

                by_term : (other.term < i) ⊎ (i ≤ other.term)
                    → step_code terms (record { to = v; term = i }) ≤ step_code terms other
                by_term (inl less) = absurd (before other.term less (rw same k))
                by_term (inr later) = let f = ap (λ z. z * m) same in omega (arith, f, later)

  -- ---- distances

  module _ (IsLast : ℕ → Type 0) (last_or_not : (e : ℕ) → IsLast e ⊎ (IsLast e → ⊥)) where
    record AreRaised (d : ℕ → ℕ) : Type 0 where
      pub lasts : (e : ℕ) → e < n → IsLast e → d e ≡ 0
      pub falls : (from : ℕ) (step : Step) → IsStep terms q rows from step → d from ≤ d step.to + 1
      pub bounded : (e : ℕ) → e < n → d e ≤ n + 1

    -- the number of a place is its distance
    abbrev IsFirm : (ℕ → ℕ) → ℕ → Type 0
    IsFirm d e = IsLast e ⊎ ((n < d e) ⊎ Least d e)

    -- it is not, and is raised
    abbrev Loose : (ℕ → ℕ) → Type 0
    Loose d = (e : ℕ) × (e < n) × (IsLast e → ⊥) × (d e ≤ n) × NoneLowers d e

    firm_or_loose : (d : ℕ → ℕ) → ((e : ℕ) → e < n → IsFirm d e) ⊎ Loose d
    firm_or_loose d = each_or n (IsFirm d) (Loose d)
        (λ e le. at e le (last_or_not e) (cases_lt n (d e)) (least_or_none d e)) where
          at : (e : ℕ) → e < n → IsLast e ⊎ (IsLast e → ⊥) → (n < d e) ⊎ (d e ≤ n) → Least d e
              ⊎ NoneLowers d e → IsFirm d e ⊎ Loose d
          at e le (inl last) o p = inl (inl last)
          at e le (inr not) (inl far) p = inl (inr (inl far))
          at e le (inr not) (inr near) (inl least) = inl (inr (inr least))
          at e le (inr not) (inr near) (inr none) = inr (e, le, not, near, none)

    raise_more : (d : ℕ → ℕ) → AreRaised d → Loose d → (d' : ℕ → ℕ) × AreRaised d'
        × (sum_below n d < sum_below n d')
    raise_more d h (e, le, not, near, none) = (
      d',
      record { lasts = lasts; falls = falls; bounded = bounded },
      sum_below-lt n d d' e (λ k lk. up k) le
          (let w = changed-here e (d e + 1) d in omega (arith, w)),
    ) where
      d' : ℕ → ℕ
      d' = changed e (d e + 1) d

      up : (k : ℕ) → d k ≤ d' k
      up = each_changed (λ k v. d k ≤ v) e (d e + 1) d (omega arith) (λ k ne. omega arith)

      lasts : (k : ℕ) → k < n → IsLast k → d' k ≡ 0
      lasts = each_changed (λ k v. k < n → IsLast k → v ≡ 0) e (d e + 1) d
          (λ lk last. absurd (not last)) (λ k ne. h.lasts k)

      bounded : (k : ℕ) → k < n → d' k ≤ n + 1
      bounded = each_changed (λ k v. k < n → v ≤ n + 1) e (d e + 1) d (λ lk. omega (arith, near))
          (λ k ne. h.bounded k)

      falls : (from : ℕ) (step : Step) → IsStep terms q rows from step → d' from ≤ d' step.to + 1
      falls = each_changed (λ k v. (step : Step) → IsStep terms q rows k step → v ≤ d' step.to + 1)
          e (d e + 1) d
          (λ step k. let u = up step.to in ⊎_elim (λ less. omega (arith, less, u))
          (λ ge. absurd (none step (k, let f = h.falls e step k in omega (arith, f, ge))))
          (cases_lt (d e) (d step.to + 1)))
          (λ from ne step k. let f = h.falls from step k in let u = up
          step.to in omega (arith, f, u))

    raise_all : (fuel : ℕ) (d : ℕ → ℕ) → AreRaised d → n * (n + 1) ≤ sum_below n d + fuel
        → (d' : ℕ → ℕ) × AreRaised d' × ((e : ℕ) → e < n → IsFirm d' e)
    raise_all zero d h enough = at (firm_or_loose d) where
      at : ((e : ℕ) → e < n → IsFirm d e) ⊎ Loose d → (d' : ℕ → ℕ) × AreRaised d'
          × ((e : ℕ) → e < n → IsFirm d' e)
      at (inl firm) = (d, h, firm)
      at (inr loose) =
          let (d', h', more) = raise_more d h loose in
          let b = sum_below-bound n d' (n + 1) h'.bounded in
          absurd (omega (arith, b, more, enough))
    raise_all (suc fuel) d h enough = at (raise_all fuel) (firm_or_loose d) where
      at : ((d : ℕ → ℕ) → AreRaised d → n * (n + 1) ≤ sum_below n d + fuel → (d' : ℕ → ℕ)
          × AreRaised d' × ((e : ℕ) → e < n → IsFirm d' e)) → ((e : ℕ) → e < n → IsFirm d e)
          ⊎ Loose d
          → (d' : ℕ → ℕ) × AreRaised d' × ((e : ℕ) → e < n → IsFirm d' e)
      at next (inl firm) = (d, h, firm)
      at next (inr loose) =
          let (d', h', more) = raise_more d h loose in
          next d' h' (omega (arith, more, enough))

    module _ (d : ℕ → ℕ) (h : AreRaised d) (firm : (e : ℕ) → e < n → IsFirm d e) where
      lowered : (e : ℕ) → e < n → 1 ≤ d e → d e ≤ n → Least d e
      lowered e le some near = at (firm e le) where
        at : IsFirm d e → Least d e
        at (inl last) = let z = h.lasts e le last in absurd (omega (arith, z, some))
        at (inr (inl far)) = absurd (omega (arith, far, near))
        at (inr (inr least)) = least

      -- each lesser number is that of some place
      each_below : (k e : ℕ) → e < n → d e ≡ k → k ≤ n → (j : ℕ) → j < k + 1 → (at : ℕ) × (at < n)
          × (d at ≡ j)
      each_below zero e le is kn j l = (e, le, omega (arith, is, l))
      each_below (suc k) e le is kn j l =
          at (cases_lt j (k + 1)) (each_below k)
          (lowered e le (omega (arith, is)) (omega (arith, is, kn))) where
            at : (j < k + 1) ⊎ (k + 1 ≤ j)
                → ((e : ℕ) → e < n → d e ≡ k → k ≤ n → (j : ℕ) → j < k + 1 → (at : ℕ) × (at < n)
                × (d at ≡ j)) → Least d e → (at : ℕ) × (at < n) × (d at ≡ j)
            at (inl less) next (step, low', least) =
                let f = low'.1 in next step.to
                (step_below terms rows n q low fit bases e step low'.0)
                (omega (arith, is, f)) (omega (arith, kn)) j less
            at (inr more) next least = (e, le, omega (arith, is, l, more))

      closed : (from : ℕ) (step : Step) → IsStep terms q rows from step → d step.to ≤ n → d from ≤ n
      closed from step k near = at (cases_lt n (d from)) where
        at : (n < d from) ⊎ (d from ≤ n) → d from ≤ n
        at (inr le) = le
        at (inl far) =
            let f = h.falls from step k in
            let is : d step.to ≡ n = omega (arith, f, far, near) in
            let many = few_values n (n + 1) d
            (each_below n step.to (step_below terms rows n q low fit bases from step k) is
            (omega arith)) in
            absurd (omega (arith, many))

      distances_are : AreDistances terms n q rows IsLast d
      distances_are = record {
        lasts = h.lasts;
        at_last = at_last;
        falls = h.falls;
        leads = λ e le some near. let (step, low', least) = lowered e le some
            near in (step, low'.0, low'.1);
        closed = closed;
        bounded = h.bounded;
      } where
        at_last : (e : ℕ) → e < n → d e ≡ 0 → IsLast e
        at_last e le is = at (firm e le) where
          at : IsFirm d e → IsLast e
          at (inl last) = last
          at (inr (inl far)) = absurd (omega (arith, far, is))
          at (inr (inr (step, low', least))) = let f = low'.1 in absurd (omega (arith, f, is))

      -- the code of the least step, or 0
      abbrev code_or_none : (e : ℕ) → Least d e ⊎ NoneLowers d e → ℕ
      code_or_none e (inl (step, low', least)) = step_code terms step
      code_or_none e (inr none) = 0

      abbrev label : ℕ → ℕ
      label e = code_or_none e (least_or_none d e)

      labels_are : AreLabels terms n q rows IsLast d label
      labels_are = record {
        distances = distances_are;
        best = λ e le some near. best e (least_or_none d e) (lowered e le some near);
        least = λ from step k f. least from step (k, f) (least_or_none d from);
        none = λ e le end. none e le end (least_or_none d e);
      } where
        best : (e : ℕ) (o : Least d e ⊎ NoneLowers d e) → Least d e → (step : Step)
            × IsStep terms q rows e step × (d e ≡ d step.to + 1)
            × (code_or_none e o ≡ step_code terms step)
        best e (inl (step, low', least)) there = (step, low'.0, low'.1, refl)
        best e (inr none) (step, low', least) = absurd (none step low')

        least : (from : ℕ) (step : Step) → Lowers d from step
            → (o : Least d from ⊎ NoneLowers d from) → code_or_none from o ≤ step_code terms step
        least from step k (inl (s, low', least')) = least' step k
        least from step k (inr none) = omega arith

        none : (e : ℕ) → e < n → (d e ≡ 0) ⊎ (d e ≡ n + 1) → (o : Least d e ⊎ NoneLowers d e)
            → code_or_none e o ≡ 0
        none e le end (inr none') = refl
        none e le (inl zero') (inl (step, low', least')) =
            let f = low'.1 in absurd (omega (arith, f, zero'))
        none e le (inr far) (inl (step, low', least')) =
            let f = low'.1 in
            let c = closed e step low'.0 (omega (arith, f, far)) in
            absurd (omega (arith, c, far))

    -- there are distances and least steps
    pub labels_exist : (d : ℕ → ℕ) × (l : ℕ → ℕ) × AreLabels terms n q rows IsLast d l
    labels_exist = at (raise_all (n * (n + 1)) (λ e. 0)
        (record {
          lasts = λ e le last. refl;
          falls = λ from step k. omega arith;
          bounded = λ e le. omega arith;
        }) (omega arith)) where
          at : (d' : ℕ → ℕ) × AreRaised d' × ((e : ℕ) → e < n → IsFirm d' e) → (d : ℕ → ℕ)
              × (l : ℕ → ℕ)
              × AreLabels terms n q rows IsLast d l
          at (d, h, firm) = (d, label d h firm, labels_are d h firm)
