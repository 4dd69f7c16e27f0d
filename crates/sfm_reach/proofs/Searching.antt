-- A search along links, one place after the other: links that rows tell, or the arcs of the graph.
use Rattle.std.proofs.Common.{◌≡◌, ◌≢◌, ⊎_elim, ℕ, ◌+◌, ◌*◌, ◌-◌, ◌<◌, ◌≤◌, Bool, List, length, ℤ, subst, ◌↔◌, arith}
use Rattle.std.proofs.lemmas.Bool.{cases_eq}
use Rattle.sfm_spec.specs.Sets.{Has}
use Rattle.sfm_spec.specs.Progress.{sum_below}
use Rattle.sfm_spec.specs.Families.{Meaning}
use Rattle.sfm_spec.proofs.Counts.{sum_below-lt}
use Rattle.sfm_reach.specs.declared.bits.Bits.{Bits}
use Rattle.sfm_reach.specs.Bits.{bit_in, set_at}
use Rattle.sfm_reach.specs.Reached.{AreReached, AreWalked, IsTakenIn}
use Rattle.sfm_reach.specs.Unions.{IsArc}
use Rattle.sfm_reach.proofs.Words.{bit_in-lt}

-- the links that rows tell
abbrev pub IsLink : List Bits → ℕ → ℕ → Type 0
IsLink unions e t = bit_in (set_at unions e) t ≡ 1

-- the places of n found so far, and those of them that are still to be looked at
pub record IsSearching (n : ℕ) (Link : ℕ → ℕ → Type 0) (firsts found ahead : Bits) : Type 0 where
  pub below : (e : ℕ) → bit_in found e ≡ 1 → e < n
  pub begins : (e : ℕ) → bit_in firsts e ≡ 1 → bit_in found e ≡ 1
  pub inside : (e : ℕ) → bit_in ahead e ≤ bit_in found e
  pub looked : (e t : ℕ) → bit_in found e ≡ 1 → bit_in ahead e ≡ 0 → Link e t → bit_in found t ≡ 1
  pub least : (s : List Bool) → ((e : ℕ) → bit_in firsts e ≡ 1 → Has s e)
      → ((e t : ℕ) → Has s e → Link e t → Has s t) → (e : ℕ) → bit_in found e ≡ 1 → Has s e

-- what is left to do: two for each place that is not found, and one for each that is still to be
-- looked at
abbrev pub work : Bits → Bits → ℕ → ℕ
work found ahead e = 2 * (1 - bit_in found e) + bit_in ahead e

-- the first places are found, and none is looked at
pub search_begun : (n : ℕ) (Link : ℕ → ℕ → Type 0) (firsts : Bits)
    → ((e : ℕ) → bit_in firsts e ≡ 1 → e < n) → IsSearching n Link firsts firsts firsts
search_begun n Link firsts below = record {
  below = below;
  begins = λ e h. h;
  inside = λ e. omega arith;
  looked = λ e t has none link. absurd (omega (arith, has, none));
  least = λ s begins steps e h. begins e h;
}

-- a place that is still to be looked at is one of the ground
pub ahead_below : (n : ℕ) (Link : ℕ → ℕ → Type 0) (firsts found ahead : Bits)
    → IsSearching n Link firsts found ahead → (e : ℕ) → bit_in ahead e ≡ 1 → e < n
ahead_below n Link firsts found ahead h e one =
    h.below e (let i = h.inside e in let l = bit_in-lt found e in omega (arith, i, l, one))

-- all are looked at: no link leads out
search_closed : (n : ℕ) (Link : ℕ → ℕ → Type 0) (firsts found ahead : Bits)
    → IsSearching n Link firsts found ahead → ((e : ℕ) → bit_in ahead e ≢ 1) → (e t : ℕ)
    → bit_in found e ≡ 1 → Link e t → bit_in found t ≡ 1
search_closed n Link firsts found ahead h none e t has link =
    h.looked e t has (let l = bit_in-lt ahead e in ⊎_elim (λ one. absurd (none e one))
    (λ ne. omega (arith, l, ne)) (cases_eq (bit_in ahead e) 1)) link

-- along the links that rows tell
pub search_done : (unions : List Bits) (firsts found ahead : Bits)
    → IsSearching (length unions) (IsLink unions) firsts found ahead
    → ((e : ℕ) → bit_in ahead e ≢ 1) → AreReached unions firsts found
search_done unions firsts found ahead h none = record {
  below = h.below;
  begins = h.begins;
  closed = λ e t has bit. search_closed (length unions) (IsLink unions) firsts found ahead h none e
      t has bit;
  least = h.least;
}

-- and along arcs
pub walks_done : (terms : List Meaning) (n : ℕ) (q : ℤ) (bases : List (List ℤ))
    (firsts found ahead : Bits) → IsSearching n (IsArc terms q bases) firsts found ahead
    → ((e : ℕ) → bit_in ahead e ≢ 1) → AreWalked terms n q bases firsts found
walks_done terms n q bases firsts found ahead h none = record {
  below = h.below;
  begins = h.begins;
  closed = λ from step is has. search_closed n (IsArc terms q bases) firsts found ahead h none from
      step.to has (step.term, is);
  least = λ s begins closed e one.
      h.least s begins (λ from to has (i, is). closed from (record { to = to; term = i }) is has) e
      one;
}

-- one place more is looked at: what its row has is taken in
pub record IsLook (n : ℕ) (Link : ℕ → ℕ → Type 0) (firsts found ahead : Bits) (p : ℕ)
    (row rest found' ahead' : Bits) : Type 0 where
  pub so_far : IsSearching n Link firsts found ahead
  pub chosen : bit_in ahead p ≡ 1
  pub tells : (t : ℕ) → (bit_in row t ≡ 1) ↔ Link p t
  pub links : (t : ℕ) → Link p t → t < n
  pub out : bit_in rest p ≡ 0
  pub others : (e : ℕ) → e ≢ p → bit_in rest e ≡ bit_in ahead e
  pub taken : IsTakenIn row found rest found' ahead'

module _ {n : ℕ} {Link : ℕ → ℕ → Type 0} {firsts found ahead : Bits} {p : ℕ}
    {row rest found' ahead' : Bits}
    (k : IsLook n Link firsts found ahead p row rest found' ahead') where
  has : bit_in found p ≡ 1
  has = let i = k.so_far.inside p in let l = bit_in-lt found
      p in let is = k.chosen in omega (arith, i, l, is)

  new_or_old : (e : ℕ) → bit_in found' e ≡ 1 → bit_in found e ≢ 1 → Link p e
  new_or_old e one old = (k.tells e).0
      (let g = k.taken.grown e in let l = bit_in-lt row e in let lf = bit_in-lt found
      e in omega (arith, one, old, g, l, lf))

  kept : (e : ℕ) → bit_in found e ≡ 1 → bit_in found' e ≡ 1
  kept e one = let g = k.taken.grown e in let l = bit_in-lt row e in omega (arith, one, g, l)

  pub search_more : IsSearching n Link firsts found' ahead'
  search_more = record {
    below = λ e one. ⊎_elim (λ old. k.so_far.below e old) (λ ne. k.links e (new_or_old e one ne))
        (cases_eq (bit_in found e) 1);
    begins = λ e one. kept e (k.so_far.begins e one);
    inside = λ e. let g = k.taken.grown e in let n = k.taken.next e in ⊎_elim
        (λ same. let o : bit_in rest e ≡ 0 = rw same k.out in omega (arith, g, n, o))
        (λ ne. let o = k.others e ne in let i = k.so_far.inside e in omega (arith, g, n, o, i))
        (cases_eq e p);
    looked = looked;
    least = λ s begins steps e one. ⊎_elim (λ old. k.so_far.least s begins steps e old)
        (λ ne. steps p e (k.so_far.least s begins steps p has) (new_or_old e one ne))
        (cases_eq (bit_in found e) 1);
  } where
    looked : (e t : ℕ) → bit_in found' e ≡ 1 → bit_in ahead' e ≡ 0 → Link e t → bit_in found' t ≡ 1
    looked e t one none link = ⊎_elim
        (λ same. let l : Link p t = subst (λ z. Link z t) same link in let b = (k.tells t).1
        l in let g = k.taken.grown t in let l = bit_in-lt found t in omega (arith, b, g, l))
        (λ ne.
        let n = k.taken.next e in
        let o = k.others e ne in
        let g = k.taken.grown e in
        let l = bit_in-lt found e in
        let lr = bit_in-lt row e in
        kept t (k.so_far.looked e t (omega (arith, one, none, n, g, l, lr))
        (omega (arith, none, n, o)) link))
        (cases_eq e p)

  pub search_shrinks : p < 256 → sum_below 256 (work found' ahead') < sum_below 256
      (work found ahead)
  search_shrinks lp = sum_below-lt 256 (work found' ahead') (work found ahead) p
      (λ e l. ⊎_elim
      (λ same. rw same (less))
      (λ ne. let g = k.taken.grown e in let n = k.taken.next e in let o = k.others e
      ne in let i = k.so_far.inside e in let lf = bit_in-lt found e in let lu = bit_in-lt row
      e in omega (arith, g, n, o, i, lf, lu)) (cases_eq e p))
      lp strictly where
        strictly : work found' ahead' p < work found ahead p
        strictly = let g = k.taken.grown p in let n = k.taken.next p in let lu = bit_in-lt row
            p in let out = k.out in let is = k.chosen in omega (arith, g, n, out, is, has, lu)

        less : work found' ahead' p ≤ work found ahead p
        less = let s = strictly in omega (arith, s)
