-- The sets whose members have distinct slots of their own entries are the independent sets of a
-- matroid. Textbook: Schrijver, Combinatorial Optimization, section 39 (transversal matroids).
use Rattle.std.proofs.Common.{◌≡◌, ◌≢◌, ◌⊎◌, ℕ, zero, suc, ◌<◌, ◌≤◌, Bool, true, false, not, ◌&&◌, List, [], ◌∷◌, length, get_or, set, nat_eq, if◌then◌else◌, refl, sym, ap, ◌∙◌, arith, inl, inr, ⊎_elim}
use Rattle.std.specs.List.{Contains}
use Rattle.std.proofs.lemmas.Bool.{false≢true, cases_eq, cases_Bool, eq-eqb, eqb-true, and_parts, and_from}
use Rattle.sfm_spec.specs.Sets.{Has, IsWithin, size}
use Rattle.sfm_spec.specs.Kinds.{IsMatching, IsMatchable}
use Rattle.sfm_rank.specs.Matroids.{IsMatroid}
use Rattle.sfm_rank.proofs.Members.{has_place, has_set, nothing, set_has}
use Rattle.sfm_matroid.specs.Counts.{count_below}
use Rattle.sfm_matroid.specs.Counting.{chosen, chosen_is, count-into, count-same, count-without, eqb_apart, size-count, some_or_none}

-- the members of t have slots of their own entries by f, all distinct
pub record IsMatchedBy (entries : List (List ℕ)) (t : List Bool) (f : ℕ → ℕ) : Type 0 where
  pub own : (e : ℕ) → Has t e → Contains (get_or entries e []) (f e)
  pub distinct : (d e : ℕ) → Has t d → Has t e → f d ≡ f e → d ≡ e

-- the first k values of f
abbrev table : ℕ → (ℕ → ℕ) → List ℕ
table zero f = []
table (suc k) f = f 0 ∷ table k (λ e. f (suc e))

table-at : (k e : ℕ) (f : ℕ → ℕ) → e < k → get_or (table k f) e 0 ≡ f e
table-at zero e f lt = absurd (omega (arith, lt))
table-at (suc k) zero f lt = refl
table-at (suc k) (suc e) f lt = table-at k e (λ i. f (suc i)) (omega arith)

pub matched_by : (entries : List (List ℕ)) (t : List Bool) (slots : List ℕ)
    → IsMatching entries t slots → IsMatchedBy entries t (λ e. get_or slots e 0)
matched_by entries t slots h = record { own = h.own; distinct = h.distinct }

pub matchable_from : (entries : List (List ℕ)) (t : List Bool) (f : ℕ → ℕ) → IsMatchedBy entries t f
    → IsMatchable entries t
matchable_from entries t f h = (table (length t) f, record { own = own; distinct = distinct }) where
  is : (e : ℕ) → Has t e → get_or (table (length t) f) e 0 ≡ f e
  is e has = table-at (length t) e f (has_place t e has)

  own : (e : ℕ) → Has t e → Contains (get_or entries e []) (get_or (table (length t) f) e 0)
  own e has = rw (is e has) (h.own e has)

  distinct : (d e : ℕ) → Has t d → Has t e
      → get_or (table (length t) f) d 0 ≡ get_or (table (length t) f) e 0 → d ≡ e
  distinct d e hd he same = h.distinct d e hd he (sym (is d hd) ∙ (same ∙ is e he))

-- ---- one place more

-- f, with the slot s for e
abbrev pub redirected : (ℕ → ℕ) → ℕ → ℕ → ℕ → ℕ
redirected f e s i = if nat_eq i e then s else f i

pub redirected-here : (f : ℕ → ℕ) (e s i : ℕ) → i ≡ e → redirected f e s i ≡ s
redirected-here f e s i same = rw (eq-eqb i e same) refl

pub redirected-other : (f : ℕ → ℕ) (e s i : ℕ) → i ≢ e → redirected f e s i ≡ f i
redirected-other f e s i ne = rw (eqb_apart i e ne) refl

-- a slot of the entry of e that no other member has
redirect : (entries : List (List ℕ)) (t : List Bool) (f : ℕ → ℕ) (e s : ℕ) → IsMatchedBy entries t f
    → Contains (get_or entries e []) s → ((i : ℕ) → Has t i → f i ≢ s)
    → IsMatchedBy entries (set t e true) (redirected f e s)
redirect entries t f e s h own free = record {
  own = λ i has. ⊎_elim
      (λ (same : i ≡ e). rw (redirected-here f e s i same, same) own)
      (λ (ne : i ≢ e). rw (redirected-other f e s i ne) (h.own i (old i ne has)))
      (cases_eq i e);
  distinct = λ c d hc hd same. both c d hc hd same (cases_eq c e) (cases_eq d e);
} where
  old : (i : ℕ) → i ≢ e → Has (set t e true) i → Has t i
  old i ne has = ⊎_elim (λ same. absurd (ne same)) (λ o. o) (has_set t e i has)

  both : (c d : ℕ) → Has (set t e true) c → Has (set t e true) d
      → redirected f e s c ≡ redirected f e s d → (c ≡ e) ⊎ (c ≢ e) → (d ≡ e) ⊎ (d ≢ e) → c ≡ d
  both c d hc hd same (inl ce) (inl de) = ce ∙ sym de
  both c d hc hd same (inl ce) (inr nd) =
      absurd (free d (old d nd hd) (sym (redirected-other f e s d nd)
      ∙ (sym same ∙ redirected-here f e s c ce)))
  both c d hc hd same (inr nc) (inl de) =
      absurd (free c (old c nc hc) (sym (redirected-other f e s c nc)
      ∙ (same ∙ redirected-here f e s d de)))
  both c d hc hd same (inr nc) (inr nd) =
      h.distinct c d (old c nc hc) (old d nd hd)
      (sym (redirected-other f e s c nc) ∙ (same ∙ redirected-other f e s d nd))

matched_within : (entries : List (List ℕ)) (s t : List Bool) (f : ℕ → ℕ) → IsWithin s t
    → IsMatchedBy entries t f → IsMatchedBy entries s f
matched_within entries s t f within h =
    record {
      own = λ e has. h.own e (within e has);
      distinct = λ d e hd he. h.distinct d e (within d hd) (within e he);
    }

module _ (k : ℕ) (entries : List (List ℕ)) (s t : List Bool) (ks : length s ≡ k) (kt : length t ≡ k)
    (less : size s < size t) (g : ℕ → ℕ) (other : IsMatchedBy entries t g) where
  -- i is a member of s with the slot l by f
  takes_slot : (ℕ → ℕ) → ℕ → ℕ → Bool
  takes_slot f l i = get_or s i false && nat_eq (f i) l

  gives_slot : ℕ → ℕ → Bool
  gives_slot l e = get_or t e false && nat_eq (g e) l

  hit_or_not : (a b : Bool) → a ≡ true → (a && not b) ≡ false → b ≡ true
  hit_or_not true true h out = refl
  hit_or_not true false h out = absurd (false≢true (sym out))
  hit_or_not false b h out = absurd (false≢true h)

  -- a member of t has a slot that no member of s has
  free_slot : (f : ℕ → ℕ) → IsMatchedBy entries s f → (e : ℕ) × Has t e
      × ((i : ℕ) → Has s i → f i ≢ g e)
  unfolding takes_slot gives_slot
  free_slot f h =
      at (some_or_none k (λ e. get_or t e false && not
      (takes_slot f (g e) (chosen k (takes_slot f (g e)))))) where
        at : ((e : ℕ) × (e < k)
            × ((get_or t e false && not (takes_slot f (g e) (chosen k (takes_slot f (g e)))))
            ≡ true))
            ⊎ ((e : ℕ) → e < k
            → (get_or t e false && not (takes_slot f (g e) (chosen k (takes_slot f (g e)))))
            ≡ false)
            → (e : ℕ) × Has t e × ((i : ℕ) → Has s i → f i ≢ g e)
        at (inl (e, lt, is)) =
            let (has, free) = and_parts (get_or t e false)
            (not (takes_slot f (g e) (chosen k (takes_slot f (g e))))) is in (
              e,
              has,
              λ i hi same.
                  let li = has_place s i hi in
                  let c = chosen_is k i (takes_slot f (g e)) (omega (arith, li, ks))
                  (and_from (get_or s i false) (nat_eq (f i) (g e)) hi (eq-eqb (f i) (g e) same)) in
                  false≢true (let n = rw c.1 at free in n),
            )
        at (inr none) =
            let a = size-count s in
            let b = size-count t in
            let c = count-into k k (λ e. get_or t e false) (λ i. get_or s i false)
            (λ e. chosen k (takes_slot f (g e))) (λ i. chosen k (gives_slot (f i)))
            (λ e lt has. found e lt has (none e lt)) in
            let p = ap (λ n. count_below n (λ e. get_or s e false)) ks in
            let q = ap (λ n. count_below n (λ e. get_or t e false)) kt in
            absurd (omega (arith, a, b, c, p, q, less)) where
              found : (e : ℕ) → e < k → Has t e
                  → (get_or t e false && not (takes_slot f (g e) (chosen k (takes_slot f (g e)))))
                  ≡ false
                  → (chosen k (takes_slot f (g e)) < k) × Has s (chosen k (takes_slot f (g e)))
                  × (chosen k (gives_slot (f (chosen k (takes_slot f (g e))))) ≡ e)
              found e lt has out =
                  let i = chosen k (takes_slot f (g e)) in
                  let hit : takes_slot f (g e) i ≡ true = hit_or_not (get_or t e false)
                  (takes_slot f (g e) (chosen k (takes_slot f (g e)))) has out in
                  let (hs, same) = and_parts (get_or s i false) (nat_eq (f i) (g e)) hit in
                  let li = has_place s i hs in
                  let c = chosen_is k e (gives_slot (f i)) lt
                  (and_from (get_or t e false) (nat_eq (g e) (f i)) has
                  (eq-eqb (g e) (f i) (sym (eqb-true (f i) (g e) same)))) in
                  let d = chosen k (gives_slot (f i)) in
                  let (hd, sd) = and_parts (get_or t d false) (nat_eq (g d) (f i)) c.1 in (
                    omega (arith, li, ks),
                    hs,
                    other.distinct d e hd has (eqb-true (g d) (f i) sd ∙ eqb-true (f i) (g e) same),
                  )

  -- the members of both that have another slot by f
  differs : (ℕ → ℕ) → ℕ → Bool
  differs f i = (get_or s i false && get_or t i false) && not (nat_eq (f i) (g i))

  -- a member of t with a free slot: either s can take it, or one of both gets its slot of t
  improved : (f : ℕ → ℕ) → IsMatchedBy entries s f → (e : ℕ) → Has t e
      → ((i : ℕ) → Has s i → f i ≢ g e)
      → ((get_or s e false ≡ false) × IsMatchable entries (set s e true))
      ⊎ ((r : ℕ → ℕ) × IsMatchedBy entries s r
      × (suc (count_below k (differs r)) ≡ count_below k (differs f)))
  unfolding differs
  improved f h e has free = at (cases_Bool (get_or s e false)) where
    new : IsMatchedBy entries (set s e true) (redirected f e (g e))
    new = redirect entries s f e (g e) h (other.own e has) free

    at : Has s e ⊎ (get_or s e false ≡ false)
        → ((get_or s e false ≡ false) × IsMatchable entries (set s e true))
        ⊎ ((r : ℕ → ℕ) × IsMatchedBy entries s r
        × (suc (count_below k (differs r)) ≡ count_below k (differs f)))
    at (inr out) = inl (out, matchable_from entries (set s e true) (redirected f e (g e)) new)
    at (inl hs) = inr (
      redirected f e (g e),
      matched_within entries s (set s e true) (redirected f e (g e)) (λ i hi. set_has s e i hi)
          new,
      fewer,
    ) where
      old : differs f e ≡ true
      old = rw (hs, has, eqb_apart (f e) (g e) (free e hs)) refl

      here : (i : ℕ) → (i ≡ e) ⊎ (i ≢ e)
          → differs (redirected f e (g e)) i ≡ (not (nat_eq i e) && differs f i)
      here i (inl same) =
          let r = redirected-here f e (g e) i same ∙ ap g (sym same) in
          let left = ap (λ b. (get_or s i false && get_or t i false) && not b)
          (eq-eqb (redirected f e (g e) i) (g i) r)
          ∙ none (get_or s i false && get_or t i false) in
          left ∙ ap (λ b. not b && differs f i) (sym (eq-eqb i e same)) where
            none : (b : Bool) → (b && false) ≡ false
            none true = refl
            none false = refl
      here i (inr ne) =
          let left = ap (λ l. (get_or s i false && get_or t i false) && not (nat_eq l (g i)))
          (redirected-other f e (g e) i ne) in
          left ∙ ap (λ b. not b && differs f i) (sym (eqb_apart i e ne))

      fewer : suc (count_below k (differs (redirected f e (g e)))) ≡ count_below k (differs f)
      fewer =
          let le = has_place s e hs in
          let c = count-same k (differs (redirected f e (g e)))
          (λ i. not (nat_eq i e) && differs f i) (λ i lt. here i (cases_eq i e)) in
          let w = count-without k (differs f) e (omega (arith, le, ks)) old in
          omega (arith, c, w)

  -- the slots of members of both become those of t, until a member of t alone has a free slot
  matched_more : (fuel : ℕ) (f : ℕ → ℕ) → IsMatchedBy entries s f → count_below k (differs f) ≤ fuel
      → (e : ℕ) × Has t e × (get_or s e false ≡ false) × IsMatchable entries (set s e true)
  matched_more zero f h few =
      let (e, has, free) = free_slot f h in
      ⊎_elim (λ (out, more). (e, has, out, more))
      (λ (r, hr, fewer). absurd (omega (arith, fewer, few))) (improved f h e has free)
  matched_more (suc fuel) f h few =
      let (e, has, free) = free_slot f h in
      ⊎_elim (λ (out, more). (e, has, out, more))
      (λ (r, hr, fewer). matched_more fuel r hr (omega (arith, fewer, few)))
      (improved f h e has free)

  pub matching-grows : IsMatchable entries s → (e : ℕ) × Has t e × (get_or s e false ≡ false)
      × IsMatchable entries (set s e true)
  matching-grows (slots, h) = matched_more (count_below k (differs (λ e. get_or slots e 0)))
      (λ e. get_or slots e 0) (matched_by entries s slots h) (omega arith)

pub matching-matroid : (k : ℕ) (entries : List (List ℕ)) → IsMatroid k (IsMatchable entries)
matching-matroid k entries = record {
  empty = (
    [],
    record {
      own = λ e has. absurd (nothing k e has);
      distinct = λ d e has. absurd (nothing k d has);
    },
  );
  parts = λ s t ks kt within (slots, h). (
    slots,
    record {
      own = λ e has. h.own e (within e has);
      distinct = λ d e hd he. h.distinct d e (within d hd) (within e he);
    },
  );
  grows = λ s t ks kt ms (slots, h) less. matching-grows k entries s t ks kt less
      (λ e. get_or slots e 0) (matched_by entries t slots h) ms;
}
