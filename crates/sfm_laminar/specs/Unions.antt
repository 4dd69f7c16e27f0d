-- Sets of which any two are apart or nested: what each of some of them does not lack, some set that
-- holds them all does not lack either. Textbook: Schrijver, Combinatorial Optimization, section 39
-- (laminar matroids).
use Rattle.std.proofs.Common.{◌≡◌, ◌⊎◌, ℕ, zero, suc, ◌<◌, Bool, true, false, List, [], ◌∷◌, length, get_or, ℤ, pos, ◌+ℤ◌, ◌-ℤ◌, ◌*ℤ◌, ◌≤ℤ◌, if◌then◌else◌, refl, sym, ap, ◌∙◌, arith, inl, inr, ⊎_elim}
use Rattle.std.proofs.lemmas.Bool.{false≢true}
use Rattle.std.proofs.lemmas.Int.{ints, by_lt_z}
use Rattle.std.proofs.lemmas.List.{length-replicate}
use Rattle.std.proofs.Math.IntN.{*ℤ-zero}
use Rattle.sfm_spec.specs.Sets.{Has, IsWithin, empty_set, union, intersection, size, sum_over}
use Rattle.sfm_spec.proofs.Scaled.{times-add}
use Rattle.sfm_spec.proofs.Sets.{in_union, union_left, union_right}
use Rattle.sfm_spec.proofs.Sums.{length-union}
use Rattle.sfm_spec.proofs.Sizes.{weight-empty, within_tail}
use Rattle.sfm_spec.proofs.Where.{size-cons}
use Rattle.sfm_rank.proofs.Members.{nothing}

-- no place is in both sets
abbrev pub AreApart : List Bool → List Bool → Type 0
AreApart s t = (e : ℕ) → Has s e → Has t e → ⊥

abbrev pub IsNested : List Bool → List Bool → Type 0
IsNested s t = IsWithin s t ⊎ (IsWithin t s ⊎ AreApart s t)

abbrev pub AreLaminar : List (List Bool) → Type 0
AreLaminar sets = (i j : ℕ) → i < j → j < length sets
    → IsNested (get_or sets i []) (get_or sets j [])

-- ---- decisions

pub within_or_not : (s t : List Bool) → length s ≡ length t → IsWithin s t ⊎ (IsWithin s t → ⊥)
within_or_not [] t h = inl (λ e has. absurd (false≢true has))
within_or_not (a ∷ s) [] h = absurd (omega arith)
within_or_not (a ∷ s) (b ∷ t) h = at a b (within_or_not s t (omega arith)) where
  both : (a b : Bool) → (a ≡ true → b ≡ true) → IsWithin s t → IsWithin (a ∷ s) (b ∷ t)
  both a b first rest zero has = first has
  both a b first rest (suc e) has = rest e has

  at : (a b : Bool) → IsWithin s t ⊎ (IsWithin s t → ⊥) → IsWithin (a ∷ s) (b ∷ t)
      ⊎ (IsWithin (a ∷ s) (b ∷ t) → ⊥)
  at true false r = inr (λ h. false≢true (h 0 refl))
  at a b (inr never) = inr (λ h. never (within_tail a b s t h))
  at true true (inl inside) = inl (both true true (λ h. h) inside)
  at false b (inl inside) = inl (both false b (λ h. absurd (false≢true h)) inside)

sum_over-apart : (s t : List Bool) (d : List ℤ) → length s ≡ length t → AreApart s t
    → sum_over (union s t) d ≡ (sum_over s d +ℤ sum_over t d)
sum_over-apart [] [] d h apart = refl
sum_over-apart [] (b ∷ t) d h apart = absurd (omega arith)
sum_over-apart (a ∷ s) [] d h apart = absurd (omega arith)
sum_over-apart (a ∷ s) (b ∷ t) [] h apart = refl
sum_over-apart (a ∷ s) (b ∷ t) (y ∷ d) h apart =
    at a b (apart 0) (sum_over-apart s t d (omega arith) (λ e. apart (suc e))) where
      at : (a b : Bool) → (a ≡ true → b ≡ true → ⊥)
          → sum_over (union s t) d ≡ (sum_over s d +ℤ sum_over t d)
          → sum_over (union (a ∷ s) (b ∷ t))
          (y ∷ d) ≡ (sum_over (a ∷ s) (y ∷ d) +ℤ sum_over (b ∷ t) (y ∷ d))
      at true true never r = absurd (never refl refl)
      at true false never r = omega (arith, ints, r)
      at false true never r = omega (arith, ints, r)
      at false false never r = omega (arith, ints, r)

-- ---- one set that holds all that lack nothing

abbrev LacksNone : List ℤ → List Bool → Type 0
LacksNone d s = pos 0 ≤ℤ sum_over s d

record IsHull (d : List ℤ) (s : List Bool) (sets : List (List Bool)) (e : List Bool) : Type 0 where
  places : length e ≡ length s
  wider : IsWithin s e
  holds : (i : ℕ) → i < length sets → LacksNone d (get_or sets i []) → IsWithin (get_or sets i []) e
  more : sum_over s d ≤ℤ sum_over e d

abbrev Wider : List ℤ → List Bool → List (List Bool) → Type 0
Wider d m sets = (i : ℕ) × (i < length sets) × LacksNone d (get_or sets i [])
    × IsWithin m (get_or sets i [])

abbrev NoneWider : List ℤ → List Bool → List (List Bool) → Type 0
NoneWider d m sets = (i : ℕ) → i < length sets → LacksNone d (get_or sets i [])
    → IsWithin m (get_or sets i []) → ⊥

find_wider : (d : List ℤ) (m : List Bool) (sets : List (List Bool))
    → ((i : ℕ) → i < length sets → length m ≡ length (get_or sets i [])) → Wider d m sets
    ⊎ NoneWider d m sets
find_wider d m [] same = inr (λ i h. absurd (omega arith))
find_wider d m (n ∷ sets) same = at (find_wider d m sets (λ i h. same (suc i) (omega arith))) where
  none : (LacksNone d n → IsWithin m n → ⊥) → Wider d m sets ⊎ NoneWider d m sets
      → Wider d m (n ∷ sets) ⊎ NoneWider d m (n ∷ sets)
  none never (inl (i, lt, full, within)) = inl (suc i, omega arith, full, within)
  none never (inr others) = inr at where
    at : NoneWider d m (n ∷ sets)
    at zero lt full within = never full within
    at (suc i) lt full within = others i (omega arith) full within

  here : Wider d m sets ⊎ NoneWider d m sets → LacksNone d n → IsWithin m n ⊎ (IsWithin m n → ⊥)
      → Wider d m (n ∷ sets) ⊎ NoneWider d m (n ∷ sets)
  here rest full (inl within) = inl (0, omega arith, full, within)
  here rest full (inr never) = none (λ f. never) rest

  at : Wider d m sets ⊎ NoneWider d m sets → Wider d m (n ∷ sets) ⊎ NoneWider d m (n ∷ sets)
  at rest = by_lt_z (sum_over n d) (pos 0)
      (λ less. none (λ full. absurd (omega (arith, ints, full, less))) rest)
      (λ full. here rest full (within_or_not m n (same 0 (omega arith))))

hull : (d : List ℤ) (sets : List (List Bool)) (s : List Bool) → AreLaminar sets
    → ((i : ℕ) → i < length sets → length (get_or sets i []) ≡ length s)
    → ((i : ℕ) → i < length sets → LacksNone d (get_or sets i []) → IsWithin (get_or sets i []) s
    ⊎ AreApart (get_or sets i []) s) → (e : List Bool) × IsHull d s sets e
hull d [] s laminar same good = (
  s,
  record {
    places = refl;
    wider = λ e h. h;
    holds = λ i h. absurd (omega arith);
    more = omega (arith, ints);
  },
)
hull d (m ∷ sets) s laminar same good =
    start (λ s' h good'. hull d sets s'
    (λ i j lt in_range. laminar (suc i) (suc j) (omega arith) (omega arith))
    (λ i lt. same (suc i) (omega arith) ∙ sym h) good') where
      Good : List Bool → Type 0
      Good s' = (i : ℕ) → i < length sets → LacksNone d (get_or sets i [])
          → IsWithin (get_or sets i []) s' ⊎ AreApart (get_or sets i []) s'

      Rest : Type 0
      Rest = (s' : List Bool) → length s' ≡ length s → Good s' → (e : List Bool)
          × IsHull d s' sets e

      grown : (e : List Bool) → IsHull d s sets e → (LacksNone d m → IsWithin m e)
          → IsHull d s (m ∷ sets) e
      grown e h first = record {
        places = h.places;
        wider = h.wider;
        holds = holds;
        more = h.more;
      } where
        holds : (i : ℕ) → i < length (m ∷ sets) → LacksNone d (get_or (m ∷ sets) i [])
            → IsWithin (get_or (m ∷ sets) i []) e
        holds zero lt full = first full
        holds (suc i) lt full = h.holds i (omega arith) full

      kept : (old : (e : List Bool) × IsHull d s sets e) → (LacksNone d m → IsWithin m old.0)
          → (e : List Bool) × IsHull d s (m ∷ sets) e
      kept old first = (old.0, grown old.0 old.1 first)

      ms : length m ≡ length s
      ms = same 0 (omega arith)

      len : length (union s m) ≡ length s
      len = length-union s m (sym ms)

      nested : (i : ℕ) → i < length sets → NoneWider d m sets → LacksNone d (get_or sets i [])
          → IsWithin (get_or sets i []) s ⊎ AreApart (get_or sets i []) s
          → IsNested m (get_or sets i [])
          → IsWithin (get_or sets i []) (union s m) ⊎ AreApart (get_or sets i []) (union s m)
      nested i lt none f (inl within) n = inl (λ e h. union_left s m e (sym ms) (within e h))
      nested i lt none f (inr off) (inl up) = absurd (none i lt f up)
      nested i lt none f (inr off) (inr (inl down)) =
          inl (λ e h. union_right s m e (sym ms) (down e h))
      nested i lt none f (inr off) (inr (inr off')) =
          inr (λ e h u. ⊎_elim (λ hs. off e h hs) (λ hm. off' e hm h) (in_union s m e (sym ms) u))

      added : AreApart m s → LacksNone d m → (e : List Bool) → IsHull d (union s m) sets e
          → IsHull d s (m ∷ sets) e
      added apart full e h = record {
        places = h.places ∙ len;
        wider = λ p hp. h.wider p (union_left s m p (sym ms) hp);
        holds = holds;
        more = (let r = h.more in let p = sum_over-apart s m d (sym ms)
            (λ p hs hm. apart p hm hs) in omega (arith, ints, r, p, full));
      } where
        holds : (i : ℕ) → i < length (m ∷ sets) → LacksNone d (get_or (m ∷ sets) i [])
            → IsWithin (get_or (m ∷ sets) i []) e
        holds zero lt f = λ p hp. h.wider p (union_right s m p (sym ms) hp)
        holds (suc i) lt f = h.holds i (omega arith) f

      by_wider : Rest → LacksNone d m → AreApart m s → Wider d m sets ⊎ NoneWider d m sets
          → (e : List Bool) × IsHull d s (m ∷ sets) e
      by_wider rest full apart (inl (i, lt, wide, within)) =
          let old = rest s refl (λ j l. good (suc j) (omega arith)) in kept old
          (λ f e h. old.1.holds i lt wide e (within e h))
      by_wider rest full apart (inr none) =
          let new = rest (union s m) len
          (λ i lt f. nested i lt none f (good (suc i) (omega arith) f)
          (laminar 0 (suc i) (omega arith) (omega arith))) in
          (new.0, added apart full new.0 new.1)

      at : Rest → LacksNone d m → IsWithin m s ⊎ AreApart m s → (e : List Bool)
          × IsHull d s (m ∷ sets) e
      at rest full (inl within) = let old = rest s refl (λ j l. good (suc j) (omega arith)) in kept
          old
          (λ f e h. old.1.wider e (within e h))
      at rest full (inr apart) = by_wider rest full apart
          (find_wider d m sets (λ i lt. same 0 (omega arith) ∙ sym (same (suc i) (omega arith))))

      start : Rest → (e : List Bool) × IsHull d s (m ∷ sets) e
      start rest = by_lt_z (sum_over m d) (pos 0)
          (λ less. kept (rest s refl (λ j l. good (suc j) (omega arith)))
          (λ full. absurd (omega (arith, ints, full, less))))
          (λ full. at rest full (good 0 (omega arith) full))

-- ---- what a full set lacks

-- n for each place of the set
abbrev pub amount : ℤ → List Bool → ℤ
amount n [] = pos 0
amount n (b ∷ s) = (if b then n else pos 0) +ℤ amount n s

pub amount-size : (n : ℤ) (s : List Bool) → amount n s ≡ (n *ℤ pos (size s))
amount-size n [] = sym (*ℤ-zero n)
amount-size n (true ∷ s) =
    let c = size-cons true s in
    let one : pos (size (true ∷ s)) ≡ (pos (size s) +ℤ pos 1) = omega (arith, ints, c) in
    let p = ap (λ a. n *ℤ a) one ∙ times-add n (pos (size s)) (pos 1) in
    let r = amount-size n s in
    omega (arith, ints, r, p)
amount-size n (false ∷ s) =
    let c = size-cons false s in
    let one : pos (size (false ∷ s)) ≡ pos (size s) = omega (arith, ints, c) in
    let p = ap (λ a. n *ℤ a) one in
    let r = amount-size n s in
    omega (arith, ints, r, p)

-- what each place has of n where the set has it, less its entry
abbrev pub gap : ℤ → List Bool → List ℤ → List ℤ
gap n [] x = []
gap n (b ∷ s) [] = []
gap n (b ∷ s) (y ∷ x) = ((if b then n else pos 0) -ℤ y) ∷ gap n s x

pub gap-sum : (n : ℤ) (m s : List Bool) (x : List ℤ) → length m ≡ length s → length s ≡ length x
    → (sum_over m (gap n s x) +ℤ sum_over m x) ≡ amount n (intersection m s)
gap-sum n [] s x h k = omega (arith, ints)
gap-sum n (a ∷ m) [] x h k = absurd (omega arith)
gap-sum n (a ∷ m) (b ∷ s) [] h k = absurd (omega arith)
gap-sum n (true ∷ m) (b ∷ s) (y ∷ x) h k =
    let r = gap-sum n m s x (omega arith) (omega arith) in omega (arith, ints, r)
gap-sum n (false ∷ m) (b ∷ s) (y ∷ x) h k =
    let r = gap-sum n m s x (omega arith) (omega arith) in omega (arith, ints, r)

spread : (n : ℤ) (s e i : List Bool) (x : List ℤ) → length s ≡ length x → length e ≡ length x
    → length i ≡ length x → pos 0 ≤ℤ n
    → ((p : ℕ) → p < length x → (pos 0 ≤ℤ get_or x p (pos 0)) × (get_or x p (pos 0) ≤ℤ n))
    → ((p : ℕ) → Has s p → get_or i p false ≡ false → Has e p)
    → (sum_over s x +ℤ sum_over e (gap n i x)) ≤ℤ amount n i
spread n [] [] [] [] ks ke ki low small held = omega (arith, ints)
spread n [] (b ∷ e) i x ks ke ki low small held = absurd (omega arith)
spread n [] [] (c ∷ i) x ks ke ki low small held = absurd (omega arith)
spread n [] [] [] (y ∷ x) ks ke ki low small held = absurd (omega arith)
spread n (a ∷ s) e i [] ks ke ki low small held = absurd (omega arith)
spread n (a ∷ s) [] i (y ∷ x) ks ke ki low small held = absurd (omega arith)
spread n (a ∷ s) (b ∷ e) [] (y ∷ x) ks ke ki low small held = absurd (omega arith)
spread n (a ∷ s) (b ∷ e) (c ∷ i) (y ∷ x) ks ke ki low small held =
    at a b c (held 0) (spread n s e i x (omega arith) (omega arith) (omega arith) low
    (λ p h. small (suc p) (omega arith)) (λ p. held (suc p))) where
      first : (pos 0 ≤ℤ y) × (y ≤ℤ n)
      first = small 0 (omega arith)

      at : (a b c : Bool) → (a ≡ true → c ≡ false → b ≡ true)
          → (sum_over s x +ℤ sum_over e (gap n i x)) ≤ℤ amount n i
          → (sum_over (a ∷ s) (y ∷ x) +ℤ sum_over (b ∷ e) (gap n (c ∷ i) (y ∷ x))) ≤ℤ amount n
          (c ∷ i)
      at true true true h r = let f = first in omega (arith, ints, r, f.0, f.1, low)
      at true true false h r = let f = first in omega (arith, ints, r, f.0, f.1, low)
      at true false true h r = let f = first in omega (arith, ints, r, f.0, f.1, low)
      at true false false h r = absurd (false≢true (h refl refl))
      at false true true h r = let f = first in omega (arith, ints, r, f.0, f.1, low)
      at false true false h r = let f = first in omega (arith, ints, r, f.0, f.1, low)
      at false false true h r = let f = first in omega (arith, ints, r, f.0, f.1, low)
      at false false false h r = let f = first in omega (arith, ints, r, f.0, f.1, low)

-- each place of s that i leaves out is in one of the sets that i fills: then s gets at most n for
-- each place of i
pub filled : (n : ℤ) (k : ℕ) (sets : List (List Bool)) (s i : List Bool) (x : List ℤ) → pos 0 ≤ℤ n
    → AreLaminar sets → ((j : ℕ) → j < length sets → length (get_or sets j []) ≡ k)
    → length s ≡ k → length i ≡ k → length x ≡ k
    → ((p : ℕ) → p < length x → (pos 0 ≤ℤ get_or x p (pos 0)) × (get_or x p (pos 0) ≤ℤ n))
    → ((p : ℕ) → Has s p → get_or i p false ≡ false → (j : ℕ) × (j < length sets)
    × Has (get_or sets j []) p × (pos 0 ≤ℤ sum_over (get_or sets j []) (gap n i x)))
    → sum_over s x ≤ℤ amount n i
filled n k sets s i x low laminar same ks ki kx small refused =
    let none : List Bool = empty_set k in
    let kn : length none ≡ k = length-replicate k false in
    let (e, h) = hull (gap n i x) sets none laminar (λ j lt. same j lt ∙ sym kn)
    (λ j lt f. inr (λ p hp hn. nothing k p hn)) in
    let z = weight-empty k (gap n i x) in
    let m = h.more in
    let r = spread n s e i x (ks ∙ sym kx) (h.places ∙ (kn ∙ sym kx)) (ki ∙ sym kx) low small
    (λ p hp out. let (j, lt, hj, f) = refused p hp out in h.holds j lt f p hj) in
    omega (arith, ints, z, m, r)
