-- Kept places: their numbers among the kept ones, lists of what they have, and parts of them as
-- parts of all.
use Rattle.std.proofs.Common.{◌≡◌, ◌↔◌, ℕ, zero, suc, ◌+◌, ◌<◌, ◌≤◌, Bool, true, false, List, [], ◌∷◌, ◌++◌, length, map, get_or, take, ℤ, pos, if◌then◌else◌, refl, sym, ap, ◌∙◌, arith, subst, ⊎_elim}
use Rattle.std.proofs.lemmas.Bool.{false≢true, cases_lt, cases_Bool}
use Rattle.std.proofs.lemmas.Int.{ints}
use Rattle.std.proofs.lemmas.List.{get_or_past}
use Rattle.sfm_spec.specs.Sets.{Has, IsWithin, intersection, size, sum_over, part}
use Rattle.sfm_spec.specs.Bounds.{AreElements}
use Rattle.sfm_spec.specs.Laws.{ones}
use Rattle.sfm_spec.proofs.Sets.{in_both, in_second, same_sets}
use Rattle.sfm_spec.proofs.Sums.{length-intersection}
use Rattle.sfm_spec.proofs.Where.{size-cons}
use Rattle.sfm_spec.proofs.Ones.{sum-ones}
use Rattle.sfm_layers.specs.Weights.{IsGreatestWeight}
use Rattle.sfm_layers.specs.Kept.{kept, spread}

size-in : (s : List Bool) → size (true ∷ s) ≡ suc (size s)
size-in s = let c = size-cons true s in omega (arith, c)

size-out : (s : List Bool) → size (false ∷ s) ≡ size s
size-out s = let c = size-cons false s in omega (arith, c)

-- ---- how many are kept

pub length-kept : {X : Type 0} (keep : List Bool) (xs : List X) → length keep ≡ length xs
    → length (kept keep xs) ≡ size keep
length-kept [] xs h = refl
length-kept (b ∷ keep) [] h = absurd (omega arith)
length-kept (true ∷ keep) (x ∷ xs) h = let r = length-kept keep xs (omega arith) in let s = size-in
    keep in omega (arith, r, s)
length-kept (false ∷ keep) (x ∷ xs) h = length-kept keep xs (omega arith) ∙ sym (size-out keep)

pub length-spread : (keep s : List Bool) → length (spread keep s) ≡ length keep
length-spread [] s = refl
length-spread (false ∷ keep) s = let r = length-spread keep s in omega (arith, r)
length-spread (true ∷ keep) [] = let r = length-spread keep [] in omega (arith, r)
length-spread (true ∷ keep) (b ∷ s) = let r = length-spread keep s in omega (arith, r)

pub size-spread : (keep s : List Bool) → length s ≡ size keep → size (spread keep s) ≡ size s
size-spread [] [] h = refl
size-spread [] (b ∷ s) h = absurd (omega arith)
size-spread (false ∷ keep) s h = let o = size-out keep in size-out (spread keep s)
    ∙ size-spread keep s (omega (arith, h, o))
size-spread (true ∷ keep) [] h = let i = size-in keep in absurd (omega (arith, h, i))
size-spread (true ∷ keep) (b ∷ s) h =
    let i = size-in keep in
    let r = size-spread keep s (omega (arith, h, i)) in
    size-cons b (spread keep s) ∙ (ap (λ n. (if b then 1 else 0) + n) r ∙ sym (size-cons b s))

-- ---- the number of a kept place: how many kept places are before it

size-none : (n : ℕ) → size (take n []) ≡ 0
size-none zero = refl
size-none (suc n) = refl

pub number-grows : (keep : List Bool) (d e : ℕ) → d ≤ e → size (take d keep) ≤ size (take e keep)
number-grows [] d e h = let a = size-none d in let b = size-none e in omega (arith, a, b)
number-grows (b ∷ keep) zero e h = omega arith
number-grows (b ∷ keep) (suc d) zero h = absurd (omega arith)
number-grows (b ∷ keep) (suc d) (suc e) h =
    let r = number-grows keep d e (omega arith) in
    let sd = size-cons b (take d keep) in
    let se = size-cons b (take e keep) in
    omega (arith, r, sd, se)

pub number-rises : (keep : List Bool) (d e : ℕ) → d < e → Has keep d
    → size (take d keep) < size (take e keep)
number-rises [] d e h has = absurd (false≢true has)
number-rises (b ∷ keep) d zero h has = absurd (omega arith)
number-rises (b ∷ keep) zero (suc e) h has = let i = size-cons b (take e keep)
    ∙ ap (λ c. (if c then 1 else 0) + size (take e keep)) has in omega (arith, i)
number-rises (b ∷ keep) (suc d) (suc e) h has =
    let r = number-rises keep d e (omega arith) has in
    let sd = size-cons b (take d keep) in
    let se = size-cons b (take e keep) in
    omega (arith, r, sd, se)

pub number-below : (keep : List Bool) (e : ℕ) → Has keep e → size (take e keep) < size keep
number-below [] e has = absurd (false≢true has)
number-below (b ∷ keep) zero has = let i = size-cons b keep
    ∙ ap (λ c. (if c then 1 else 0) + size keep) has in omega (arith, i)
number-below (b ∷ keep) (suc e) has =
    let r = number-below keep e has in
    let sd = size-cons b (take e keep) in
    let se = size-cons b keep in
    omega (arith, r, sd, se)

-- kept places of one number are one
pub number-one : (keep : List Bool) (d e : ℕ) → Has keep d → Has keep e
    → size (take d keep) ≡ size (take e keep) → d ≡ e
number-one keep d e hd he same = ⊎_elim
    (λ (l : d < e). let r = number-rises keep d e l hd in absurd (omega (arith, r, same)))
    (λ (ge : e ≤ d). ⊎_elim (λ (l : e < d). let r = number-rises keep e d l
    he in absurd (omega (arith, r, same))) (λ (le : d ≤ e). omega arith) (cases_lt e d))
    (cases_lt d e)

-- the kept place of a number
abbrev pub nth_kept : List Bool → ℕ → ℕ
nth_kept [] i = i
nth_kept (false ∷ keep) i = suc (nth_kept keep i)
nth_kept (true ∷ keep) zero = 0
nth_kept (true ∷ keep) (suc i) = suc (nth_kept keep i)

pub nth-kept : (keep : List Bool) (i : ℕ) → i < size keep → Has keep (nth_kept keep i)
nth-kept [] i h = absurd (omega arith)
nth-kept (false ∷ keep) i h = let o = size-out keep in nth-kept keep i (omega (arith, h, o))
nth-kept (true ∷ keep) zero h = refl
nth-kept (true ∷ keep) (suc i) h = let o = size-in keep in nth-kept keep i (omega (arith, h, o))

pub nth-number : (keep : List Bool) (i : ℕ) → i < size keep → size (take (nth_kept keep i) keep) ≡ i
nth-number [] i h = absurd (omega arith)
nth-number (false ∷ keep) i h = let o = size-out keep in size-out (take (nth_kept keep i) keep)
    ∙ nth-number keep i (omega (arith, h, o))
nth-number (true ∷ keep) zero h = refl
nth-number (true ∷ keep) (suc i) h = let o = size-in keep in size-in (take (nth_kept keep i) keep)
    ∙ ap suc (nth-number keep i (omega (arith, h, o)))

pub number-nth : (keep : List Bool) (e : ℕ) → Has keep e → nth_kept keep (size (take e keep)) ≡ e
number-nth keep e has =
    let below = number-below keep e has in
    number-one keep (nth_kept keep (size (take e keep))) e
    (nth-kept keep (size (take e keep)) below) has (nth-number keep (size (take e keep)) below)

-- ---- what is kept of a list

-- a kept item stands at its number
pub kept-at : {X : Type 0} (keep : List Bool) (xs : List X) (e : ℕ) (d : X)
    → length keep ≡ length xs → Has keep e → get_or (kept keep xs) (size (take e keep)) d ≡ get_or
    xs e d
kept-at [] xs e d h has = absurd (false≢true has)
kept-at (b ∷ keep) [] e d h has = absurd (omega arith)
kept-at (false ∷ keep) (x ∷ xs) zero d h has = absurd (false≢true has)
kept-at (true ∷ keep) (x ∷ xs) zero d h has = refl
kept-at (false ∷ keep) (x ∷ xs) (suc e) d h has =
    rw (size-out (take e keep)) (kept-at keep xs e d (omega arith) has)
kept-at (true ∷ keep) (x ∷ xs) (suc e) d h has =
    rw (size-in (take e keep)) (kept-at keep xs e d (omega arith) has)

-- the item of a number is that of its kept place
pub kept-nth : {X : Type 0} (keep : List Bool) (xs : List X) (i : ℕ) (d : X)
    → length keep ≡ length xs → i < size keep
    → get_or (kept keep xs) i d ≡ get_or xs (nth_kept keep i) d
kept-nth keep xs i d h below = ap (λ n. get_or (kept keep xs) n d) (sym (nth-number keep i below))
    ∙ kept-at keep xs (nth_kept keep i) d h (nth-kept keep i below)

pub kept-map : {X Y : Type 0} (f : X → Y) (keep : List Bool) (xs : List X)
    → map f (kept keep xs) ≡ kept keep (map f xs)
kept-map f [] xs = refl
kept-map f (b ∷ keep) [] = refl
kept-map f (true ∷ keep) (x ∷ xs) = ap (λ ys. f x ∷ ys) (kept-map f keep xs)
kept-map f (false ∷ keep) (x ∷ xs) = kept-map f keep xs

-- the part at the kept places is what is kept of the part
pub part-kept : (keep : List Bool) (places : List ℕ) (s : List Bool)
    → part (kept keep places) s ≡ kept keep (part places s)
part-kept keep places s = kept-map (λ e. get_or s e false) keep places

-- one item more, which is kept
pub kept-more : {X : Type 0} (keep : List Bool) (xs : List X) (j : ℕ) (d : X)
    → length keep ≡ length xs → Has keep j
    → kept (take (suc j) keep) (take (suc j) xs) ≡ kept (take j keep) (take j xs) ++ get_or xs j
    d ∷ []
kept-more [] xs j d h has = absurd (false≢true has)
kept-more (b ∷ keep) [] j d h has = absurd (omega arith)
kept-more (true ∷ keep) (x ∷ xs) zero d h has = refl
kept-more (false ∷ keep) (x ∷ xs) zero d h has = absurd (false≢true has)
kept-more (false ∷ keep) (x ∷ xs) (suc j) d h has = kept-more keep xs j d (omega arith) has
kept-more (true ∷ keep) (x ∷ xs) (suc j) d h has =
    ap (λ ys. x ∷ ys) (kept-more keep xs j d (omega arith) has)

-- one item more, which is not kept
pub kept-same : {X : Type 0} (keep : List Bool) (xs : List X) (j : ℕ) → length keep ≡ length xs
    → j < length keep → get_or keep j false ≡ false
    → kept (take (suc j) keep) (take (suc j) xs) ≡ kept (take j keep) (take j xs)
kept-same [] xs j h lt out = absurd (omega arith)
kept-same (b ∷ keep) [] j h lt out = absurd (omega arith)
kept-same (false ∷ keep) (x ∷ xs) zero h lt out = refl
kept-same (true ∷ keep) (x ∷ xs) zero h lt out = absurd (false≢true (sym out))
kept-same (false ∷ keep) (x ∷ xs) (suc j) h lt out =
    kept-same keep xs j (omega arith) (omega arith) out
kept-same (true ∷ keep) (x ∷ xs) (suc j) h lt out =
    ap (λ ys. x ∷ ys) (kept-same keep xs j (omega arith) (omega arith) out)

-- kept of distinct places are distinct places
pub kept-elements : (keep : List Bool) (places : List ℕ) (e : ℕ) → length keep ≡ length places
    → Has keep e → AreElements places → AreElements (kept keep places)
kept-elements keep places e h has are =
    let count = length-kept keep places h in
    let below : (j : ℕ) → j < length (kept keep places) → nth_kept keep j < length places = λ j l.
    has-below keep (nth_kept keep j) (length places) h
    (nth-kept keep j (omega (arith, l, count))) in
    record {
      some = (let n = number-below keep e has in omega (arith, n, count));
      placed = record {
        below = λ j l. rw (kept-nth keep places j 0 h (omega (arith, l, count)))
            (are.placed.below (nth_kept keep j) (below j l));
        distinct = λ i j li lj same.
            let ki = kept-nth keep places i 0 h (omega (arith, li, count)) in
            let kj = kept-nth keep places j 0 h (omega (arith, lj, count)) in
            let one = are.placed.distinct (nth_kept keep i) (nth_kept keep j) (below i li)
            (below j lj) (sym ki ∙ (same ∙ kj)) in
            sym (nth-number keep i (omega (arith, li, count)))
            ∙ (ap (λ p. size (take p keep)) one ∙ nth-number keep j (omega (arith, lj, count)));
      };
    }
  where
    has-below : (s : List Bool) (e n : ℕ) → length s ≡ n → Has s e → e < n
    has-below s e n same has = ⊎_elim (λ l. l)
        (λ ge. absurd (false≢true (sym (get_or_past s e false (omega (arith, same, ge))) ∙ has)))
        (cases_lt e n)

-- ---- parts of the kept places as parts of all

pub spread-at : (keep s : List Bool) (e : ℕ) → Has keep e
    → get_or (spread keep s) e false ≡ get_or s (size (take e keep)) false
spread-at [] s e has = absurd (false≢true has)
spread-at (false ∷ keep) s zero has = absurd (false≢true has)
spread-at (false ∷ keep) s (suc e) has = rw (size-out (take e keep)) (spread-at keep s e has)
spread-at (true ∷ keep) [] zero has = refl
spread-at (true ∷ keep) [] (suc e) has = spread-at keep [] e has
spread-at (true ∷ keep) (b ∷ s) zero has = refl
spread-at (true ∷ keep) (b ∷ s) (suc e) has = rw (size-in (take e keep)) (spread-at keep s e has)

pub spread-out : (keep s : List Bool) (e : ℕ) → get_or keep e false ≡ false
    → get_or (spread keep s) e false ≡ false
spread-out [] s e out = refl
spread-out (false ∷ keep) s zero out = refl
spread-out (false ∷ keep) s (suc e) out = spread-out keep s e out
spread-out (true ∷ keep) s zero out = absurd (false≢true (sym out))
spread-out (true ∷ keep) [] (suc e) out = spread-out keep [] e out
spread-out (true ∷ keep) (b ∷ s) (suc e) out = spread-out keep s e out

-- what is in the spread part is kept, and its number is in the part
pub spread-has : (keep s : List Bool) (e : ℕ) → Has (spread keep s) e → Has keep e
    × Has s (size (take e keep))
spread-has keep s e has = ⊎_elim
    (λ (k : Has keep e). (k, sym (spread-at keep s e k) ∙ has))
    (λ out. absurd (false≢true (sym (spread-out keep s e out) ∙ has)))
    (cases_Bool (get_or keep e false))

pub has-spread : (keep s : List Bool) (e : ℕ) → Has keep e → Has s (size (take e keep))
    → Has (spread keep s) e
has-spread keep s e k has = spread-at keep s e k ∙ has

-- what is kept of a part, spread, is what the part has of the kept places
pub spread-kept : (keep t : List Bool) → length keep ≡ length t
    → spread keep (kept keep t) ≡ intersection keep t
spread-kept [] t h = refl
spread-kept (b ∷ keep) [] h = absurd (omega arith)
spread-kept (false ∷ keep) (c ∷ t) h = ap (λ r. false ∷ r) (spread-kept keep t (omega arith))
spread-kept (true ∷ keep) (c ∷ t) h = ap (λ r. c ∷ r) (spread-kept keep t (omega arith))

pub kept-spread : (keep u : List Bool) → length u ≡ size keep → kept keep (spread keep u) ≡ u
kept-spread [] [] h = refl
kept-spread [] (b ∷ u) h = absurd (omega arith)
kept-spread (false ∷ keep) u h = let o = size-out keep in kept-spread keep u (omega (arith, h, o))
kept-spread (true ∷ keep) [] h = let i = size-in keep in absurd (omega (arith, h, i))
kept-spread (true ∷ keep) (b ∷ u) h =
    let i = size-in keep in ap (λ r. b ∷ r) (kept-spread keep u (omega (arith, h, i)))

pub spread-within : (keep u v : List Bool) → IsWithin u v → IsWithin (spread keep u) (spread keep v)
spread-within keep u v within e has = let h = spread-has keep u e has in has-spread keep v e h.0
    (within (size (take e keep)) h.1)

-- a part of a spread one is spread itself
pub spread-back : (keep u t : List Bool) → length t ≡ length keep → IsWithin t (spread keep u)
    → spread keep (kept keep t) ≡ t
spread-back keep u t h within =
    let same : length keep ≡ length t = sym h in
    spread-kept keep t same ∙ same_sets (intersection keep t) t
    (length-intersection keep t same ∙ same)
    (λ e l has. in_second keep t e same has)
    (λ e l has. in_both keep t e same (spread-has keep u e (within e has)).0 has)

pub kept-within : (keep u t : List Bool) → length t ≡ length keep → IsWithin t (spread keep u)
    → IsWithin (kept keep t) u
kept-within keep u t h within i has = ⊎_elim
    (λ (l : i < size keep).
    let number = nth-number keep i l in
    let at : Has t (nth_kept keep i) = sym (kept-nth keep t i false (sym h) l) ∙ has in
    subst (λ n. Has u n) number (spread-has keep u (nth_kept keep i)
    (within (nth_kept keep i) at)).1)
    (λ (ge : size keep ≤ i). let count = length-kept keep t
    (sym h) in absurd (false≢true
    (sym (get_or_past (kept keep t) i false (omega (arith, count, ge))) ∙ has)))
    (cases_lt i (size keep))

-- ---- the greatest count of independent places: of the kept ones as of all

sum-spread : (keep s : List Bool) → length s ≡ size keep
    → sum_over (spread keep s) (ones (length keep)) ≡ sum_over s (ones (size keep))
sum-spread keep s h =
    sum-ones (length keep) (spread keep s) (length-spread keep s)
    ∙ (ap pos (size-spread keep s h) ∙ sym (sum-ones (size keep) s h))

module _ (keep : List Bool) (I J : List Bool → Type 0)
    (alike : (u : List Bool) → length u ≡ size keep → J u ↔ I (spread keep u)) (u : List Bool)
    (places : length u ≡ size keep) where
  back-independent : (t : List Bool) → length t ≡ length keep → IsWithin t (spread keep u) → I t
      → J (kept keep t)
  back-independent t h within free =
      (alike (kept keep t) (length-kept keep t (sym h))).1
      (subst I (sym (spread-back keep u t h within)) free)

  back-sum : (t : List Bool) → length t ≡ length keep → IsWithin t (spread keep u)
      → sum_over t (ones (length keep)) ≡ sum_over (kept keep t) (ones (size keep))
  back-sum t h within = ap (λ s. sum_over s (ones (length keep)))
      (sym (spread-back keep u t h within))
      ∙ sum-spread keep (kept keep t) (length-kept keep t (sym h))

  -- as among the kept places, so among all
  pub spread-greatest : (r : ℤ) → IsGreatestWeight J (ones (size keep)) u r
      → IsGreatestWeight I (ones (length keep)) (spread keep u) r
  spread-greatest r h =
      let (t, lt, wt, jt, et) = h.reached in
      let kt : length t ≡ size keep = lt ∙ places in
      record {
        reached = (
          spread keep t,
          length-spread keep t ∙ sym (length-spread keep u),
          spread-within keep t u wt,
          (alike t kt).0 jt,
          sum-spread keep t kt ∙ et,
        );
        greatest = λ s ls within free.
            let ks : length s ≡ length keep = ls ∙ length-spread keep u in
            let sum = back-sum s ks within in
            let most = h.greatest (kept keep s) (length-kept keep s (sym ks) ∙ sym places)
            (kept-within keep u s ks within) (back-independent s ks within free) in
            omega (arith, ints, sum, most);
      }

  -- as among all, so among the kept places
  pub kept-greatest : (r : ℤ) → IsGreatestWeight I (ones (length keep)) (spread keep u) r
      → IsGreatestWeight J (ones (size keep)) u r
  kept-greatest r h =
      let (t, lt, wt, it, et) = h.reached in
      let kt : length t ≡ length keep = lt ∙ length-spread keep u in
      record {
        reached = (
          kept keep t,
          length-kept keep t (sym kt) ∙ sym places,
          kept-within keep u t kt wt,
          back-independent t kt wt it,
          sym (back-sum t kt wt) ∙ et,
        );
        greatest = λ s ls within free.
            let ks : length s ≡ size keep = ls ∙ places in
            let sum = sum-spread keep s ks in
            let most = h.greatest (spread keep s)
            (length-spread keep s ∙ sym (length-spread keep u)) (spread-within keep s u within)
            ((alike s ks).0 free) in
            omega (arith, ints, sum, most);
      }
