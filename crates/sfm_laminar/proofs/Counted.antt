-- The counts of the groups' places while a set grows: who is full by them, and what they are with
-- one place more.
use Rattle.std.proofs.Common.{◌≡◌, ℕ, zero, suc, ◌+◌, ◌<◌, ◌≤◌, Bool, true, false, cond, not, ◌&&◌, List, [], ◌∷◌, ◌++◌, length, get_or, set, replicate, nat_eq, if◌then◌else◌, refl, sym, ap, ◌∙◌, arith, ⊎_elim, length-set, get_or-set_other, get_or-set_same}
use Rattle.std.specs.List.{list_any}
use Rattle.std.proofs.lemmas.Bool.{false≢true, cases_lt, cases_Bool}
use Rattle.std.proofs.lemmas.Int.{ints}
use Rattle.std.proofs.lemmas.List.{length-replicate, get_or_push, get_or_append_left, get_or_past, length_push}
use Rattle.std.proofs.lemmas.List.Elements.{Contains-get_or}
use Rattle.sfm_spec.specs.Sets.{Has, empty_set, intersection}
use Rattle.sfm_spec.specs.Kinds.{Group, count_in, IsWithinCaps}
use Rattle.sfm_spec.proofs.Sizes.{size_below_length}
use Rattle.sfm_spec.proofs.Sums.{length-intersection}
use Rattle.sfm_rank.proofs.Growing.{next-out}
use Rattle.sfm_laminar.specs.Crossing.{no_group, group_at}
use Rattle.sfm_laminar.specs.Groups.{IsAscending, IsGroup, IsBelow, AreGroups}
use Rattle.sfm_laminar.specs.Masks.{mask, length-mask, count-mask}
use Rattle.sfm_laminar.specs.Counts.{AreCounts, HasFull, raised}
use Rattle.sfm_laminar.specs.Grown.{is_blocked, blocked_from, from_blocked, grown, step, count-set, count-none}
use Rattle.sfm_laminar.specs.Indexes.{holders, IsIndex, AreHoldersOf}
use Rattle.sfm_laminar.specs.Ranks.{contains-mask, mask-contains, caps-grown}
use Rattle.sfm_laminar.proofs.Holders.{AreHolders, are_holders, number_of, holder_at}

-- ---- one more for each of some numbers

pub length-raised : (counts es : List ℕ) (n : ℕ) → length (raised counts es n) ≡ length counts
length-raised counts es zero = refl
length-raised counts es (suc n) =
    length-set (raised counts es n) (get_or es n 0)
    (suc (get_or (raised counts es n) (get_or es n 0) 0)) ∙ length-raised counts es n

pub raised-rest : (counts es : List ℕ) (n i : ℕ) → ((p : ℕ) → p < n → get_or es p 0 ≡ i → ⊥)
    → get_or (raised counts es n) i 0 ≡ get_or counts i 0
raised-rest counts es zero i never = refl
raised-rest counts es (suc n) i never =
    get_or-set_other (raised counts es n) (get_or es n 0) i
    (suc (get_or (raised counts es n) (get_or es n 0) 0)) 0
    (λ same. never n (omega arith) (sym same))
    ∙ raised-rest counts es n i (λ p lt. never p (omega arith))

-- the number at a place that comes is still as it was
pub raised-before : (counts es : List ℕ) (n : ℕ) → IsAscending es → n < length es
    → get_or (raised counts es n) (get_or es n 0) 0 ≡ get_or counts (get_or es n 0) 0
raised-before counts es n up lt =
    raised-rest counts es n (get_or es n 0)
    (λ p lp same. let u = up p n lp lt in absurd (omega (arith, u, same)))

raised-at : (counts es : List ℕ) (n p : ℕ) → IsAscending es → n ≤ length es → p < n
    → get_or es p 0 < length counts
    → get_or (raised counts es n) (get_or es p 0) 0 ≡ suc (get_or counts (get_or es p 0) 0)
raised-at counts es zero p up le lp li = absurd (omega arith)
raised-at counts es (suc n) p up le lp li = ⊎_elim
    (λ (l : p < n). let u = up p n l (omega arith) in
    get_or-set_other (raised counts es n) (get_or es n 0) (get_or es p 0)
    (suc (get_or (raised counts es n) (get_or es n 0) 0)) 0
    (λ same. absurd (omega (arith, u, same)))
    ∙ raised-at counts es n p up (omega arith) l li)
    (λ (ge : n ≤ p). let same : p ≡ n = omega arith in rw same (here (rw same at li)))
    (cases_lt p n) where
      here : get_or es n 0 < length counts
          → get_or (raised counts es (suc n)) (get_or es n 0) 0 ≡ suc
          (get_or counts (get_or es n 0) 0)
      here l = let len = length-raised counts es n in
          get_or-set_same (raised counts es n) (get_or es n 0)
          (suc (get_or (raised counts es n) (get_or es n 0) 0)) 0 (omega (arith, len, l))
          ∙ ap suc (raised-before counts es n up (omega arith))

-- ---- the numbers of the groups that hold a place ascend

ascending-push : (es : List ℕ) (n : ℕ) → IsAscending es
    → ((p : ℕ) → p < length es → get_or es p 0 < n) → IsAscending (es ++ n ∷ [])
ascending-push es n up below i j lt in_range = ⊎_elim
    (λ (l : j < length es). let a = get_or_append_left es (n ∷ []) 0 i
    (omega arith) in let b = get_or_append_left es (n ∷ []) 0 j l in let u = up i j lt
    l in omega (arith, a, b, u))
    (λ (ge : length es ≤ j). let len = length_push es n in
    let a = get_or_append_left es (n ∷ []) 0 i (omega (arith, len)) in
    let b = get_or_push es n 0 j (omega (arith, len)) in
    let u = below i (omega (arith, len)) in
    omega (arith, a, b, u))
    (cases_lt j (length es))

pub holders-ascend : (groups : List Group) (e n : ℕ) → IsAscending (holders groups e n)
holders-ascend groups e zero = λ i j lt in_range. absurd (omega arith)
holders-ascend groups e (suc n) =
    at (list_any (nat_eq e) (group_at groups n).members) (holders-ascend groups e n) where
      below : (p : ℕ) → p < length (holders groups e n) → get_or (holders groups e n) p 0 < n
      below p lp = ((are_holders groups e n (get_or (holders groups e n) p 0)).0
          (Contains-get_or (holders groups e n) p 0 lp)).0

      at : (b : Bool) → IsAscending (holders groups e n)
          → IsAscending (if b then holders groups e n ++ n ∷ [] else holders groups e n)
      at true up = ascending-push (holders groups e n) n up below
      at false up = up

pub holders_listed : (k : ℕ) (groups : List Group) (index : List (List ℕ)) (e : ℕ)
    → IsIndex k groups index → e < length index → AreHoldersOf groups e (get_or index e [])
holders_listed k groups index e ok lt = rw (ok.numbers e (omega (arith, ok.places, lt))) (record {
  below = λ p lp. (holder_at groups (holders groups e (length groups)) e p
      (are_holders groups e (length groups)) lp).0;
  exact = are_holders groups e (length groups);
  ascending = holders-ascend groups e (length groups);
})

-- ---- counts of a set that grows

zero_at : (n i : ℕ) → get_or (replicate {A = ℕ} n 0) i 0 ≡ 0
zero_at zero i = refl
zero_at (suc n) zero = refl
zero_at (suc n) (suc i) = zero_at n i

pub counts-none : (groups : List Group) (n k : ℕ) → n ≡ length groups
    → AreCounts groups (empty_set k) (replicate n 0)
counts-none groups n k same = record {
  places = length-replicate n 0 ∙ same;
  numbers = λ i lt. zero_at n i ∙ sym (count-none k (group_at groups i).members);
}

count-most : (k : ℕ) (g : Group) (t : List Bool) → IsGroup g → IsBelow k g → length t ≡ k
    → count_in g t ≤ k
count-most k g t ok below kt =
    let c = count-mask k g.members t kt ok.ascending below in
    let b = size_below_length (intersection (mask k g.members) t) in
    let l = length-intersection (mask k g.members) t (length-mask k g.members ∙ sym kt) in
    let m = length-mask k g.members in
    omega (arith, c, b, l, m)

-- the place that comes next is not yet taken
pub grown-out : (k : ℕ) (groups : List Group) (s : List Bool) (n : ℕ) → AreGroups k groups → n ≤ k
    → get_or (grown k groups s n) n false ≡ false
grown-out k groups s n ok le = next-out k (IsWithinCaps groups) s n (grown k groups s n)
    (caps-grown k groups ok s n le)

module _ (k : ℕ) (groups : List Group) (t : List Bool) (counts : List ℕ) (e : ℕ) (es : List ℕ)
    (ok : AreGroups k groups) (kt : length t ≡ k) (counted : AreCounts groups t counts)
    (at : AreHolders groups (length groups) e es) where
  pub counts-few : (i : ℕ) → get_or counts i 0 ≤ k
  counts-few i = ⊎_elim
      (λ (lt : i < length groups). let c = counted.numbers i lt in let m = count-most k
      (group_at groups i) t (ok.each i no_group lt) (ok.below i no_group lt)
      kt in omega (arith, c, m))
      (λ (ge : length groups ≤ i). let l = counted.places in let z = get_or_past counts i 0
      (omega (arith, l, ge)) in omega (arith, z))
      (cases_lt i (length groups))

  -- a place is blocked where one of its groups is full
  pub full_blocked : HasFull groups es counts → is_blocked k groups t e ≡ true
  full_blocked (p, lp, full) =
      let here = holder_at groups es e p at lp in
      let i = get_or es p 0 in
      let c = counted.numbers i here.0 in
      from_blocked k groups t e (
        i,
        here.0,
        contains-mask k (group_at groups i) e (ok.below i no_group here.0) here.1,
        omega (arith, ints, full, c),
      )

  pub blocked_full : is_blocked k groups t e ≡ true → HasFull groups es counts
  blocked_full h =
      let (i, li, has, full) = blocked_from k groups t e h in
      let (p, lp, is) = number_of groups es e i at li (mask-contains k (group_at groups i) e has) in
      let c = counted.numbers i li in
      (p, lp, rw is (omega (arith, ints, full, c)))

  pub none_free : (HasFull groups es counts → ⊥) → is_blocked k groups t e ≡ false
  none_free never = ⊎_elim (λ b. absurd (never (blocked_full b))) (λ free. free)
      (cases_Bool (is_blocked k groups t e))

  -- the counts with the place taken in
  pub counts-more : IsAscending es → e < k → get_or t e false ≡ false
      → AreCounts groups (set t e true) (raised counts es (length es))
  counts-more up lt out = record {
    places = length-raised counts es (length es) ∙ counted.places;
    numbers = λ i li. at_group i li (get_or (mask k (group_at groups i).members) e false) refl
        (count-set k (group_at groups i) t e (ok.each i no_group li) (ok.below i no_group li) kt lt
        out) (counted.numbers i li);
  } where
    at_group : (i : ℕ) → i < length groups → (b : Bool)
        → get_or (mask k (group_at groups i).members) e false ≡ b
        → count_in (group_at groups i) (set t e true) ≡ cond
        (get_or (mask k (group_at groups i).members) e false) 1 0 + count_in (group_at groups i)
        t
        → get_or counts i 0 ≡ count_in (group_at groups i) t
        → get_or (raised counts es (length es)) i 0 ≡ count_in (group_at groups i)
        (set t e true)
    at_group i li true has c old =
        let (p, lp, is) = number_of groups es e i at li
        (mask-contains k (group_at groups i) e has) in
        let l = counted.places in
        let r = rw is at (raised-at counts es (length es) p up (omega arith) lp
        (rw is (omega (arith, li, l)))) in
        let c' = rw has at c in
        omega (arith, r, c', old)
    at_group i li false has c old =
        let r = raised-rest counts es (length es) i
        (λ p lp same. let here = holder_at groups es e p at lp in
        false≢true (sym has ∙ contains-mask k (group_at groups i) e (ok.below i no_group li)
        (rw same at here.1))) in
        let c' = rw has at c in
        omega (arith, r, c', old)

-- ---- one place

pub step-out : (k : ℕ) (groups : List Group) (s t : List Bool) (e : ℕ) → get_or s e false ≡ false
    → t ≡ step k groups s t e
step-out k groups s t e out = rw out refl

pub step-blocked : (k : ℕ) (groups : List Group) (s t : List Bool) (e : ℕ)
    → is_blocked k groups t e ≡ true → t ≡ step k groups s t e
step-blocked k groups s t e blocked = at (get_or s e false) where
  at : (b : Bool) → t ≡ (if b && not (is_blocked k groups t e) then set t e true else t)
  at true = rw blocked refl
  at false = refl

pub step-taken : (k : ℕ) (groups : List Group) (s t : List Bool) (e : ℕ) → Has s e
    → is_blocked k groups t e ≡ false → set t e true ≡ step k groups s t e
step-taken k groups s t e has free = rw (has, free) refl
