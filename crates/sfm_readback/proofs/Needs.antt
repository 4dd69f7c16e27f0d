-- Lists of numbers, read one by one: those read so far, and what is left.
use Rattle.std.proofs.Common.{◌≡◌, ◌≢◌, ℕ, ◌+◌, ◌<◌, ◌≤◌, ◌^◌, List, [], ◌∷◌, ◌++◌, Bool, true, false, length, get_or, ℤ, pos, inl, inr, refl, sym, ap, subst, ◌∙◌, arith, append_assoc, length-append, add-one}
use Rattle.std.specs.List.{All}
use Rattle.std.specs.List.Sorted.{IsStrictlyIncreasing}
use Rattle.std.specs.Fmt.{decimal, signed_decimal}
use Rattle.std.proofs.lemmas.List.{append-nil, get_or_append_left, get_or_at, length_push, nil_from_length}
use Rattle.std.proofs.lemmas.Bool.{eqb-true}
use lib.Dec.{eqb}
use Rattle.std.proofs.lemmas.List.Elements.{All-nil, All-push, All-get_or, All-head, All-tail}
use Rattle.std.proofs.Math.Nat.{eq-or-lt_of_le}
use mathlib.Core.Logic.{⊎_elim}
use Rattle.sfm_spec.specs.Bounds.{IsEntry}
use Rattle.sfm_cert.specs.LineLists.{counted, numbered}
use Rattle.sfm_cert.proofs.AnswerLines.{numbered-push, counted-push}
use Rattle.sfm_readback.specs.Lists.{IsStop, AreNeeds}
use Rattle.sfm_readback.proofs.Tokens.{same_entry, count_entry}

-- ---- so many numbers

pub numbered-stop : (x : List ℤ) → IsStop (numbered x)
numbered-stop [] = inl refl
numbered-stop (a ∷ x) = inr (signed_decimal a ++ numbered x, refl)

pub counted-stop : (x : List ℕ) → IsStop (counted x)
counted-stop [] = inl refl
counted-stop (a ∷ x) = inr (decimal a ++ counted x, refl)

-- x was read, and the rest is what follows it in any list of so many numbers that the bytes hold
pub record NumbersSoFar (count : ℕ) (bytes : List ℕ) (x : List ℤ) (rest : List ℕ) : Type 0 where
  pub small : All IsEntry x
  pub cut : bytes ≡ numbered x ++ rest
  pub only : (y : List ℤ) → length y ≡ count → All IsEntry y → bytes ≡ numbered y → (more : List ℤ)
      × (y ≡ x ++ more) × (rest ≡ numbered more)

pub numbers_begin : (count : ℕ) (bytes : List ℕ) → NumbersSoFar count bytes [] bytes
numbers_begin count bytes = record {
  small = All-nil IsEntry;
  cut = refl;
  only = λ y n h e. (y, refl, e);
}

-- what another number leaves of those that are due
follows : (x y more : List ℤ) (a : ℤ) (rest after : List ℕ) → All IsEntry y → y ≡ x ++ more
    → rest ≡ numbered more → IsEntry a → IsStop after → rest ≡ 32 ∷ (signed_decimal a ++ after)
    → (later : List ℤ) × (y ≡ (x ++ a ∷ []) ++ later) × (after ≡ numbered later)
follows x y [] a rest after h e f k stop g = absurd (cc)
follows x y (b ∷ more) a rest after h e f k stop g =
    let entry : IsEntry b = at_end x b more (subst (λ (z : List ℤ). All IsEntry z) e h) in
    let tails : signed_decimal a ++ after ≡ signed_decimal b ++ numbered more = cc in
    let (p, q) = same_entry a b after (numbered more) k entry stop (numbered-stop more) tails in
    (more, e ∙ ap (λ z. x ++ z ∷ more) (sym p) ∙ sym (append_assoc x (a ∷ []) more), q) where
      at_end : (x : List ℤ) (b : ℤ) (more : List ℤ) → All IsEntry (x ++ b ∷ more) → IsEntry b
      at_end [] b more h = All-head IsEntry b more h
      at_end (c ∷ x) b more h = at_end x b more (All-tail IsEntry c (x ++ b ∷ more) h)

pub numbers_more : (count : ℕ) (bytes : List ℕ) (x : List ℤ) (a : ℤ) (rest after : List ℕ)
    → NumbersSoFar count bytes x rest → IsEntry a → IsStop after
    → rest ≡ 32 ∷ (signed_decimal a ++ after)
    → NumbersSoFar count bytes (x ++ a ∷ []) after
numbers_more count bytes x a rest after s k stop e = record {
  small = All-push IsEntry x a s.small k;
  cut = s.cut ∙ ap (λ r. numbered x ++ r) e
      ∙ sym (append_assoc (numbered x) (32 ∷ signed_decimal a) after)
      ∙ ap (λ r. r ++ after) (sym (numbered-push x a));
  only = λ y n h f. let o = s.only y n h f in follows x y o.0 a rest after h o.1 o.2 k stop e;
}

-- where no number stands next, there are none so many
pub numbers_none : (count : ℕ) (bytes : List ℕ) (x : List ℤ) (rest : List ℕ)
    → NumbersSoFar count bytes x rest → length x < count
    → ((a : ℤ) (after : List ℕ) → IsEntry a → IsStop after → rest ≡ 32 ∷ (signed_decimal a ++ after)
    → ⊥)
    → (y : List ℤ) → length y ≡ count → All IsEntry y → bytes ≡ numbered y → ⊥
numbers_none count bytes x rest s few none y n h e = let o = s.only y n h e in at o.0 o.1 o.2 where
  at : (more : List ℤ) → y ≡ x ++ more → rest ≡ numbered more → ⊥
  at [] f g = let k : length y ≡ length x = ap length f
      ∙ ap length (append-nil x) in omega (arith, k, n, few)
  at (b ∷ more) f g = none b (numbered more)
      (entry_at x (subst (λ (z : List ℤ). All IsEntry z) f h)) (numbered-stop more) g where
        entry_at : (x : List ℤ) → All IsEntry (x ++ b ∷ more) → IsEntry b
        entry_at [] h = All-head IsEntry b more h
        entry_at (c ∷ x) h = entry_at x (All-tail IsEntry c (x ++ b ∷ more) h)

-- where bytes are left behind so many numbers, the bytes are not so many
pub numbers_left : (count : ℕ) (bytes : List ℕ) (x : List ℤ) (rest : List ℕ)
    → NumbersSoFar count bytes x rest → length x ≡ count → rest ≢ []
    → (y : List ℤ) → length y ≡ count → All IsEntry y → bytes ≡ numbered y → ⊥
numbers_left count bytes x rest s full left y n h e = let o = s.only y n h e in at o.0 o.1 o.2 where
  at : (more : List ℤ) → y ≡ x ++ more → rest ≡ numbered more → ⊥
  at [] f g = left g
  at (b ∷ more) f g = let k : length y ≡ length x + length (b ∷ more) = ap length f
      ∙ length-append x (b ∷ more) in omega (arith, k, n, full)

-- ---- ascending counts

-- ascending numbers above last, up to most
abbrev pub AreAbove : ℕ → ℕ → List ℕ → Type 0
AreAbove last most [] = Unit {0}
AreAbove last most (n ∷ x) = (last < n) × (n ≤ most) × AreAbove n most x

-- the needs that were read end at last, and the rest holds what follows them in any needs that the
-- bytes hold
pub record NeedsSoFar (most : ℕ) (bytes needs : List ℕ) (last : ℕ) (rest : List ℕ) : Type 0 where
  pub are : AreNeeds most needs
  pub ends : (k : ℕ) → k + 1 ≡ length needs → get_or needs k 0 ≡ last
  pub cut : bytes ≡ counted needs ++ rest
  pub only : (y : List ℕ) → AreNeeds most y → bytes ≡ counted y → (more : List ℕ)
      × AreAbove last most more × (y ≡ needs ++ more) × (rest ≡ counted more)

next_at : (n : ℕ) (x : List ℕ) (k : ℕ) → get_or (n ∷ x) (k + 1) 0 ≡ get_or x k 0
next_at n x k = rw add-one

above_from : (x : List ℕ) (last most : ℕ) → (0 < length x → last < get_or x 0 0)
    → IsStrictlyIncreasing x → All (λ j. (1 ≤ j) × (j ≤ most)) x → AreAbove last most x
above_from [] last most h up w = tt
above_from (n ∷ x) last most h up w = (
  h (omega arith),
  (All-head (λ j. (1 ≤ j) × (j ≤ most)) n x w).1,
  above_from x n most (λ some. up 0 (omega (arith, some)))
      (λ k lt. omega (arith, up (k + 1) (omega (arith, lt)), next_at n x k, next_at n x (k + 1)))
      (All-tail (λ j. (1 ≤ j) × (j ≤ most)) n x w),
)

pub needs_begin : (most : ℕ) (bytes : List ℕ) → NeedsSoFar most bytes [] 0 bytes
needs_begin most bytes = record {
  are = record {
    ascending = λ k lt. absurd (omega (arith, lt));
    within = All-nil (λ j. (1 ≤ j) × (j ≤ most));
  };
  ends = λ k e. absurd (omega (arith, e));
  cut = refl;
  only = λ y h e. (
    y,
    above_from y 0 most
        (λ some. (All-get_or (λ j. (1 ≤ j) × (j ≤ most)) y 0 0 some h.within).0) h.ascending
        h.within,
    refl,
    e,
  );
}

-- what another need leaves of those that are due
next_need : (needs y more : List ℕ) (last most n : ℕ) (rest after : List ℕ) → most < 2 ^ 64
    → AreAbove last most more → y ≡ needs ++ more → rest ≡ counted more → n ≤ most → IsStop after
    → rest ≡ 32 ∷ (decimal n ++ after)
    → (later : List ℕ) × AreAbove n most later × (y ≡ (needs ++ n ∷ []) ++ later)
    × (after ≡ counted later)
next_need needs y [] last most n rest after fits above e f high stop g = absurd (cc)
next_need needs y (b ∷ more) last most n rest after fits above e f high stop g =
    let tails : decimal n ++ after ≡ decimal b ++ counted more = cc in
    let (p, q) = same_entry (pos n) (pos b) after (counted more)
    (count_entry n (omega (arith, high, fits))) (count_entry b (omega (arith, above.1, fits)))
    stop (counted-stop more) tails in
    let r : n ≡ b = cc in (
      more,
      subst (λ (k : ℕ). AreAbove k most more) (sym r) above.2,
      e ∙ ap (λ z. needs ++ z ∷ more) (sym r) ∙ sym (append_assoc needs (n ∷ []) more),
      q,
    )

ascends_push : (needs : List ℕ) (last n : ℕ) → IsStrictlyIncreasing needs
    → ((k : ℕ) → k + 1 ≡ length needs → get_or needs k 0 ≡ last) → last < n
    → IsStrictlyIncreasing (needs ++ n ∷ [])
ascends_push needs last n up ends above k lt =
    ⊎_elim
    (λ e. omega (
      arith,
      get_or_append_left needs (n ∷ []) 0 k (omega (arith, e)),
      get_or_at needs n [] 0 (k + 1) (sym e),
      ends k e,
      above,
    ))
    (λ l. omega (
      arith,
      get_or_append_left needs (n ∷ []) 0 k (omega (arith, l)),
      get_or_append_left needs (n ∷ []) 0 (k + 1) l,
      up k l,
    ))
    (eq-or-lt_of_le {n = k + 1} {m = length needs} (omega (arith, lt, length_push needs n)))

pub needs_more : (most : ℕ) (bytes needs : List ℕ) (last n : ℕ) (rest after : List ℕ)
    → most < 2 ^ 64 → NeedsSoFar most bytes needs last rest → last < n → n ≤ most → IsStop after
    → rest ≡ 32 ∷ (decimal n ++ after)
    → NeedsSoFar most bytes (needs ++ n ∷ []) n after
needs_more most bytes needs last n rest after fits s low high stop e = record {
  are = record {
    ascending = ascends_push needs last n s.are.ascending s.ends low;
    within = All-push (λ j. (1 ≤ j) × (j ≤ most)) needs n s.are.within (omega (arith, low), high);
  };
  ends = λ k f. get_or_at needs n [] 0 k (omega (arith, f, length_push needs n));
  cut = s.cut ∙ ap (λ r. counted needs ++ r) e
      ∙ sym (append_assoc (counted needs) (32 ∷ decimal n) after)
      ∙ ap (λ r. r ++ after) (sym (counted-push needs n));
  only = λ y h f. let o = s.only y h f in next_need needs y o.0 last most n rest after fits o.1 o.2
      o.3 high stop e;
}

-- where bytes are left and no need stands next, the bytes are no needs
pub needs_none : (most : ℕ) (bytes needs : List ℕ) (last : ℕ) (rest : List ℕ)
    → NeedsSoFar most bytes needs last rest → rest ≢ []
    → ((n : ℕ) (after : List ℕ) → last < n → n ≤ most → IsStop after
    → rest ≡ 32 ∷ (decimal n ++ after) → ⊥)
    → (y : List ℕ) → AreNeeds most y → bytes ≡ counted y → ⊥
needs_none most bytes needs last rest s left none y h e =
    let o = s.only y h e in at o.0 o.1 o.3 where
      at : (more : List ℕ) → AreAbove last most more → rest ≡ counted more → ⊥
      at [] above g = left g
      at (n ∷ more) above g = none n (counted more) above.0 above.1 (counted-stop more) g

-- where no bytes are left, the needs are all
pub needs_end : (most : ℕ) (bytes needs : List ℕ) (last : ℕ) (rest : List ℕ)
    → NeedsSoFar most bytes needs last rest → rest ≡ [] → AreNeeds most needs
    × (bytes ≡ counted needs)
needs_end most bytes needs last rest s e =
    (s.are, s.cut ∙ ap (λ r. counted needs ++ r) e ∙ append-nil (counted needs))

-- likewise for so many numbers
pub numbers_end : (count : ℕ) (bytes : List ℕ) (x : List ℤ) (rest : List ℕ)
    → NumbersSoFar count bytes x rest → rest ≡ [] → bytes ≡ numbered x
numbers_end count bytes x rest s e = s.cut ∙ ap (λ r. numbered x ++ r) e ∙ append-nil (numbered x)

-- ---- tests for the end

pub not_empty : (b : Bool) (x : List ℕ) → b ≡ eqb (length x) 0 → b ≡ false → x ≢ []
not_empty b x h f e = let p : eqb (length x) 0 ≡ true = ap (λ (y : List ℕ). eqb (length y) 0)
    e in cc

pub is_empty_nil : (b : Bool) (x : List ℕ) → b ≡ eqb (length x) 0 → b ≡ true → x ≡ []
is_empty_nil b x h t = nil_from_length x (eqb-true (length x) 0 (sym h ∙ t))
