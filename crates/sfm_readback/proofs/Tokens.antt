-- Where a name or a number ends: what stands in front of a separator is told by the bytes, and a
-- number by its text.
use Rattle.std.proofs.Common.{◌≡◌, ◌≢◌, ℕ, suc, ◌+◌, ◌-◌, ◌<◌, ◌≤◌, ◌^◌, ◌⊎◌, List, [], ◌∷◌, ◌++◌, length, get_or, take, drop, ℤ, pos, negsuc, nat_abs, Bor, inr, refl, sym, ap, subst, ◌∙◌, arith}
use Rattle.std.specs.Prelude.{Option, Some, None, MatchOption}
use Rattle.std.specs.List.{All}
use Rattle.std.specs.Fmt.{decimal, signed_decimal}
use Rattle.std.specs.Str.Parse.{AllDigits}
use Rattle.std.proofs.lemmas.List.{append_assoc, append_cancel_left, take-append-drop, take_rest, drop_more}
use Rattle.std.proofs.lemmas.List.Elements.{All-nil, All-cons, All-head, All-tail, All-weaker, All-append}
use Rattle.std.proofs.lemmas.Int.{ints}
use Rattle.std.proofs.lemmas.Str.Parse.{digit_from_value}
use Rattle.std.proofs.lemmas.Fmt.{decimal_is_IsNumeral_wide}
use mathlib.Core.Logic.{⊎_elim}
use Rattle.sfm_spec.specs.Bounds.{IsEntry, IsFactor}
use Rattle.sfm_base.specs.NumberText.{IsNumber}
use Rattle.sfm_base.proofs.Slopes.{abs-at_most}
use Rattle.sfm_base.proofs.NumberText.{Reads, number_of_text, text_of_number, one_value}
use Rattle.sfm_cert.specs.Answer.{slope_text}
use Rattle.sfm_readback.specs.Lists.{IsStop}

-- ---- separators

-- nothing, or the separator and more
abbrev pub IsStopAt : ℕ → List ℕ → Type 0
IsStopAt k rest = (rest ≡ []) ⊎ ((more : List ℕ) × (rest ≡ k ∷ more))

no_stop : (k d : ℕ) (u y : List ℕ) → IsStopAt k u → d ≢ k → u ≡ d ∷ y → ⊥
no_stop k d u y s h e =
    ⊎_elim (λ n. let f : [] ≡ d ∷ y = sym n ∙ e in cc)
    (λ m. let f : k ∷ m.0 ≡ d ∷ y = sym m.1 ∙ e in h cc) s

-- what stands before the first separator is one thing
pub same_front : (k : ℕ) (x y u v : List ℕ) → All (λ c. c ≢ k) x → All (λ c. c ≢ k) y → IsStopAt k u
    → IsStopAt k v → x ++ u ≡ y ++ v → (x ≡ y) × (u ≡ v)
same_front k [] [] u v hx hy su sv e = (refl, e)
same_front k [] (d ∷ y) u v hx hy su sv e =
    absurd (no_stop k d u (y ++ v) su (All-head (λ c. c ≢ k) d y hy) e)
same_front k (c ∷ x) [] u v hx hy su sv e =
    absurd (no_stop k c v (x ++ u) sv (All-head (λ c. c ≢ k) c x hx) (sym e))
same_front k (c ∷ x) (d ∷ y) u v hx hy su sv e =
    let tail : x ++ u ≡ y ++ v = cc in
    let head : c ≡ d = cc in
    let (f, g) = same_front k x y u v (All-tail (λ c. c ≢ k) c x hx) (All-tail (λ c. c ≢ k) d y hy)
    su sv tail in
    (cc, g)

-- a text is what stands before a place, the byte there, and what stands behind it
pub cut_around : (k : ℕ) (x : List ℕ) (i : ℕ) → i < length x → get_or x i 0 ≡ k
    → x ≡ take i x ++ (k ∷ take (length x - (i + 1)) (drop (i + 1) x))
cut_around k x i lt e =
    sym (take-append-drop i x) ∙ ap (λ (l : List ℕ). take i x ++ l)
    (drop_more x i 0 lt ∙ ap (λ (c : ℕ). c ∷ drop (i + 1) x) e
    ∙ ap (λ (l : List ℕ). k ∷ l) (sym (take_rest x (i + 1))))

-- ---- the bytes of a number

-- a minus or a digit
abbrev pub IsNumberByte : ℕ → Type 0
IsNumberByte c = (45 ≤ c) × (c ≤ 57) × (c ≢ 47)

digits_plain : (cs : List ℕ) → AllDigits 10 cs → All IsNumberByte cs
digits_plain [] h = All-nil IsNumberByte
digits_plain (c ∷ cs) h =
    let r = digit_from_value c h.0 in
    All-cons IsNumberByte c cs (omega (arith, r), omega (arith, r), λ e. omega (arith, r, e))
    (digits_plain cs h.1)

pub decimal_plain : (n : ℕ) → n < 10 ^ 64 → All IsNumberByte (decimal n)
decimal_plain n h = digits_plain (decimal n) (decimal_is_IsNumeral_wide n h).0.1

pub number_plain : (a : ℤ) → nat_abs a < 10 ^ 64 → All IsNumberByte (signed_decimal a)
number_plain (pos n) h = decimal_plain n h
number_plain (negsuc n) h = All-cons IsNumberByte 45 (decimal (suc n))
    (omega arith, omega arith, λ e. omega (arith, e)) (decimal_plain (suc n) h)

pub entry_small : (a : ℤ) → IsEntry a → nat_abs a < 10 ^ 64
entry_small a h = omega (arith, abs-at_most (10 ^ 30) a h)

pub entry_plain : (a : ℤ) → IsEntry a → All IsNumberByte (signed_decimal a)
entry_plain a h = number_plain a (entry_small a h)

pub no_space : (x : List ℕ) → All IsNumberByte x → All (λ c. c ≢ 32) x
no_space x h = All-weaker IsNumberByte (λ c. c ≢ 32) (λ c p e. omega (arith, p.0, e)) x h

pub no_slash : (x : List ℕ) → All IsNumberByte x → All (λ c. c ≢ 47) x
no_slash x h = All-weaker IsNumberByte (λ c. c ≢ 47) (λ c p e. p.2 e) x h

-- ---- a text is one number's

pub one_number : (a b : ℤ) → IsEntry a → IsEntry b → signed_decimal a ≡ signed_decimal b → a ≡ b
one_number a b h k e =
    one_value (signed_decimal a) a b (number_of_text a (entry_small a h))
    (subst (λ (x : List ℕ). IsNumber x b) (sym e) (number_of_text b (entry_small b k)))

pub entry_read : (bytes : List ℕ) (r : Option ℤ) → Reads bytes r
    → MatchOption r ((a : ℤ) → IsEntry a → bytes ≡ signed_decimal a → ⊥)
    (λ a. IsEntry a × (bytes ≡ signed_decimal a))
entry_read bytes None h = λ a e w. let p : None ≡ Some a = (h a).1
    (subst (λ (x : List ℕ). IsNumber x a) (sym w) (number_of_text a (entry_small a e)), e) in cc
entry_read bytes (Some a) h = let (n, e) = (h a).0
    refl in (e, text_of_number bytes a n (entry_small a e))

-- a number in front of a space or of nothing is told by the bytes
pub same_entry : (a b : ℤ) (u v : List ℕ) → IsEntry a → IsEntry b → IsStop u → IsStop v
    → signed_decimal a ++ u ≡ signed_decimal b ++ v → (a ≡ b) × (u ≡ v)
same_entry a b u v h k su sv e =
    let (f, g) = same_front 32 (signed_decimal a) (signed_decimal b) u v
    (no_space _ (entry_plain a h)) (no_space _ (entry_plain b k)) su sv e in
    (one_number a b h k f, g)

-- ---- slopes

pub slope_cut : (p q : ℤ) → slope_text p q ≡ signed_decimal p ++ (47 ∷ signed_decimal q)
slope_cut p q = append_assoc (signed_decimal p) (47 ∷ []) (signed_decimal q)

-- printing a slope is one-to-one
pub slope_text-same : (p q p' q' : ℤ) → IsEntry p → IsEntry q → IsEntry p' → IsEntry q'
    → slope_text p q ≡ slope_text p' q' → (p ≡ p') × (q ≡ q')
slope_text-same p q p' q' hp hq hp' hq' e =
    let f : signed_decimal p ++ (47 ∷ signed_decimal q) ≡ signed_decimal
    p' ++ (47 ∷ signed_decimal q') = sym (slope_cut p q) ∙ e ∙ slope_cut p' q' in
    let (g, h) = same_front 47 (signed_decimal p) (signed_decimal p') (47 ∷ signed_decimal q)
    (47 ∷ signed_decimal q') (no_slash _ (entry_plain p hp)) (no_slash _ (entry_plain p' hp'))
    (inr (signed_decimal q, refl)) (inr (signed_decimal q', refl)) f in
    let k : signed_decimal q ≡ signed_decimal q' = cc in
    (one_number p p' hp hp' g, one_number q q' hq hq' k)

-- what is a slope's text has no space
pub slope_text-plain : (p q : ℤ) → IsEntry p → IsEntry q → All (λ c. c ≢ 32) (slope_text p q)
slope_text-plain p q hp hq =
    All-append (λ c. c ≢ 32) (signed_decimal p ++ 47 ∷ []) (signed_decimal q)
    (All-append (λ c. c ≢ 32) (signed_decimal p) (47 ∷ []) (no_space _ (entry_plain p hp))
    (All-cons (λ c. c ≢ 32) 47 [] (λ e. omega (arith, e)) (All-nil (λ c. c ≢ 32))))
    (no_space _ (entry_plain q hq))

-- ---- counts

pub count_entry : (n : ℕ) → n < 2 ^ 64 → IsEntry (pos n)
count_entry n h = record { low = omega (arith, ints, h); high = omega (arith, ints, h) }

-- ---- the parts of a slope

pub factor_entry : (q : ℤ) → IsFactor q → IsEntry q
factor_entry q h = record { low = omega (arith, ints, h.low); high = omega (arith, ints, h.high) }

pub no_middle : (k : ℕ) (x y : List ℕ) → All (λ c. c ≢ k) (x ++ (k ∷ y)) → ⊥
no_middle k [] y h = All-head (λ c. c ≢ k) k y h refl
no_middle k (c ∷ x) y h = no_middle k x y (All-tail (λ c. c ≢ k) c (x ++ (k ∷ y)) h)

-- a slope's text holds a slash
pub no_slope : (bytes : List ℕ) (p q : ℤ) → All (λ c. c ≢ 47) bytes → bytes ≡ slope_text p q → ⊥
no_slope bytes p q h e = no_middle 47 (signed_decimal p) (signed_decimal q)
    (subst (λ (x : List ℕ). All (λ c. c ≢ 47) x) (e ∙ slope_cut p q) h)

pub slope_parts : (bytes front back : List ℕ) (p q : ℤ) → All (λ c. c ≢ 47) front
    → bytes ≡ front ++ (47 ∷ back) → IsEntry p → bytes ≡ slope_text p q → (front ≡ signed_decimal p)
    × (back ≡ signed_decimal q)
slope_parts bytes front back p q h e k f =
    let (a, b) = same_front 47 front (signed_decimal p) (47 ∷ back) (47 ∷ signed_decimal q) h
    (no_slash _ (entry_plain p k)) (inr (back, refl)) (inr (signed_decimal q, refl))
    (sym e ∙ f ∙ slope_cut p q) in
    (a, cc)

-- ---- one word behind another

pub behind_both : (line word label rest : List ℕ) (r : Option (Bor (List ℕ))) → line ≡ word ++ rest
    → MatchOption r ((d : List ℕ) → rest ≡ label ++ d → ⊥) (λ x. rest ≡ label ++ x.now)
    → MatchOption r ((d : List ℕ) → line ≡ word ++ (label ++ d) → ⊥)
    (λ x. line ≡ word ++ (label ++ x.now))
behind_both line word label rest None e h =
    λ d p. h d (append_cancel_left word rest (label ++ d) (sym e ∙ p))
behind_both line word label rest (Some x) e h = e ∙ ap (λ z. word ++ z) h
