-- Lines that hold no line feed: those of words, numbers and names, and the one way in which they
-- make a text.
use Rattle.std.proofs.Common.{◌≡◌, ◌≢◌, ℕ, zero, suc, ◌+◌, ◌/◌, ◌%◌, Bool, true, false, not, ◌&&◌, List, [], ◌∷◌, ◌++◌, ℤ, pos, negsuc, inr, refl, sym, ap, ◌∙◌, arith, append_assoc, if◌then◌else◌}
use Rattle.std.specs.Prelude.{codes, nat_lt}
use Rattle.std.specs.List.{All}
use Rattle.std.specs.Fmt.{decimal, signed_decimal, digits, digits_onto, digit_glyph}
use Rattle.std.proofs.lemmas.List.{append-nil}
use Rattle.std.proofs.lemmas.List.Elements.{All-nil, All-cons, All-head, All-tail, All-append, All-same, All-weaker}
use Rattle.std.proofs.lemmas.Bool.{eq-eqb}
use mathlib.Core.Bool.{true≢false}
use lib.Dec.{eqb}
use mathlib.Core.Logic.{⊎_elim}
use Rattle.sfm_spec.specs.Names.{IsName, IsNameByte}
use Rattle.sfm_cert.specs.Answer.{listed, slope_text, text_of, at_line}
use Rattle.sfm_cert.specs.LineLists.{row_line, counted, numbered}
use Rattle.sfm_cert.specs.Grammar.{IsLine}
use Rattle.sfm_readback.proofs.Tokens.{same_front}

-- no byte is a line feed
abbrev pub clear : List ℕ → Bool
clear [] = true
clear (c ∷ w) = not (eqb c 10) && clear w

and_both : (a b : Bool) → (a && b) ≡ true → (a ≡ true) × (b ≡ true)
and_both true b h = (refl, h)
and_both false b h = absurd (true≢false (sym h))

not_ten : (c : ℕ) → not (eqb c 10) ≡ true → c ≢ 10
not_ten c h e = true≢false (sym h ∙ ap not (eq-eqb c 10 e))

pub word_line : (w : List ℕ) → clear w ≡ true → IsLine w
word_line [] h = All-nil (λ c. c ≢ 10)
word_line (c ∷ w) h = let b = and_both (not (eqb c 10)) (clear w) h in All-cons (λ c. c ≢ 10) c w
    (not_ten c b.0) (word_line w b.1)

-- ---- numbers

glyph_big : (b : Bool) (d : ℕ) → (if b then 48 + d else 87 + d) ≢ 10
glyph_big true d e = omega (arith, e)
glyph_big false d e = omega (arith, e)

either_line : (b : Bool) (x y : List ℕ) → IsLine x → IsLine y → IsLine (if b then x else y)
either_line true x y h k = h
either_line false x y h k = k

onto_line : (k n : ℕ) (acc : List ℕ) → IsLine acc → IsLine (digits_onto k 10 false n acc)
onto_line zero n acc h = h
onto_line (suc k) n acc h =
    let more : IsLine (digit_glyph false (n % 10) ∷ acc) = All-cons (λ c. c ≢ 10)
    (digit_glyph false (n % 10)) acc (glyph_big (nat_lt (n % 10) 10) (n % 10)) h in
    either_line (eqb (n / 10) 0) (digit_glyph false (n % 10) ∷ acc)
    (digits_onto k 10 false (n / 10) (digit_glyph false (n % 10) ∷ acc)) more
    (onto_line k (n / 10) (digit_glyph false (n % 10) ∷ acc) more)

pub decimal_line : (n : ℕ) → IsLine (decimal n)
unfolding digits
decimal_line n = onto_line 64 n [] (All-nil (λ c. c ≢ 10))

pub number_line : (a : ℤ) → IsLine (signed_decimal a)
number_line (pos n) = decimal_line n
number_line (negsuc n) = All-cons (λ c. c ≢ 10) 45 (decimal (suc n)) (λ e. omega (arith, e))
    (decimal_line (suc n))

-- ---- pieces of a line

pub joined : (x y : List ℕ) → IsLine x → IsLine y → IsLine (x ++ y)
joined x y h k = All-append (λ c. c ≢ 10) x y h k

spaced : (x : List ℕ) → IsLine x → IsLine (32 ∷ x)
spaced x h = All-cons (λ c. c ≢ 10) 32 x (λ e. omega (arith, e)) h

name_line : (name : List ℕ) → IsName name → IsLine name
name_line name h = All-weaker IsNameByte (λ c. c ≢ 10) byte name h.bytes where
  byte : (c : ℕ) → IsNameByte c → c ≢ 10
  byte c b e = ⊎_elim (λ p. omega (arith, p.0, e))
      (λ q. ⊎_elim (λ p. omega (arith, p.0, e))
      (λ r. ⊎_elim (λ p. omega (arith, p, e)) (λ p. omega (arith, p.0, e)) r) q) b

pub listed_line : (names : List (List ℕ)) (s : List Bool) → All IsName names
    → IsLine (listed names s)
listed_line [] s h = All-nil (λ c. c ≢ 10)
listed_line (name ∷ names) [] h = All-nil (λ c. c ≢ 10)
listed_line (name ∷ names) (true ∷ s) h =
    joined (32 ∷ name) (listed names s)
    (spaced name (name_line name (All-head IsName name names h)))
    (listed_line names s (All-tail IsName name names h))
listed_line (name ∷ names) (false ∷ s) h = listed_line names s (All-tail IsName name names h)

pub counted_line : (x : List ℕ) → IsLine (counted x)
counted_line [] = All-nil (λ c. c ≢ 10)
counted_line (n ∷ x) = joined (32 ∷ decimal n) (counted x) (spaced (decimal n) (decimal_line n))
    (counted_line x)

pub numbered_line : (x : List ℤ) → IsLine (numbered x)
numbered_line [] = All-nil (λ c. c ≢ 10)
numbered_line (a ∷ x) = joined (32 ∷ signed_decimal a) (numbered x)
    (spaced (signed_decimal a) (number_line a)) (numbered_line x)

pub row_line_line : (word label : List ℕ) (x : List ℤ) → IsLine word → IsLine label
    → IsLine (row_line word label x)
row_line_line word label x w l = joined (word ++ label) (numbered x) (joined word label w l)
    (numbered_line x)

pub slope_text_line : (p q : ℤ) → IsLine (slope_text p q)
slope_text_line p q = joined (signed_decimal p ++ codes "/") (signed_decimal q)
    (joined (signed_decimal p) (codes "/") (number_line p) (word_line (codes "/") refl))
    (number_line q)

pub at_line_line : (p q : ℤ) → IsLine (at_line p q)
at_line_line p q = joined (codes "at ") (slope_text p q) (word_line (codes "at ") refl)
    (slope_text_line p q)

pub same_line : (x y : List ℕ) → x ≡ y → IsLine y → IsLine x
same_line x y e h = All-same (λ c. c ≢ 10) x y e h

-- ---- texts

-- a text is cut into lines in one way
pub text_lines : (xs ys : List (List ℕ)) (behind : List ℕ) → All IsLine xs → All IsLine ys
    → text_of ys ≡ text_of xs ++ behind → (more : List (List ℕ)) × (ys ≡ xs ++ more)
    × (behind ≡ text_of more)
text_lines [] ys behind hx hy e = (ys, refl, sym e)
text_lines (x ∷ xs) [] behind hx hy e = absurd (some x e) where
  some : (x : List ℕ) → [] ≡ (x ++ (10 ∷ text_of xs)) ++ behind → ⊥
  some [] e = cc
  some (c ∷ x) e = cc
text_lines (x ∷ xs) (y ∷ ys) behind hx hy e =
    let f : y ++ (10 ∷ text_of ys) ≡ x ++ (10 ∷ (text_of xs ++ behind)) = e
    ∙ append_assoc x (10 ∷ text_of xs) behind in
    let s = same_front 10 y x (10 ∷ text_of ys) (10 ∷ (text_of xs ++ behind))
    (All-head IsLine y ys hy) (All-head IsLine x xs hx) (inr (text_of ys, refl))
    (inr (text_of xs ++ behind, refl)) f in
    let t = text_lines xs ys behind (All-tail IsLine x xs hx) (All-tail IsLine y ys hy)
    (tail_of s.1) in
    (t.0, ap (λ l. l ∷ ys) s.0 ∙ ap (λ l. x ∷ l) t.1, t.2) where
      tail_of : {a b : List ℕ} → 10 ∷ a ≡ 10 ∷ b → a ≡ b
      tail_of e = cc

-- lines of one text are the same
pub same_lines : (xs ys : List (List ℕ)) → All IsLine xs → All IsLine ys → text_of xs ≡ text_of ys
    → xs ≡ ys
same_lines xs ys hx hy e =
    let t = text_lines ys xs [] hy hx (e ∙ sym (append-nil (text_of ys))) in
    t.1 ∙ ap (λ m. ys ++ m) (no_more t.0 t.2) ∙ append-nil ys where
      no_more : (more : List (List ℕ)) → [] ≡ text_of more → more ≡ []
      no_more [] e = refl
      no_more ([] ∷ more) e = absurd (cc)
      no_more ((c ∷ line) ∷ more) e = absurd (cc)
