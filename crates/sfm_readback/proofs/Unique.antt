-- A text says one thing: each kind of line determines what it says, and so does a whole answer
-- text.
use Rattle.std.proofs.Common.{◌≡◌, ◌≢◌, ℕ, suc, ◌+◌, ◌<◌, ◌≤◌, ◌^◌, Bool, true, false, List, [], ◌∷◌, ◌++◌, length, ℤ, pos, inl, inr, refl, sym, ap, ◌∙◌, arith, append_assoc}
use Rattle.std.specs.Prelude.{AllPairs, codes}
use Rattle.std.specs.List.{All}
use Rattle.std.specs.Fmt.{decimal, signed_decimal}
use Rattle.std.proofs.lemmas.List.{append-nil, append_cancel_left}
use Rattle.std.proofs.lemmas.List.Elements.{All-head, All-tail, All-weaker}
use Rattle.std.proofs.lemmas.Bool.{false≢true}
use Rattle.sfm_spec.specs.Names.{IsName}
use Rattle.sfm_spec.specs.Bounds.{IsEntry}
use Rattle.sfm_spec.specs.Blocks.{Block}
use Rattle.sfm_kind.specs.Names.{AreElementNames, IsNewName}
use Rattle.sfm_cert.specs.Answer.{listed, slope_text}
use Rattle.sfm_cert.specs.LineLists.{counted, numbered}
use Rattle.sfm_readback.specs.Lines.{IsSetLine, IsValueLine, IsRowLine, IsBlockLine, IsSlopeLine, Ratio}
use Rattle.sfm_readback.specs.Lists.{IsNamesStop}
use Rattle.sfm_readback.proofs.Tokens.{one_number, same_entry, count_entry, slope_text-same, slope_text-plain, factor_entry}
use Rattle.sfm_readback.proofs.Needs.{numbered-stop, counted-stop}
use Rattle.sfm_readback.proofs.Names.{listed_first, listed-stop}
use Rattle.sfm_readback.proofs.LineForms.{block_cut, slope_line_cut, slope_parts_of_line, list_stop, value_parts, row_cut, row_parts}

-- ---- lists of names

-- each name is none of those behind it
abbrev AreFresh : List (List ℕ) → Type 0
AreFresh [] = Unit {0}
AreFresh (m ∷ names) = IsNewName names m × AreFresh names

are_fresh : (names : List (List ℕ)) → AllPairs (λ a b. a ≢ b) names → AreFresh names
are_fresh [] h = tt
are_fresh (m ∷ names) h = (
  λ k d lt e. h 0 (suc k) d (omega arith) (omega (arith, lt)) (sym e),
  are_fresh names (λ i j d a b. h (suc i) (suc j) d (omega (arith, a)) (omega (arith, b))),
)

same_listed : (names : List (List ℕ)) → All IsName names → AreFresh names
    → (s t : List Bool) (u v : List ℕ) → length s ≡ length names → length t ≡ length names
    → IsNamesStop u → IsNamesStop v
    → listed names s ++ u ≡ listed names t ++ v → (s ≡ t) × (u ≡ v)
same_listed [] hn hf [] [] u v ns nt su sv e = (refl, e)
same_listed [] hn hf (b ∷ s) t u v ns nt su sv e = absurd (omega (arith, ns))
same_listed [] hn hf [] (c ∷ t) u v ns nt su sv e = absurd (omega (arith, nt))
same_listed (m ∷ names) hn hf [] t u v ns nt su sv e = absurd (omega (arith, ns))
same_listed (m ∷ names) hn hf (b ∷ s) [] u v ns nt su sv e = absurd (omega (arith, nt))
same_listed (m ∷ names) hn hf (false ∷ s) (false ∷ t) u v ns nt su sv e =
    let r = same_listed names (All-tail IsName m names hn) hf.1 s t u v (omega (arith, ns))
    (omega (arith, nt)) su sv e in
    (ap (λ x. false ∷ x) r.0, r.1)
same_listed (m ∷ names) hn hf (true ∷ s) (c ∷ t) u v ns nt su sv e =
    let f = listed_first m names c t v (listed names s ++ u) hn hf.0 sv (listed-stop names s u su)
    (sym e ∙ ap (λ x. 32 ∷ x) (append_assoc m (listed names s) u)) in
    let r = same_listed names (All-tail IsName m names hn) hf.1 s t u v (omega (arith, ns))
    (omega (arith, nt)) su sv (sym f.1) in
    (ap (λ x. true ∷ x) r.0 ∙ ap (λ x. x ∷ t) (sym f.0), r.1)
same_listed (m ∷ names) hn hf (false ∷ s) (true ∷ t) u v ns nt su sv e =
    let f = listed_first m names false s u (listed names t ++ v) hn hf.0 su
    (listed-stop names t v sv) (e ∙ ap (λ x. 32 ∷ x) (append_assoc m (listed names t) v)) in
    absurd (false≢true f.0)

-- a list of names determines its set
pub listed-same : (names : List (List ℕ)) (s t : List Bool) → AreElementNames names
    → length s ≡ length names → length t ≡ length names → listed names s ≡ listed names t → s ≡ t
listed-same names s t h ns nt e =
    (same_listed names h.forms (are_fresh names h.distinct) s t [] [] ns nt (inl refl) (inl refl)
    (append-nil (listed names s) ∙ e ∙ sym (append-nil (listed names t)))).0

-- ---- lists of numbers

pub numbered-same : (x y : List ℤ) → All IsEntry x → All IsEntry y → numbered x ≡ numbered y → x ≡ y
numbered-same [] [] hx hy e = refl
numbered-same [] (b ∷ y) hx hy e = cc
numbered-same (a ∷ x) [] hx hy e = cc
numbered-same (a ∷ x) (b ∷ y) hx hy e =
    let r = same_entry a b (numbered x) (numbered y) (All-head IsEntry a x hx)
    (All-head IsEntry b y hy) (numbered-stop x) (numbered-stop y) (tail_of e) in
    let more = numbered-same x y (All-tail IsEntry a x hx) (All-tail IsEntry b y hy) r.1 in
    ap (λ c. c ∷ x) r.0 ∙ ap (λ z. b ∷ z) more where
      tail_of : {p q : List ℕ} → 32 ∷ p ≡ 32 ∷ q → p ≡ q
      tail_of e = cc

pub counted-same : (x y : List ℕ) → All (λ n. n < 2 ^ 64) x → All (λ n. n < 2 ^ 64) y
    → counted x ≡ counted y → x ≡ y
counted-same [] [] hx hy e = refl
counted-same [] (b ∷ y) hx hy e = cc
counted-same (a ∷ x) [] hx hy e = cc
counted-same (a ∷ x) (b ∷ y) hx hy e =
    let r = same_entry (pos a) (pos b) (counted x) (counted y)
    (count_entry a (All-head (λ n. n < 2 ^ 64) a x hx))
    (count_entry b (All-head (λ n. n < 2 ^ 64) b y hy)) (counted-stop x) (counted-stop y)
    (tail_of e) in
    let more = counted-same x y (All-tail (λ n. n < 2 ^ 64) a x hx)
    (All-tail (λ n. n < 2 ^ 64) b y hy) r.1 in
    ap (λ c. c ∷ x) (pos_of r.0) ∙ ap (λ z. b ∷ z) more where
      tail_of : {p q : List ℕ} → 32 ∷ p ≡ 32 ∷ q → p ≡ q
      tail_of e = cc

      pos_of : {m n : ℕ} → pos m ≡ pos n → m ≡ n
      pos_of e = cc

-- ---- lines

pub block_line-same : (names : List (List ℕ)) (i : ℕ) (line : List ℕ) (a b : Block)
    → AreElementNames names → i < 2 ^ 64 → IsBlockLine names i line a → IsBlockLine names i line b
    → (a.members ≡ b.members) × (a.needs ≡ b.needs)
block_line-same names i line a b h small p q =
    let e : codes "block " ++ (decimal
    (i + 1) ++ (listed names a.members ++ (32 ∷ (58 ∷ counted a.needs)))) ≡ codes
    "block " ++ (decimal (i + 1) ++ (listed names b.members ++ (32 ∷ (58 ∷ counted b.needs))))
    = sym (block_cut names (i + 1) a) ∙ sym p.1 ∙ q.1 ∙ block_cut names (i + 1) b in
    let f = append_cancel_left (decimal (i + 1)) _ _ (append_cancel_left (codes "block ") _ _ e) in
    let r = same_listed names h.forms (are_fresh names h.distinct) a.members b.members
    (32 ∷ (58 ∷ counted a.needs)) (32 ∷ (58 ∷ counted b.needs)) p.0.members.places
    q.0.members.places (inr (counted a.needs, refl)) (inr (counted b.needs, refl)) f in (
      r.0,
      counted-same a.needs b.needs (bound a.needs p.0.before) (bound b.needs q.0.before)
          (tails r.1),
    ) where
      tails : {x y : List ℕ} → 32 ∷ (58 ∷ x) ≡ 32 ∷ (58 ∷ y) → x ≡ y
      tails e = cc

      bound : (x : List ℕ) → All (λ j. (1 ≤ j) × (j ≤ i)) x → All (λ n. n < 2 ^ 64) x
      bound x w = All-weaker (λ j. (1 ≤ j) × (j ≤ i)) (λ n. n < 2 ^ 64)
          (λ j p. omega (arith, p.1, small)) x w

pub slope_line-same : (names : List (List ℕ)) (line : List ℕ) (r r' : Ratio) (s s' : List Bool)
    → AreElementNames names → IsSlopeLine names line r s → IsSlopeLine names line r' s'
    → (r.num ≡ r'.num) × (r.den ≡ r'.den) × (s ≡ s')
slope_line-same names line r r' s s' h p q =
    let t = slope_parts_of_line names line (slope_text r.num r.den ++ listed names s)
    (slope_text r.num r.den) (listed names s) r' s'
    (p.written ∙ slope_line_cut names r.num r.den s) refl
    (slope_text-plain r.num r.den p.entry (factor_entry r.den p.factor)) (list_stop names s) q in
    let n = slope_text-same r.num r.den r'.num r'.den p.entry (factor_entry r.den p.factor) q.entry
    (factor_entry r'.den q.factor) t.0 in
    (n.0, n.1, listed-same names s s' h p.members.places q.members.places t.1)

pub row_line-same : (word label : List ℕ) (width : ℕ) (line : List ℕ) (x y : List ℤ)
    → IsRowLine word label width line x → IsRowLine word label width line y → x ≡ y
row_line-same word label width line x y p q =
    numbered-same x y p.1 q.1 (row_parts word label width line (numbered x) y
    (p.2 ∙ row_cut word label x) q)

pub value_line-same : (word line : List ℕ) (v w : ℤ) → IsValueLine word line v
    → IsValueLine word line w → v ≡ w
value_line-same word line v w p q =
    one_number v w p.0 q.0 (value_parts word line (signed_decimal v) w p.1 q.1)

pub set_line-same : (word : List ℕ) (names : List (List ℕ)) (line : List ℕ) (s t : List Bool)
    → AreElementNames names → IsSetLine word names line s → IsSetLine word names line t → s ≡ t
set_line-same word names line s t h p q =
    listed-same names s t h p.0 q.0
    (append_cancel_left word (listed names s) (listed names t) (sym p.1 ∙ q.1))
