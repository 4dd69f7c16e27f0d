-- What a line says is told by the line, one kind at a time.
use Rattle.std.proofs.Common.{◌≡◌, ◌≢◌, ℕ, ◌+◌, Bool, List, [], ◌∷◌, ◌++◌, length, ℤ, refl, sym, ap, subst, ◌∙◌, append_assoc, inl, inr}
use Rattle.std.specs.Prelude.{codes}
use Rattle.std.specs.List.{All}
use Rattle.std.specs.Fmt.{decimal, signed_decimal}
use Rattle.std.proofs.lemmas.List.{append-nil, append_cancel_left}
use Rattle.sfm_spec.specs.Sets.{Has}
use Rattle.sfm_spec.specs.Blocks.{Block}
use Rattle.sfm_cert.specs.Answer.{listed, slope_text, block_line}
use Rattle.sfm_cert.specs.LineLists.{counted, numbered, row_line}
use Rattle.sfm_readback.specs.Lists.{IsStop, IsListCut, AreNeeds}
use Rattle.sfm_readback.specs.Lines.{IsSetLine, IsBlockLine, Ratio, IsSlopeLine, IsRowLine}
use Rattle.sfm_readback.proofs.Tokens.{same_front, slope_text-plain, factor_entry}
use Rattle.sfm_readback.proofs.Names.{listed-stop}

-- ---- a word and a list of names

pub set_line_from : (word : List ℕ) (names : List (List ℕ)) (line bytes : List ℕ) (s : List Bool)
    (rest : List ℕ) → line ≡ word ++ bytes → IsListCut names bytes s rest → rest ≡ []
    → IsSetLine word names line s
set_line_from word names line bytes s rest e cut none = (
  cut.places,
  e ∙ ap (λ b. word ++ b)
      (cut.cut ∙ ap (λ r. listed names s ++ r) none ∙ append-nil (listed names s)),
)

pub no_set_line : (word : List ℕ) (names : List (List ℕ)) (line bytes : List ℕ) (s : List Bool)
    (rest : List ℕ) → line ≡ word ++ bytes → IsListCut names bytes s rest → rest ≢ []
    → (t : List Bool) → IsSetLine word names line t → ⊥
no_set_line word names line bytes s rest e cut some t h =
    let f : bytes ≡ listed names t ++ [] = append_cancel_left word bytes (listed names t)
    (sym e ∙ h.1) ∙ sym (append-nil (listed names t)) in
    some (sym (cut.only t [] h.0 (inl refl) f).1)

-- ---- blocks

pub block_cut : (names : List (List ℕ)) (i : ℕ) (block : Block)
    → block_line names i block ≡ codes
    "block " ++ (decimal i ++ (listed names block.members ++ (32 ∷ (58 ∷ counted block.needs))))
block_cut names i block = simp append_assoc

pub block_parts : (names : List (List ℕ)) (i : ℕ) (line bytes : List ℕ) (s : List Bool)
    (rest : List ℕ) (block : Block) → line ≡ codes "block " ++ (decimal (i + 1) ++ bytes)
    → IsListCut names bytes s rest → IsBlockLine names i line block
    → (block.members ≡ s) × (32 ∷ (58 ∷ counted block.needs) ≡ rest)
block_parts names i line bytes s rest block e cut h =
    let f : codes "block " ++ (decimal (i + 1) ++ bytes) ≡ codes
    "block " ++ (decimal (i + 1)
    ++ (listed names block.members ++ (32 ∷ (58 ∷ counted block.needs)))) = sym e ∙ h.1
    ∙ block_cut names (i + 1) block in
    let g = append_cancel_left (decimal (i + 1)) _ _ (append_cancel_left (codes "block ") _ _ f) in
    cut.only block.members (32 ∷ (58 ∷ counted block.needs)) h.0.members.places
    (inr (counted block.needs, refl)) g

-- a block line has the count of its block
pub block_count : (names : List (List ℕ)) (i : ℕ) (line : List ℕ) (block : Block)
    → IsBlockLine names i line block
    → line ≡ codes "block " ++ (decimal
    (i + 1) ++ (listed names block.members ++ (32 ∷ (58 ∷ counted block.needs))))
block_count names i line block h = h.1 ∙ block_cut names (i + 1) block

pub block_from : (names : List (List ℕ)) (i : ℕ) (line bytes : List ℕ) (s : List Bool)
    (rest list : List ℕ) (needs : List ℕ) → line ≡ codes "block " ++ (decimal (i + 1) ++ bytes)
    → IsListCut names bytes s rest
    → rest ≡ codes " :" ++ list → ((e : ℕ) × Has s e) → AreNeeds i needs → list ≡ counted needs
    → IsBlockLine names i line (record { members = s; needs = needs })
block_from names i line bytes s rest list needs e cut f some are g = (
  record {
    members = record { places = cut.places; some = some };
    ascending = are.ascending;
    before = are.within;
  },
  e ∙ ap (λ b. codes "block " ++ (decimal (i + 1) ++ b))
      (cut.cut ∙ ap (λ r. listed names s ++ r) (f ∙ ap (λ r. codes " :" ++ r) g))
      ∙ sym (block_cut names (i + 1) (record { members = s; needs = needs })),
)

-- ---- slopes

pub slope_line_cut : (names : List (List ℕ)) (p q : ℤ) (s : List Bool)
    → codes "slope " ++ slope_text p q ++ listed names s ≡ codes
    "slope " ++ (slope_text p q ++ listed names s)
slope_line_cut names p q s = append_assoc (codes "slope ") (slope_text p q) (listed names s)

pub list_stop : (names : List (List ℕ)) (s : List Bool) → IsStop (listed names s)
list_stop names s = subst (λ (x : List ℕ). IsStop x) (append-nil (listed names s))
    (listed-stop names s [] (inl refl))

pub slope_parts_of_line : (names : List (List ℕ)) (line bytes token list : List ℕ) (r : Ratio)
    (s : List Bool) → line ≡ codes "slope " ++ bytes → bytes ≡ token ++ list
    → All (λ c. c ≢ 32) token → IsStop list
    → IsSlopeLine names line r s → (token ≡ slope_text r.num r.den) × (list ≡ listed names s)
slope_parts_of_line names line bytes token list r s e f plain stop h =
    let g : bytes ≡ slope_text r.num r.den ++ listed names s = append_cancel_left (codes "slope ")
    bytes (slope_text r.num r.den ++ listed names s)
    (sym e ∙ h.written ∙ slope_line_cut names r.num r.den s) in
    same_front 32 token (slope_text r.num r.den) list (listed names s) plain
    (slope_text-plain r.num r.den h.entry (factor_entry r.den h.factor)) stop
    (list_stop names s) (sym f ∙ g)

-- the list of a slope line is its set
pub slope_set : (names : List (List ℕ)) (list : List ℕ) (s : List Bool) (rest : List ℕ)
    (t : List Bool) → IsListCut names list s rest → length t ≡ length names → list ≡ listed names t
    → (t ≡ s) × ([] ≡ rest)
slope_set names list s rest t cut n e =
    cut.only t [] n (inl refl) (e ∙ sym (append-nil (listed names t)))

-- ---- a word and a number

pub value_parts : (word line bytes : List ℕ) (v : ℤ) → line ≡ word ++ bytes
    → line ≡ word ++ signed_decimal v → bytes ≡ signed_decimal v
value_parts word line bytes v e h = append_cancel_left word bytes (signed_decimal v) (sym e ∙ h)

-- ---- rows of numbers

pub row_cut : (word label : List ℕ) (x : List ℤ)
    → row_line word label x ≡ word ++ (label ++ numbered x)
row_cut word label x = append_assoc word label (numbered x)

pub row_parts : (word label : List ℕ) (width : ℕ) (line bytes : List ℕ) (x : List ℤ)
    → line ≡ word ++ (label ++ bytes) → IsRowLine word label width line x → bytes ≡ numbered x
row_parts word label width line bytes x e h =
    append_cancel_left label bytes (numbered x)
    (append_cancel_left word (label ++ bytes) (label ++ numbered x)
    (sym e ∙ h.2 ∙ row_cut word label x))
