-- What one more name, number, block, slope or base adds to the lines of an answer.
use Rattle.std.proofs.Common.{◌≡◌, ℕ, ◌+◌, ◌<◌, Bool, true, false, List, [], ◌∷◌, ◌++◌, length, take, get_or, ℤ, pos, refl, sym, ap, ◌∙◌, arith, append_assoc, length-take, map, if◌then◌else◌, FitsSigned}
use Rattle.std.proofs.lemmas.Int.{ints}
use Rattle.sfm_spec.specs.Bounds.{IsEntry, IsFactor}
use Rattle.sfm_spec.specs.Blocks.{Block}
use mir.Syntax.{w128}
use Rattle.std.specs.Fmt.{decimal, signed_decimal}
use Rattle.std.proofs.lemmas.List.{take_more, append-nil, get_or-map}
use Rattle.sfm_cert.specs.Answer.{Break, listed, block_line, slope_line, row_lines, section_lines, text_of}
use Rattle.sfm_cert.specs.Labels.{label_in}
use Rattle.sfm_cert.specs.LineLists.{row_line, counted, numbered, block_lines, slope_lines, break_lines}

-- ---- lines one behind another

pub text_of-append : (xs ys : List (List ℕ)) → text_of (xs ++ ys) ≡ text_of xs ++ text_of ys
text_of-append [] ys = refl
text_of-append (x ∷ xs) ys =
    ap (λ t. x ++ (10 ∷ t)) (text_of-append xs ys)
    ∙ sym (append_assoc x (10 ∷ text_of xs) (text_of ys))

pub numbered-push : (x : List ℤ) (a : ℤ)
    → numbered (x ++ a ∷ []) ≡ numbered x ++ (32 ∷ signed_decimal a)
numbered-push [] a = append-nil (32 ∷ signed_decimal a)
numbered-push (b ∷ x) a = ap (λ y. 32 ∷ (signed_decimal b ++ y)) (numbered-push x a)
    ∙ ap (λ y. 32 ∷ y) (sym (append_assoc (signed_decimal b) (numbered x) (32 ∷ signed_decimal a)))

pub numbered-more : (x : List ℤ) (i : ℕ) → i < length x
    → numbered (take (i + 1) x) ≡ numbered (take i x) ++ (32 ∷ signed_decimal (get_or x i (pos 0)))
numbered-more x i h = ap numbered (take_more x i (pos 0) h)
    ∙ numbered-push (take i x) (get_or x i (pos 0))

pub counted-push : (x : List ℕ) (a : ℕ) → counted (x ++ a ∷ []) ≡ counted x ++ (32 ∷ decimal a)
counted-push [] a = append-nil (32 ∷ decimal a)
counted-push (b ∷ x) a = ap (λ y. 32 ∷ (decimal b ++ y)) (counted-push x a)
    ∙ ap (λ y. 32 ∷ y) (sym (append_assoc (decimal b) (counted x) (32 ∷ decimal a)))

pub counted-more : (x : List ℕ) (i : ℕ) → i < length x
    → counted (take (i + 1) x) ≡ counted (take i x) ++ (32 ∷ decimal (get_or x i 0))
counted-more x i h = ap counted (take_more x i 0 h) ∙ counted-push (take i x) (get_or x i 0)

listed-push : (names : List (List ℕ)) (s : List Bool) (name : List ℕ) (b : Bool)
    → length names ≡ length s → listed (names ++ name ∷ []) (s ++ b ∷ []) ≡ listed names
    s ++ (if b then 32 ∷ name else [])
listed-push [] [] name true h = append-nil (32 ∷ name)
listed-push [] [] name false h = refl
listed-push [] (c ∷ s) name b h = absurd (omega arith)
listed-push (m ∷ names) [] name b h = absurd (omega arith)
listed-push (m ∷ names) (true ∷ s) name b h =
    ap (λ y. 32 ∷ (m ++ y)) (listed-push names s name b (omega arith))
    ∙ ap (λ y. 32 ∷ y) (sym (append_assoc m (listed names s) (if b then 32 ∷ name else [])))
listed-push (m ∷ names) (false ∷ s) name b h = listed-push names s name b (omega arith)

pub listed-more : (names : List (List ℕ)) (s : List Bool) (e : ℕ) → length names ≡ length s
    → e < length names
    → listed (take (e + 1) names) (take (e + 1) s) ≡ listed (take e names)
    (take e s) ++ (if get_or s e false then 32 ∷ get_or names e [] else [])
listed-more names s e h lt =
    rw (take_more names e [] lt, take_more s e false (omega arith))
    (listed-push (take e names) (take e s) (get_or names e []) (get_or s e false) same) where
      same : length (take e names) ≡ length (take e s)
      same = omega (arith, length-take e names, length-take e s)

pub row_lines-push : (word lines : List ℕ) (i : ℕ) (rows : List (List ℤ)) (x : List ℤ)
    → row_lines word lines i (rows ++ x ∷ []) ≡ row_lines word lines i rows ++ row_line word
    (label_in lines (i + length rows)) x ∷ []
row_lines-push word lines i [] x = ap (λ n. row_line word (label_in lines n) x ∷ []) (omega arith)
row_lines-push word lines i (y ∷ rows) x =
    let n : (i + 1) + length rows ≡ i + length (y ∷ rows) = omega arith in
    ap (λ r. row_line word (label_in lines i) y ∷ r)
    (row_lines-push word lines (i + 1) rows x
    ∙ ap (λ m. row_lines word lines (i + 1) rows ++ row_line word (label_in lines m) x ∷ []) n)

pub block_lines-push : (names : List (List ℕ)) (i : ℕ) (blocks : List Block) (b : Block)
    → block_lines names i (blocks ++ b ∷ []) ≡ block_lines names i blocks ++ block_line names
    (i + length blocks) b ∷ []
block_lines-push names i [] b = ap (λ n. block_line names n b ∷ []) (omega arith)
block_lines-push names i (c ∷ blocks) b =
    let n : (i + 1) + length blocks ≡ i + length (c ∷ blocks) = omega arith in
    ap (λ r. block_line names i c ∷ r)
    (block_lines-push names (i + 1) blocks b
    ∙ ap (λ m. block_lines names (i + 1) blocks ++ block_line names m b ∷ []) n)

pub slope_lines-push : (names : List (List ℕ)) (breaks : List Break) (b : Break)
    → slope_lines names (breaks ++ b ∷ []) ≡ slope_lines names breaks ++ slope_line names b ∷ []
slope_lines-push names [] b = refl
slope_lines-push names (c ∷ breaks) b =
    ap (λ r. slope_line names c ∷ r) (slope_lines-push names breaks b)

pub break_lines-push : (lines : List ℕ) (breaks : List Break) (b : Break)
    → break_lines lines (breaks ++ b ∷ []) ≡ break_lines lines breaks ++ section_lines lines b.num
    b.den b.bases
break_lines-push lines [] b = append-nil (section_lines lines b.num b.den b.bases)
break_lines-push lines (c ∷ breaks) b =
    ap (λ r. section_lines lines c.num c.den c.bases ++ r) (break_lines-push lines breaks b)
    ∙ sym (append_assoc (section_lines lines c.num c.den c.bases) (break_lines lines breaks)
    (section_lines lines b.num b.den b.bases))

-- ---- numbers that fit

pub entry_fits : (a : ℤ) → IsEntry a → FitsSigned w128 a
entry_fits a h = omega (arith, ints, h.low, h.high)

-- ---- one more element of a list

-- an element of a list, seen through a function
pub item_at : {X Y : Type 0} (f : X → Y) (xs : List X) (i : ℕ) (item : X) (d : Y) → i < length xs
    → item ≡ get_or xs i item → get_or (map f xs) i d ≡ f item
item_at f xs i item d h is = get_or-map f xs i item d h ∙ ap f (sym is)

pub block_lines-more : (names : List (List ℕ)) (blocks : List Block) (i : ℕ) (d b : Block)
    → i < length blocks → get_or blocks i d ≡ b
    → block_lines names 1 (take (i + 1) blocks) ≡ block_lines names 1 (take i blocks) ++ block_line
    names (i + 1) b ∷ []
block_lines-more names blocks i d b h e =
    let n : 1 + length (take i blocks) ≡ i + 1 = omega (arith, length-take i blocks) in
    ap (block_lines names 1) (take_more blocks i d h)
    ∙ block_lines-push names 1 (take i blocks) (get_or blocks i d)
    ∙ ap (λ c. block_lines names 1 (take i blocks) ++ block_line names (1 + length (take i blocks))
    c ∷ []) e
    ∙ ap (λ m. block_lines names 1 (take i blocks) ++ block_line names m b ∷ []) n

pub slope_lines-more : (names : List (List ℕ)) (breaks : List Break) (i : ℕ) (d b : Break)
    → i < length breaks → get_or breaks i d ≡ b
    → slope_lines names (take (i + 1) breaks) ≡ slope_lines names (take i breaks) ++ slope_line
    names b ∷ []
slope_lines-more names breaks i d b h e =
    ap (slope_lines names) (take_more breaks i d h)
    ∙ slope_lines-push names (take i breaks) (get_or breaks i d)
    ∙ ap (λ c. slope_lines names (take i breaks) ++ slope_line names c ∷ []) e

pub break_lines-more : (lines : List ℕ) (breaks : List Break) (i : ℕ) (d b : Break)
    → i < length breaks → get_or breaks i d ≡ b
    → break_lines lines (take (i + 1) breaks) ≡ break_lines lines (take i breaks) ++ section_lines
    lines b.num b.den b.bases
break_lines-more lines breaks i d b h e =
    ap (break_lines lines) (take_more breaks i d h)
    ∙ break_lines-push lines (take i breaks) (get_or breaks i d)
    ∙ ap (λ c. break_lines lines (take i breaks) ++ section_lines lines c.num c.den c.bases) e

pub factor_fits : (q : ℤ) → IsFactor q → FitsSigned w128 q
factor_fits q h = omega (arith, ints, h.low, h.high)
