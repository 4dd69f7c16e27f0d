-- Rows that lie one behind the other: where each lies, and what it takes to put one behind them or
-- to change a number of one.
use Rattle.std.proofs.Common.{◌≡◌, ℕ, zero, suc, ◌+◌, ◌-◌, ◌<◌, ◌≤◌, List, [], ◌∷◌, ◌++◌, length, get_or, set, map, take, drop, ℤ, pos, ◌+ℤ◌, ◌-ℤ◌, refl, sym, ap, ◌∙◌, subst, arith}
use Rattle.std.proofs.Math.Path.{ap₂}
use Rattle.std.proofs.lemmas.List.{length-set, length-take, length-drop, get_or-take, get_or-drop, get_or-set_same, set-set, drop-set-lt, drop-set-add, take-set-le, take-append-le, drop-append-le, take-append-drop, drop-drop, length-append}
use Rattle.std.proofs.lemmas.List.Elements.{All-append, All-cons, All-drop, All-nil, All-take}
use Rattle.std.proofs.Math.Seq.{take-set-lt, take-length, drop-length, drop-append_seam}
use Rattle.std.specs.List.{All, take-map, drop-map}
use Rattle.sfm_spec.specs.Terms.{exchanged}
use Rattle.sfm_base.specs.Rows.{AreEnds, rows_from}

-- there are as many rows as ends
pub length-rows : {A : Type 0} (s : ℕ) (ends : List ℕ) (xs : List A)
    → length (rows_from s ends xs) ≡ length ends
length-rows s [] xs = refl
length-rows s (e ∷ ends) xs = ap suc (length-rows e ends xs)

-- where row i begins
abbrev pub begin_at : ℕ → List ℕ → ℕ → ℕ
begin_at s ends i = get_or (s ∷ ends) i 0

-- row i lies between two ends
pub row_at : {A : Type 0} (s : ℕ) (ends : List ℕ) (xs : List A) (i : ℕ) → i < length ends
    → get_or (rows_from s ends xs) i [] ≡ take (get_or ends i 0 - begin_at s ends i)
    (drop (begin_at s ends i) xs)
row_at s [] xs i l = elim l [ ]
row_at s (e ∷ ends) xs zero l = refl
row_at s (e ∷ ends) xs (suc i) l = row_at e ends xs i (omega arith)

-- the ends are within the numbers
pub start_within : (s : ℕ) (ends : List ℕ) (n : ℕ) → AreEnds s ends n → s ≤ n
start_within s [] n h = omega (arith, h)
start_within s (e ∷ ends) n h =
    let l = start_within e ends n h.1 in let f = h.0 in omega (arith, l, f)

-- and each row ends no sooner than it begins
pub ends_within : (s : ℕ) (ends : List ℕ) (n i : ℕ) → AreEnds s ends n → i < length ends
    → (begin_at s ends i ≤ get_or ends i 0) × (get_or ends i 0 ≤ n) × (s ≤ begin_at s ends i)
ends_within s [] n i h l = elim l [ ]
ends_within s (e ∷ ends) n zero h l = (h.0, start_within e ends n h.1, omega arith)
ends_within s (e ∷ ends) n (suc i) h l =
    let (a, b, c) = ends_within e ends n i h.1
    (omega arith) in let f = h.0 in (a, b, omega (arith, c, f))

-- one end more, and the numbers up to it
pub ends_more : (s : ℕ) (ends : List ℕ) (n m : ℕ) → AreEnds s ends n → n ≤ m
    → AreEnds s (ends ++ m ∷ []) m
ends_more s [] n m h l = (omega (arith, h, l), refl)
ends_more s (e ∷ ends) n m h l = (h.0, ends_more e ends n m h.1 l)

pub rows_more : {A : Type 0} (s : ℕ) (ends : List ℕ) (xs row : List A) → AreEnds s ends (length xs)
    → rows_from s (ends ++ length (xs ++ row) ∷ []) (xs ++ row) ≡ rows_from s ends xs ++ row ∷ []
rows_more s [] xs row h =
    let all = xs ++ row in
    ap (λ r. r ∷ []) (ap (λ k. take (length all - k) (drop k all)) h
    ∙ (ap (take (length all - length xs)) (drop-append_seam xs row)
    ∙ (ap (λ k. take k row) (omega (arith, length-append xs row)) ∙ take-length row)))
rows_more s (e ∷ ends) xs row h =
    let within = start_within e ends (length xs) h.1 in
    let f = h.0 in
    ap₂ (λ r rs. r ∷ rs) (same f within) (rows_more e ends xs row h.1) where
      same : s ≤ e → e ≤ length xs → take (e - s) (drop s (xs ++ row)) ≡ take (e - s) (drop s xs)
      same f within = ap (take (e - s)) (drop-append-le s xs row (omega (arith, f, within)))
          ∙ take-append-le (e - s) (drop s xs) row (omega (arith, length-drop s xs, f, within))

-- a number that changes before the rows changes none
before : (s : ℕ) (ends : List ℕ) (n : ℕ) (xs : List ℤ) (p : ℕ) (a : ℤ) → AreEnds s ends n → p < s
    → rows_from s ends (set xs p a) ≡ rows_from s ends xs
before s [] n xs p a h l = refl
before s (e ∷ ends) n xs p a h l =
    let f = h.0 in
    ap₂ (λ r rs. r ∷ rs) (ap (take (e - s)) (drop-set-lt s xs p a l))
    (before e ends n xs p a h.1 (omega (arith, f, l)))

-- a number that changes in row i changes that row
pub rows_set : (s : ℕ) (ends : List ℕ) (xs : List ℤ) (i j : ℕ) (a : ℤ) → AreEnds s ends (length xs)
    → i < length ends → j < get_or ends i 0 - begin_at s ends i
    → rows_from s ends (set xs (begin_at s ends i + j) a) ≡ set (rows_from s ends xs) i
    (set (get_or (rows_from s ends xs) i []) j a)
rows_set s [] xs i j a h li lj = elim li [ ]
rows_set s (e ∷ ends) xs zero j a h li lj =
    ap₂ (λ r rs. r ∷ rs)
    (ap (take (e - s)) (drop-set-add s xs j a) ∙ take-set-lt (e - s) (drop s xs) j a lj)
    (before e ends (length xs) xs (s + j) a h.1 (omega (arith, lj)))
rows_set s (e ∷ ends) xs (suc i) j a h li lj =
    let (b, w, c) = ends_within e ends (length xs) i h.1 (omega arith) in
    let f = h.0 in
    ap₂ (λ r rs. r ∷ rs) (far f c) (rows_set e ends xs i j a h.1 (omega arith) lj) where
      p : ℕ
      p = begin_at e ends i + j

      far : s ≤ e → e ≤ begin_at e ends i
          → take (e - s) (drop s (set xs p a)) ≡ take (e - s) (drop s xs)
      far f c = let split : p ≡ s + (p - s) = omega (arith, f, c) in
          ap (λ k. take (e - s) (drop s (set xs k a))) split
          ∙ (ap (take (e - s)) (drop-set-add s xs (p - s) a)
          ∙ take-set-le (e - s) (drop s xs) (p - s) a (omega (arith, f, c)))

-- how long row i is
pub row_length : {A : Type 0} (s : ℕ) (ends : List ℕ) (xs : List A) (i : ℕ)
    → AreEnds s ends (length xs) → i < length ends
    → length (get_or (rows_from s ends xs) i []) ≡ get_or ends i 0 - begin_at s ends i
row_length s ends xs i h l =
    let (b, w, c) = ends_within s ends (length xs) i h l in
    let k = get_or ends i 0 - begin_at s ends i in
    ap length (row_at s ends xs i l)
    ∙ (length-take k (drop (begin_at s ends i) xs)
    ∙ omega (arith, length-drop (begin_at s ends i) xs, b, w))

-- each number changed
pub rows-map : (f : ℤ → ℤ) (s : ℕ) (ends : List ℕ) (xs : List ℤ)
    → rows_from s ends (map f xs) ≡ map (map f) (rows_from s ends xs)
rows-map f s [] xs = refl
rows-map f s (e ∷ ends) xs = ap₂ (λ r rs. r ∷ rs)
    (ap (take (e - s)) (drop-map f s xs) ∙ take-map f (e - s) (drop s xs)) (rows-map f e ends xs)

-- what holds of the numbers of all rows holds of all numbers behind their start
pub all_numbers : (P : ℤ → Type 0) (s : ℕ) (ends : List ℕ) (xs : List ℤ)
    → AreEnds s ends (length xs) → All (λ x. All P x) (rows_from s ends xs) → All P (drop s xs)
all_numbers P s [] xs h all = rw (h, drop-length xs) (λ k d l. elim l [ ])
all_numbers P s (e ∷ ends) xs h all =
    let f = h.0 in
    let split : drop s xs ≡ take (e - s) (drop s xs) ++ drop e xs = sym
    (take-append-drop (e - s) (drop s xs))
    ∙ ap (λ r. take (e - s) (drop s xs) ++ r)
    (drop-drop (e - s) s xs ∙ ap (λ k. drop k xs) (omega (arith, f))) in
    subst (All P) (sym split) (All-append P (take (e - s) (drop s xs)) (drop e xs)
    (all 0 [] (omega arith)) (all_numbers P e ends xs h.1
    (λ k d l. all (suc k) d (omega arith))))

-- and what holds of all numbers holds of those of all rows
pub all_rows : (P : ℤ → Type 0) (s : ℕ) (ends : List ℕ) (xs : List ℤ) → All P xs
    → All (λ x. All P x) (rows_from s ends xs)
all_rows P s [] xs all = All-nil (λ x. All P x)
all_rows P s (e ∷ ends) xs all =
    All-cons (λ x. All P x) (take (e - s) (drop s xs)) (rows_from e ends xs)
    (All-take P (e - s) (drop s xs) (All-drop P s xs all)) (all_rows P e ends xs all)

-- a row that is there has an end
pub end_there : {A : Type 0} (ends : List ℕ) (xs : List A) (rows : List (List A)) (i : ℕ)
    → rows_from 0 ends xs ≡ rows → i < length rows → i < length ends
end_there ends xs rows i is l = omega (arith, length-rows 0 ends xs, ap length is, l)

-- where row i of the rows lies: from b to e
pub record LiesAt {A : Type 0} (ends : List ℕ) (xs : List A) (rows : List (List A))
    (i b e : ℕ) : Type 0 where
  pub there : i < length ends
  pub order : b ≤ e
  pub within : e ≤ length xs
  pub row : take (e - b) (drop b xs) ≡ get_or rows i []
  pub long : length (get_or rows i []) ≡ e - b

pub lies_at : {A : Type 0} (ends : List ℕ) (xs : List A) (rows : List (List A)) (i : ℕ)
    → AreEnds 0 ends (length xs) → rows_from 0 ends xs ≡ rows → i < length rows
    → LiesAt ends xs rows i (begin_at 0 ends i) (get_or ends i 0)
lies_at ends xs rows i h is l =
    let there = end_there ends xs rows i is l in
    let (b, w, c) = ends_within 0 ends (length xs) i h there in
    record {
      there = there;
      order = b;
      within = w;
      row = sym (row_at 0 ends xs i there) ∙ ap (λ r. get_or r i []) is;
      long = ap (λ r. length (get_or r i [])) (sym is) ∙ row_length 0 ends xs i h there;
    }

-- number j of a row lies behind its begin
pub record IsSpot (xs row : List ℤ) (b j : ℕ) : Type 0 where
  pub inside : b + j < length xs
  pub value : (d : ℤ) → get_or xs (b + j) d ≡ get_or row j d

pub spot : (ends : List ℕ) (xs : List ℤ) (rows : List (List ℤ)) (i b e j : ℕ)
    → LiesAt ends xs rows i b e → j < length (get_or rows i []) → IsSpot xs (get_or rows i []) b j
spot ends xs rows i b e j h l =
    let long = h.long in
    let order = h.order in
    let within = h.within in
    let below : j < e - b = omega (arith, long, l) in
    record {
      inside = omega (arith, order, within, below);
      value = λ d. sym (ap (λ r. get_or r j d) (sym h.row)
          ∙ (get_or-take (e - b) (drop b xs) j d below ∙ get_or-drop b xs j d));
    }

-- an exchange of two numbers of row i
pub rows_exchanged : (ends : List ℕ) (xs : List ℤ) (rows : List (List ℤ)) (i u v : ℕ) (a : ℤ)
    → AreEnds 0 ends (length xs) → rows_from 0 ends xs ≡ rows → i < length rows
    → u < length (get_or rows i []) → v < length (get_or rows i [])
    → let b = begin_at 0 ends i in let row = get_or rows i [] in
    rows_from 0 ends (set (set xs (b + u) (get_or row u (pos 0) +ℤ a)) (b + v)
    (get_or row v (pos 0) -ℤ a)) ≡ set rows i (exchanged row u v a)
rows_exchanged ends xs rows i u v a h is l lu lv =
    let b = begin_at 0 ends i in
    let row = get_or rows i [] in
    let lies = lies_at ends xs rows i h is l in
    let long = lies.long in
    let up = get_or row u (pos 0) +ℤ a in
    let down = get_or row v (pos 0) -ℤ a in
    let ys = set xs (b + u) up in
    let first : rows_from 0 ends ys ≡ set rows i (set row u up)
    = rows_set 0 ends xs i u up h lies.there (omega (arith, long, lu))
    ∙ ap (λ r. set r i (set (get_or r i []) u up)) is in
    let h' : AreEnds 0 ends (length ys) = subst (AreEnds 0 ends) (sym (length-set xs (b + u) up))
    h in
    rows_set 0 ends ys i v down h' lies.there (omega (arith, long, lv))
    ∙ (ap (λ r. set r i (set (get_or r i []) v down)) first
    ∙ (ap (λ r. set (set rows i (set row u up)) i (set r v down))
    (get_or-set_same rows i (set row u up) [] l)
    ∙ set-set rows i (set row u up) (set (set row u up) v down)))
