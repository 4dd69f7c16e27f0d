-- The different texts of a list, as insertions into a set make them, and the place of a text among
-- them.
use Rattle.std.proofs.Common.{◌≡◌, ℕ, ◌+◌, ◌<◌, ◌≤◌, Bool, true, false, not, cond, ◌||◌, if◌then◌else◌, List, [], ◌∷◌, ◌++◌, length, get_or, take, map, Bor, refl, sym, ap, ◌∙◌, arith}
use Rattle.sfm_lines.specs.ReadParts.{joined}
use Rattle.std.specs.Prelude.{bytes_eq}
use Rattle.std.specs.Option.{unwrap_or}
use Rattle.std.specs.List.{filter, list_any, position, position_or_len}
use Rattle.std.proofs.lemmas.Bool.{false≢true, cases_lt, lt-ltb, le-ltb}
use mathlib.Core.Logic.{⊎_elim}
use Rattle.std.proofs.lemmas.Slice.Eq.{bytes_eq-Decides}
use Rattle.std.proofs.lemmas.List.{append_assoc, map-append, map_more}
use Rattle.std.proofs.lemmas.List.Elements.{filter-append}
use Rattle.sfm_lines.specs.LabelTerms.{distinct_of}
use Rattle.sfm_lines.specs.CutParts.{place_among}

-- whether a text is one of some
abbrev has : List ℕ → List (List ℕ) → Bool
has x texts = list_any (λ y. bytes_eq x y) texts

-- texts that are not some other text are kept by the filter that leaves it out
module _ (t x : List ℕ) (apart : bytes_eq x t ≡ false) where
  pub has-others : (texts : List (List ℕ)) → has x (filter (λ y. not (bytes_eq t y)) texts) ≡ has x
      texts
  has-others [] = refl
  has-others (y ∷ texts) = at (bytes_eq t y) refl (has-others texts)
    where
      at : (b : Bool) → bytes_eq t y ≡ b
          → list_any (λ z. bytes_eq x z) (filter (λ z. not (bytes_eq t z)) texts) ≡ list_any
          (λ z. bytes_eq x z) texts → list_any (λ z. bytes_eq x z)
          (cond (not (bytes_eq t y)) (y ∷ filter (λ z. not (bytes_eq t z)) texts)
          (filter (λ z. not (bytes_eq t z)) texts))
          ≡ (bytes_eq x y || list_any (λ z. bytes_eq x z) texts)
      at true e h =
          let same : t ≡ y = (bytes_eq-Decides t y).0 e in
          let no : bytes_eq x y ≡ false = ap (λ (z : List ℕ). bytes_eq x z) (sym same) ∙ apart in
          rw (e, no) h
      at false e h = rw e (ap (λ b. bytes_eq x y || b) h)

  kept : not (bytes_eq t x) ≡ true
  kept = at (bytes_eq t x) refl
    where
      at : (b : Bool) → bytes_eq t x ≡ b → not (bytes_eq t x) ≡ true
      at true e =
          let same : t ≡ x = (bytes_eq-Decides t x).0 e in
          absurd (false≢true (sym apart ∙ (bytes_eq-Decides x t).1 (sym same)))
      at false e = rw e refl

append-none : (xs : List (List ℕ)) → xs ++ [] ≡ xs
append-none [] = refl
append-none (x ∷ xs) = ap (λ (l : List (List ℕ)). x ∷ l) (append-none xs)

-- one more text stands behind the different ones where it is none of them
pub distinct-push : (texts : List (List ℕ)) (x : List ℕ)
    → distinct_of (texts ++ x ∷ [])
    ≡ (if list_any (λ y. bytes_eq x y) (distinct_of texts) then distinct_of texts else distinct_of
    texts ++ x ∷ [])
distinct-push [] x = refl
distinct-push (t ∷ texts) x = at (bytes_eq x t) refl
    (list_any (λ y. bytes_eq x y) (distinct_of texts)) refl (distinct-push texts x)
  where
    at : (b : Bool) → bytes_eq x t ≡ b → (a : Bool)
        → list_any (λ y. bytes_eq x y) (distinct_of texts) ≡ a
        → distinct_of (texts ++ x ∷ [])
        ≡ (if list_any (λ y. bytes_eq x y) (distinct_of texts) then distinct_of texts else
        distinct_of texts ++ x ∷ [])
        → t ∷ filter (λ y. not (bytes_eq t y))
        (distinct_of (texts ++ x ∷ []))
        ≡ (if (bytes_eq x t || list_any (λ y. bytes_eq x y)
        (filter (λ y. not (bytes_eq t y)) (distinct_of texts))) then t ∷ filter
        (λ y. not (bytes_eq t y)) (distinct_of texts) else
        (t ∷ filter (λ y. not (bytes_eq t y)) (distinct_of texts)) ++ x ∷ [])
    at true e true f more = rw (more, f, e) refl
    at true e false f more =
        let same : x ≡ t = (bytes_eq-Decides x t).0 e in
        let out : bytes_eq t x ≡ true = (bytes_eq-Decides t x).1 (sym same) in
        rw (more, f, e, filter-append (λ y. not (bytes_eq t y)) (distinct_of texts) (x ∷ []), out)
        (ap (λ (l : List (List ℕ)). t ∷ l)
        (append-none (filter (λ y. not (bytes_eq t y)) (distinct_of texts))))
    at false e true f more =
        let in_ : list_any (λ y. bytes_eq x y)
        (filter (λ y. not (bytes_eq t y)) (distinct_of texts)) ≡ true =
        has-others t x e (distinct_of texts) ∙ f in
        rw (more, f, e, in_) refl
    at false e false f more =
        let out : list_any (λ y. bytes_eq x y)
        (filter (λ y. not (bytes_eq t y)) (distinct_of texts)) ≡ false =
        has-others t x e (distinct_of texts) ∙ f in
        let one : not (bytes_eq t x) ≡ true = kept t x e in
        rw (
          more,
          f,
          e,
          out,
          filter-append (λ y. not (bytes_eq t y)) (distinct_of texts) (x ∷ []),
          one,
        ) refl

-- what is told of texts is told of what points to them
any-now : (x : List ℕ) (keys : List (Bor (List ℕ)))
    → list_any (λ y. bytes_eq x y) (map (λ k. k.now) keys) ≡ list_any (λ k. bytes_eq x k.now) keys
any-now x [] = refl
any-now x (k ∷ keys) = ap (λ b. bytes_eq x k.now || b) (any-now x keys)

place-now : (x : List ℕ) (keys : List (Bor (List ℕ)))
    → position_or_len (λ k. bytes_eq x k.now) keys ≡ position_or_len (λ y. bytes_eq x y)
    (map (λ k. k.now) keys)
place-now x [] = refl
place-now x (k ∷ keys) = ap (λ (n : ℕ). cond (not (bytes_eq x k.now)) (1 + n) 0) (place-now x keys)

-- one more key of a set that holds the different ones of some texts
pub key-in : (texts : List (List ℕ)) (keys more : List (Bor (List ℕ))) (key : Bor (List ℕ))
    → map (λ k. k.now) keys ≡ distinct_of texts
    → more ≡ (if list_any (λ k. bytes_eq key.now k.now) keys then keys else keys ++ key ∷ [])
    → map (λ k. k.now) more ≡ distinct_of (texts ++ key.now ∷ [])
key-in texts keys more key h e =
    let now : Bor (List ℕ) → List ℕ = λ k. k.now in
    let test : list_any (λ k. bytes_eq key.now k.now) keys ≡ list_any (λ y. bytes_eq key.now y)
    (distinct_of texts) = sym (any-now key.now keys)
    ∙ ap (λ (l : List (List ℕ)). list_any (λ y. bytes_eq key.now y) l) h in
    at (list_any (λ k. bytes_eq key.now k.now) keys) refl (sym test)
  where
    at : (b : Bool) → list_any (λ k. bytes_eq key.now k.now) keys ≡ b
        → list_any (λ y. bytes_eq key.now y) (distinct_of texts) ≡ list_any
        (λ k. bytes_eq key.now k.now) keys
        → map (λ k. k.now) more ≡ distinct_of (texts ++ key.now ∷ [])
    at true f g = rw (e, f, distinct-push texts key.now, g, f) h
    at false f g = rw (
      e,
      f,
      distinct-push texts key.now,
      g,
      f,
      map-append (λ k. k.now) keys (key ∷ []),
      h,
    ) refl

-- a loop over texts, behind those that came before it
pub keys-in : (before : List (List ℕ)) (texts : List (Bor (List ℕ))) (i : ℕ) (d : Bor (List ℕ))
    (keys more : List (Bor (List ℕ))) → i < length texts
    → map (λ k. k.now) keys ≡ distinct_of (before ++ map (λ k. k.now) (take i texts))
    → more ≡ (if list_any (λ k. bytes_eq (get_or texts i d).now k.now) keys then keys else
    keys ++ get_or texts i d ∷ [])
    → map (λ k. k.now) more ≡ distinct_of (before ++ map (λ k. k.now) (take (i + 1) texts))
keys-in before texts i d keys more lt h e =
    let now : Bor (List ℕ) → List ℕ = λ k. k.now in
    let one = key-in (before ++ map now (take i texts)) keys more (get_or texts i d) h e in
    one ∙ ap distinct_of (append_assoc before (map now (take i texts)) ((get_or texts i d).now ∷ [])
    ∙ ap (λ (l : List (List ℕ)). before ++ l) (sym (map_more now texts i d lt)))

-- one more list of texts
joined-push : (lists : List (List (List ℕ))) (texts : List (List ℕ))
    → joined (lists ++ texts ∷ []) ≡ joined lists ++ texts
joined-push [] texts = append-none texts
joined-push (first ∷ lists) texts = ap (λ (l : List (List ℕ)). first ++ l) (joined-push lists texts)
    ∙ sym (append_assoc first (joined lists) texts)

pub joined-more : {X : Type 0} (f : X → List (List ℕ)) (xs : List X) (i : ℕ) (d : X) → i < length xs
    → joined (map f (take i xs)) ++ f (get_or xs i d) ≡ joined (map f (take (i + 1) xs))
joined-more f xs i d lt = sym (joined-push (map f (take i xs)) (f (get_or xs i d)))
    ∙ ap joined (sym (map_more f xs i d lt))

-- the place at which a search finds a text, or the number of all
first-within : (x : List ℕ) (keys : List (Bor (List ℕ)))
    → position_or_len (λ k. bytes_eq x k.now) keys ≤ length keys
first-within x [] = omega arith
first-within x (k ∷ keys) = at (bytes_eq x k.now) (first-within x keys)
  where
    at : (b : Bool) → position_or_len (λ j. bytes_eq x j.now) keys ≤ length keys
        → cond (not b) (1 + position_or_len (λ j. bytes_eq x j.now) keys) 0 ≤ length (k ∷ keys)
    at true h = omega arith
    at false h = omega (arith, h)

pub found-place : (x : List ℕ) (keys : List (Bor (List ℕ)))
    → unwrap_or (position (λ k. bytes_eq x k.now) keys) (length keys) ≡ place_among
    (map (λ k. k.now) keys) x
found-place x keys =
    let n = position_or_len (λ (k : Bor (List ℕ)). bytes_eq x k.now) keys in
    let most : n ≤ length keys = first-within x keys in
    ⊎_elim
    (λ (lt : n < length keys). rw (lt-ltb n (length keys) lt) (place-now x keys))
    (λ (le : length keys ≤ n).
    let all : length keys ≡ n = omega (arith, le, most) in
    rw (le-ltb n (length keys) le) (all ∙ place-now x keys))
    (cases_lt n (length keys))
