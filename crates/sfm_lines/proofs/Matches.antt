-- Lists of which each element stands in a relation to the element of another list.
use Rattle.std.proofs.Common.{◌≡◌, ℕ, ◌+◌, ◌<◌, ◌≤◌, List, [], ◌∷◌, ◌++◌, length, get_or, take, map, Bor, refl, ap, arith}
use Prim.Native.Nat.{zero, suc}
use Rattle.std.proofs.lemmas.List.{take_all, map_more, map-append, length-map, get_or-map}
use Rattle.std.specs.List.{Any, All, AllZip}

pub AllZip-push : {A B : Type 0} (P : A → B → Type 0) (xs : List A) (ys : List B) (x : A) (y : B)
    → AllZip P xs ys → P x y → AllZip P (xs ++ x ∷ []) (ys ++ y ∷ [])
AllZip-push P [] [] x y h p = (p, tt)
AllZip-push P [] (v ∷ ys) x y h p = absurd h
AllZip-push P (u ∷ xs) [] x y h p = absurd h
AllZip-push P (u ∷ xs) (v ∷ ys) x y h p = (h.0, AllZip-push P xs ys x y h.1 p)

pub length-AllZip : {A B : Type 0} (P : A → B → Type 0) (xs : List A) (ys : List B) → AllZip P xs ys
    → length ys ≡ length xs
length-AllZip P [] [] h = refl
length-AllZip P [] (v ∷ ys) h = absurd h
length-AllZip P (u ∷ xs) [] h = absurd h
length-AllZip P (u ∷ xs) (v ∷ ys) h = ap suc (length-AllZip P xs ys h.1)

-- each element of the first list has one in the second
pub AllZip-at : {A B : Type 0} (P : A → B → Type 0) (xs : List A) (ys : List B) (i : ℕ) (d : A)
    → AllZip P xs ys → i < length xs → (y : B) × P (get_or xs i d) y
AllZip-at P [] ys i d h lt = absurd (omega arith)
AllZip-at P (u ∷ xs) [] i d h lt = absurd h
AllZip-at P (u ∷ xs) (v ∷ ys) zero d h lt = (v, h.0)
AllZip-at P (u ∷ xs) (v ∷ ys) (suc i) d h lt = AllZip-at P xs ys i d h.1 (omega arith)

-- a relation that determines what an element stands to
pub AllZip-same : {A B : Type 0} (P : A → B → Type 0)
    (same : (x : A) (y z : B) → P x y → P x z → y ≡ z) (xs : List A) (ys zs : List B)
    → AllZip P xs ys → AllZip P xs zs → ys ≡ zs
AllZip-same P same [] [] [] h g = refl
AllZip-same P same [] [] (w ∷ zs) h g = absurd g
AllZip-same P same [] (v ∷ ys) zs h g = absurd h
AllZip-same P same (u ∷ xs) [] zs h g = absurd h
AllZip-same P same (u ∷ xs) (v ∷ ys) [] h g = absurd g
AllZip-same P same (u ∷ xs) (v ∷ ys) (w ∷ zs) h g =
    let first = same u v w h.0 g.0 in
    let rest = AllZip-same P same xs ys zs h.1 g.1 in
    cc

-- one more element of the texts that a loop goes over
pub AllZip-more : {B : Type 0} (P : List ℕ → B → Type 0) (texts : List (Bor (List ℕ)))
    (ys more : List B) (i : ℕ) (d : Bor (List ℕ)) (y : B) → i < length texts
    → AllZip P (map (λ t. t.now) (take i texts)) ys → P (get_or texts i d).now y
    → more ≡ ys ++ y ∷ [] → AllZip P (map (λ t. t.now) (take (i + 1) texts)) more
AllZip-more P texts ys more i d y lt h p e =
    rw (map_more (λ (t : Bor (List ℕ)). t.now) texts i d lt, e)
    (AllZip-push P (map (λ t. t.now) (take i texts)) ys (get_or texts i d).now y h p)

pub AllZip-all : {B : Type 0} (P : List ℕ → B → Type 0) (texts : List (Bor (List ℕ))) (ys : List B)
    (i : ℕ) → length texts ≤ i → AllZip P (map (λ t. t.now) (take i texts)) ys
    → AllZip P (map (λ t. t.now) texts) ys
AllZip-all P texts ys i ge h = rw (take_all i texts ge) at h

-- each text that a loop goes over has one
pub AllZip-text : {B : Type 0} (P : List ℕ → B → Type 0) (texts : List (Bor (List ℕ))) (ys : List B)
    (i : ℕ) (d : Bor (List ℕ)) → AllZip P (map (λ t. t.now) texts) ys → i < length texts → (y : B)
    × P (get_or texts i d).now y
AllZip-text P texts ys i d h lt =
    let at = AllZip-at P (map (λ (t : Bor (List ℕ)). t.now) texts) ys i [] h
    (omega (arith, length-map texts (λ (t : Bor (List ℕ)). t.now))) in
    (at.0, rw (get_or-map (λ (t : Bor (List ℕ)). t.now) texts i d [] lt) at at.1)

-- one more text of each
pub texts-push : {A : Type 0} (f : A → List ℕ) (texts more : List (Bor (List ℕ))) (t : Bor (List ℕ))
    (xs : List A) (x : A) → map (λ u. u.now) texts ≡ map f xs → more ≡ texts ++ t ∷ [] → t.now ≡ f x
    → map (λ u. u.now) more ≡ map f (xs ++ x ∷ [])
texts-push f texts more t xs x h e is =
    let now : Bor (List ℕ) → List ℕ = λ u. u.now in
    rw (e, map-append now texts (t ∷ []), map-append f xs (x ∷ []), h)
    (ap (λ (l : List ℕ). map f xs ++ l ∷ []) is)

-- some text that a loop comes to
pub Any-text : (P : List ℕ → Type 0) (texts : List (Bor (List ℕ))) (i : ℕ) (d : Bor (List ℕ))
    → i < length texts → P (get_or texts i d).now → Any P (map (λ t. t.now) texts)
Any-text P texts i d lt p =
    let now : Bor (List ℕ) → List ℕ = λ u. u.now in (
      i,
      (get_or texts i d).now,
      omega (arith, length-map texts now),
      get_or-map now texts i d (get_or texts i d).now lt,
      p,
    )

All-cons : {B : Type 0} (Q : B → Type 0) (y : B) (ys : List B) → Q y → All Q ys → All Q (y ∷ ys)
All-cons Q y ys q all zero d lt = q
All-cons Q y ys q all (suc k) d lt = all k d (omega arith)

-- what the relation says of each element of the second list
pub All-AllZip : {A B : Type 0} (P : A → B → Type 0) (Q : B → Type 0)
    → ((x : A) (y : B) → P x y → Q y) → (xs : List A) (ys : List B) → AllZip P xs ys → All Q ys
All-AllZip P Q f [] [] h = λ k d lt. absurd (omega arith)
All-AllZip P Q f [] (v ∷ ys) h = absurd h
All-AllZip P Q f (u ∷ xs) [] h = absurd h
All-AllZip P Q f (u ∷ xs) (v ∷ ys) h = All-cons Q v ys (f u v h.0) (All-AllZip P Q f xs ys h.1)

-- the elements at one place of both lists
pub AllZip-both : {A B : Type 0} (P : A → B → Type 0) (xs : List A) (ys : List B) (i : ℕ) (d : A)
    (e : B) → AllZip P xs ys → i < length xs → P (get_or xs i d) (get_or ys i e)
AllZip-both P [] ys i d e h lt = absurd (omega arith)
AllZip-both P (u ∷ xs) [] i d e h lt = absurd h
AllZip-both P (u ∷ xs) (v ∷ ys) zero d e h lt = h.0
AllZip-both P (u ∷ xs) (v ∷ ys) (suc i) d e h lt = AllZip-both P xs ys i d e h.1 (omega arith)
