-- What a pass over tokens knows, as it comes to one more of them.
use Rattle.std.proofs.Common.{◌≡◌, ◌≢◌, ℕ, ◌+◌, ◌-◌, ◌<◌, ◌≤◌, List, [], ◌∷◌, ◌++◌, length, get_or, take, map, Bor, Contains, refl, sym, ap, ◌∙◌, append_assoc, length-append, arith}
use Prim.Native.Nat.{zero, suc}
use Rattle.std.specs.List.{All, Any, AllZip}
use Rattle.std.proofs.lemmas.List.{map-append, append-nil, take_all}
use Rattle.std.proofs.lemmas.List.Elements.{All-cons, All-nil}
use Rattle.sfm_lines.specs.TermLines.{StandsTwice}
use Rattle.sfm_lines.proofs.Repeats.{twice-seen, once-more}

pub any-here : {X : Type 0} (P : X → Type 0) (x : X) (xs all : List X) → all ≡ x ∷ xs → P x
    → Any P all
any-here P x xs all e p = rw e (zero, x, omega arith, refl, p)

pub any-behind : {X : Type 0} (P : X → Type 0) (x : X) (xs all : List X) → all ≡ x ∷ xs → Any P xs
    → Any P all
any-behind P x xs all e (k, y, lt, at, p) = rw e (suc k, y, omega (arith, lt), at, p)

pub all-more : {X : Type 0} (P : X → Type 0) (x : X) (xs all : List X) → all ≡ x ∷ xs → P x
    → All P xs → All P all
all-more P x xs all e p h = rw e (All-cons P x xs p h)

pub all-none : {X : Type 0} (P : X → Type 0) (all : List X) → all ≡ [] → All P all
all-none P all e = rw e (All-nil P)

-- ---- the first so many of a list

take-suc : {X : Type 0} (n : ℕ) (x : X) (xs : List X) → 0 < n
    → take n (x ∷ xs) ≡ x ∷ take (n - 1) xs
take-suc zero x xs some = absurd (omega (arith, some))
take-suc (suc n) x xs some = let e : n ≡ suc n - 1 = omega arith in ap (λ k. x ∷ take k xs) e

pub take-here : {X : Type 0} (n : ℕ) (x : X) (xs all : List X) → 0 < n → all ≡ x ∷ xs
    → take n all ≡ x ∷ take (n - 1) xs
take-here n x xs all some e = rw e (take-suc n x xs some)

pub take-past : {X : Type 0} (n : ℕ) (all : List X) → all ≡ [] → take n all ≡ []
take-past n all e = rw e (take_all n [] (omega arith))

pub take-nothing : {X : Type 0} (n : ℕ) (all : List X) → n ≤ 0 → take n all ≡ []
take-nothing zero all none = refl
take-nothing (suc n) all none = absurd (omega (arith, none))

-- ---- a list that matches

all-tail : {X : Type 0} (P : X → Type 0) (x : X) (xs : List X) → All P (x ∷ xs) → All P xs
all-tail P x xs h = λ k d lt. h (suc k) d (omega (arith, lt))

-- each has something that it stands to
pub all-matched : {A B : Type 0} (P : A → B → Type 0) (xs : List A) → All (λ x. (y : B) × P x y) xs
    → ((ys : List B) × AllZip P xs ys)
all-matched P [] h = ([], tt)
all-matched P (x ∷ xs) h =
    let (y, p) = h 0 x (omega arith) in
    let (ys, m) = all-matched P xs (all-tail (λ z. (w : _) × P z w) x xs h) in
    (y ∷ ys, (p, m))

-- what is said of each of the first list is said of what it stands to
pub matched-each : {A B C D : Type 0} (P : A → B → Type 0) (Q : A → Type 0) (f : B → C)
    (R : C → D → Type 0) → ((x : A) (y : B) → P x y → Q x → (z : D) × R (f y) z)
    → (xs : List A) (ys : List B) → AllZip P xs ys → All Q xs
    → ((zs : List D) × AllZip R (map f ys) zs)
matched-each P Q f R g [] [] m h = ([], tt)
matched-each P Q f R g [] (y ∷ ys) m h = absurd m
matched-each P Q f R g (x ∷ xs) [] m h = absurd m
matched-each P Q f R g (x ∷ xs) (y ∷ ys) (p, m) h =
    let (z, r) = g x y p (h 0 x (omega arith)) in
    let (zs, n) = matched-each P Q f R g xs ys m (all-tail Q x xs h) in
    (z ∷ zs, (r, n))

pub matched-all : {A B C : Type 0} (P : A → B → Type 0) (Q : A → Type 0) (f : B → C)
    (R : C → Type 0) → ((x : A) (y : B) → P x y → Q x → R (f y)) → (xs : List A) (ys : List B)
    → AllZip P xs ys → All Q xs → All R (map f ys)
matched-all P Q f R g [] [] m h = All-nil R
matched-all P Q f R g [] (y ∷ ys) m h = absurd m
matched-all P Q f R g (x ∷ xs) [] m h = absurd m
matched-all P Q f R g (x ∷ xs) (y ∷ ys) (p, m) h =
    All-cons R (f y) (map f ys) (g x y p (h 0 x (omega arith)))
    (matched-all P Q f R g xs ys m (all-tail Q x xs h))

-- and what is said of one
pub matched-one : {A B C : Type 0} (P : A → B → Type 0) (Q : A → Type 0) (f : B → C)
    (R : C → Type 0) → ((x : A) (y : B) → P x y → Q x → R (f y)) → (xs : List A) (ys : List B)
    → AllZip P xs ys → Any Q xs → Any R (map f ys)
matched-one P Q f R g [] ys m (k, x, lt, at, q) = absurd (omega (arith, lt))
matched-one P Q f R g (u ∷ xs) [] m any = absurd m
matched-one P Q f R g (u ∷ xs) (v ∷ ys) (p, m) (zero, x, lt, at, q) =
    any-here R (f v) (map f ys) _ refl (g u v p (rw (sym at) at q))
matched-one P Q f R g (u ∷ xs) (v ∷ ys) (p, m) (suc k, x, lt, at, q) =
    any-behind R (f v) (map f ys) _ refl
    (matched-one P Q f R g xs ys m (k, x, omega (arith, lt), at, q))

-- ---- a token that stands behind others

front-at : {X : Type 0} (done : List X) (x : X) (more : List X)
    → take (length done) (done ++ x ∷ more) ≡ done
front-at [] x more = refl
front-at (y ∷ done) x more = ap (λ l. y ∷ l) (front-at done x more)

here-at : {X : Type 0} (done : List X) (x d : X) (more : List X)
    → get_or (done ++ x ∷ more) (length done) d ≡ x
here-at [] x d more = refl
here-at (y ∷ done) x d more = here-at done x d more

within-at : {X : Type 0} (done : List X) (x : X) (more : List X)
    → length done < length (done ++ x ∷ more)
within-at done x more = omega (arith, length-append done (x ∷ more))

whole-at : {X : Type 0} (done : List X) (x : X)
    → take (length done + 1) (done ++ x ∷ []) ≡ done ++ x ∷ []
whole-at done x = take_all (length done + 1) (done ++ x ∷ [])
    (omega (arith, length-append done (x ∷ [])))

-- it stands among those before it
pub twice-behind : {X : Type 0} (done : List X) (x : X) (more all : List X) → all ≡ done ++ x ∷ more
    → Contains done x → StandsTwice all
twice-behind done x more all e seen =
    let before : Contains (take (length done) (done ++ x ∷ more))
    (get_or (done ++ x ∷ more) (length done) x) =
    rw (front-at done x more, here-at done x x more) seen in
    rw e (twice-seen (done ++ x ∷ more) (length done) x (within-at done x more) before)

-- it does not
pub once-behind : {X : Type 0} (done : List X) (x : X) → (StandsTwice done → ⊥)
    → All (λ y. y ≢ x) done → StandsTwice (done ++ x ∷ []) → ⊥
once-behind done x once new twice =
    let once' : StandsTwice (take (length done) (done ++ x ∷ []))
    → ⊥ = rw (front-at done x []) once in
    let new' : All (λ y. y ≢ get_or (done ++ x ∷ []) (length done) x)
    (take (length done) (done ++ x ∷ [])) = rw (front-at done x [], here-at done x x []) new in
    let twice' : StandsTwice (take (length done + 1) (done ++ x ∷ [])) = rw (whole-at done x)
    twice in
    once-more (done ++ x ∷ []) (length done) x (within-at done x []) once' new' twice'

-- ---- tokens that have been passed

pub passed-more : {X : Type 0} (done : List X) (x : X) (more left all : List X) → all ≡ done ++ left
    → left ≡ x ∷ more → all ≡ (done ++ x ∷ []) ++ more
passed-more done x more left all e is =
    e ∙ (ap (λ l. done ++ l) is ∙ sym (append_assoc done (x ∷ []) more))

pub passed-all : {X : Type 0} (done left all : List X) → all ≡ done ++ left → left ≡ [] → all ≡ done
passed-all done left all e is = e ∙ (ap (λ l. done ++ l) is ∙ append-nil done)

pub keys-push : (keys more : List (Bor (List ℕ))) (t : Bor (List ℕ)) (done : List (List ℕ))
    → map (λ k. k.now) keys ≡ done → more ≡ keys ++ t ∷ []
    → map (λ k. k.now) more ≡ done ++ t.now ∷ []
keys-push keys more t done h e = rw (e, map-append (λ (k : Bor (List ℕ)). k.now) keys (t ∷ []), h)
    refl
