-- What a loop over a list knows of what the elements stand for, as it comes to one more of them.
use Rattle.std.proofs.Common.{◌≡◌, ℕ, ◌+◌, ◌<◌, ◌≤◌, List, [], ◌∷◌, ◌++◌, length, get_or, take, map, refl, ap, arith}
use Rattle.std.proofs.lemmas.List.{take_all, map_more, map-append, length-map, get_or-map}
use Rattle.std.proofs.lemmas.List.Elements.{All-push}
use Rattle.std.specs.List.{Any, All, AllZip}
use Rattle.sfm_lines.proofs.Matches.{AllZip-push, AllZip-at}

pub Any-step : {X Y : Type 0} (P : Y → Type 0) (f : X → Y) (xs : List X) (i : ℕ) (d : X)
    → i < length xs → P (f (get_or xs i d)) → Any P (map f xs)
Any-step P f xs i d lt p = (
  i,
  f (get_or xs i d),
  omega (arith, lt, length-map xs f),
  get_or-map f xs i d (f (get_or xs i d)) lt,
  p,
)

pub All-step : {X Y : Type 0} (P : Y → Type 0) (f : X → Y) (xs : List X) (i : ℕ) (d : X)
    → i < length xs → All P (map f (take i xs)) → P (f (get_or xs i d))
    → All P (map f (take (i + 1) xs))
All-step P f xs i d lt all p =
    rw (map_more f xs i d lt) (All-push P (map f (take i xs)) (f (get_or xs i d)) all p)

pub All-end : {X Y : Type 0} (P : Y → Type 0) (f : X → Y) (xs : List X) (i : ℕ) → length xs ≤ i
    → All P (map f (take i xs)) → All P (map f xs)
All-end P f xs i ge all = rw (take_all i xs ge) at all

pub AllZip-step : {X Y B : Type 0} (P : Y → B → Type 0) (f : X → Y) (xs : List X) (ys : List B)
    (i : ℕ) (d : X) (y : B) → i < length xs → AllZip P (map f (take i xs)) ys
    → P (f (get_or xs i d)) y → AllZip P (map f (take (i + 1) xs)) (ys ++ y ∷ [])
AllZip-step P f xs ys i d y lt h p =
    rw (map_more f xs i d lt) (AllZip-push P (map f (take i xs)) ys (f (get_or xs i d)) y h p)

pub AllZip-end : {X Y B : Type 0} (P : Y → B → Type 0) (f : X → Y) (xs : List X) (ys : List B)
    (i : ℕ) → length xs ≤ i → AllZip P (map f (take i xs)) ys → AllZip P (map f xs) ys
AllZip-end P f xs ys i ge h = rw (take_all i xs ge) at h

pub AllZip-here : {X Y B : Type 0} (P : Y → B → Type 0) (f : X → Y) (xs : List X) (ys : List B)
    (i : ℕ) (d : X) → AllZip P (map f xs) ys → i < length xs → (y : B) × P (f (get_or xs i d)) y
AllZip-here P f xs ys i d h lt =
    let at = AllZip-at P (map f xs) ys i (f d) h (omega (arith, lt, length-map xs f)) in
    (at.0, rw (get_or-map f xs i d (f d) lt) at at.1)

-- one more on both sides, behind what stands there already
pub map-push : {X Y Z : Type 0} (f : X → Y) (g : Z → Y) (front : List Y) (xs more : List X) (x : X)
    (zs : List Z) (z : Z) → map f xs ≡ front ++ map g zs → more ≡ xs ++ x ∷ [] → f x ≡ g z
    → map f more ≡ front ++ map g (zs ++ z ∷ [])
map-push f g front xs more x zs z h e is =
    rw (e, map-append f xs (x ∷ []), map-append g zs (z ∷ []), h, is) (assoc front (map g zs) (g z))
  where
    assoc : {Y : Type 0} (a b : List Y) (y : Y) → (a ++ b) ++ y ∷ [] ≡ a ++ (b ++ y ∷ [])
    assoc [] b y = refl
    assoc (x ∷ a) b y = ap (λ l. x ∷ l) (assoc a b y)

-- one more element of what stands for the elements that a loop has come to
pub maps-step : {X Y Z : Type 0} (f : X → Y) (g : Y → Z) (xs : List X) (i : ℕ) (d : X)
    (old more : List Z) (z : Z) → i < length xs → old ≡ map g (map f (take i xs))
    → more ≡ old ++ z ∷ [] → z ≡ g (f (get_or xs i d)) → more ≡ map g (map f (take (i + 1) xs))
maps-step f g xs i d old more z lt h e is =
    rw (e, map_more f xs i d lt, map-append g (map f (take i xs)) (f (get_or xs i d) ∷ []), h, is)
    refl

pub maps-end : {X Y Z : Type 0} (f : X → Y) (g : Y → Z) (xs : List X) (i : ℕ) (all : List Z)
    → length xs ≤ i → all ≡ map g (map f (take i xs)) → all ≡ map g (map f xs)
maps-end f g xs i all ge h = rw (take_all i xs ge) at h

-- what holds of what each element stands for
pub All-here : {X Y : Type 0} (P : Y → Type 0) (f : X → Y) (xs : List X) (i : ℕ) (d : X)
    → i < length xs → All P (map f xs) → P (f (get_or xs i d))
All-here P f xs i d lt all =
    let at = all i (f d) (omega (arith, lt, length-map xs f)) in
    rw (get_or-map f xs i d (f d) lt) at at
