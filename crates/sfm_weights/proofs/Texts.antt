-- What is told of the text of a weight is told of the entry of a token.
use Rattle.std.proofs.Common.{◌≡◌, ◌↔◌, ℕ, ◌^◌, List, Bool, Bor, Option, Some, None, MatchBool, MatchOption, ℤ, pos, ◌≤ℤ◌, to_z, of_z, refl, ap, ◌∙◌, arith}
use Rattle.std.specs.Prelude.{is_some, IsSome, unwrap_or}
use Rattle.std.specs.Int.{w128}
use Rattle.std.proofs.lemmas.Int.{ints}
use Rattle.std.proofs.lemmas.Option.{none-some}
use Rattle.sfm_spec.specs.Bounds.{IsEntry}
use Rattle.sfm_lines.specs.Weights.{IsWeightText}
use Rattle.sfm_lines.proofs.Numbers.{kept-entry}

pub entry-weight : (w : ℤ) → pos 1 ≤ℤ w → w ≤ℤ pos (10 ^ 15) → IsEntry w
entry-weight w low high = record {
  low = omega (arith, ints, low);
  high = omega (arith, ints, high);
}

pub some-told : (r : Option (Bor (List ℕ))) (b : Bool) (o : Option (List ℕ)) → b ≡ is_some r
    → MatchOption r (o ≡ None) (λ t. o ≡ Some t.now) → MatchBool b (IsSome o) (o ≡ None)
some-told None b o is h = rw is h
some-told (Some t) b o is h = rw (is, h) refl

module _ (r : Option ℤ) (o : Option (List ℕ)) (text : List ℕ) (e : o ≡ Some text)
    (told : (v : ℤ) → (r ≡ Some v) ↔ IsWeightText (Some text) v) where
  pub weight-told : (b : Bool) → b ≡ is_some r
      → MatchBool b ((v : ℤ) × IsWeightText o v) ((v : ℤ) → IsWeightText o v → ⊥)
  weight-told b is = rw (is, e) (at r told)
    where
      at : (r : Option ℤ) → ((v : ℤ) → (r ≡ Some v) ↔ IsWeightText (Some text) v)
          → MatchBool (is_some r) ((v : ℤ) × IsWeightText (Some text) v)
          ((v : ℤ) → IsWeightText (Some text) v → ⊥)
      at None told = λ v w. absurd (none-some v ((told v).1 w))
      at (Some a) told = (a, (told a).0 refl)

  pub weight-is : (b value : ℤ) → b ≡ unwrap_or r (pos 1) → IsWeightText o value
      → to_z w128 (of_z w128 b) ≡ value
  weight-is b value is w =
      let here : IsWeightText (Some text) value = rw e at w in
      let one : r ≡ Some value = (told value).1 here in
      let same : b ≡ value = is ∙ ap (λ (q : Option ℤ). unwrap_or q (pos 1)) one in
      rw same (kept-entry value (entry-weight value here.1 here.2))

-- a weight that is kept is as it was read
pub kept-weight : (text : Option (List ℕ)) (b value : ℤ) → IsWeightText text value → b ≡ value
    → to_z w128 (of_z w128 b) ≡ value
kept-weight None b value w e = let one : value ≡ pos 1 = w in omega (arith, ints, e, one)
kept-weight (Some text) b value w e = rw e (kept-entry value (entry-weight value w.1 w.2))
