-- A set of byte strings, read as the list of their bytes: what a look-up finds, and what a new key
-- does.
use Rattle.std.proofs.Common.{◌≡◌, ◌≢◌, ℕ, ◌<◌, Bool, true, false, List, [], length, get_or, map, slice_get, position, Some, nat_eq, sym, refl, ap, ◌∙◌, arith}
use Rattle.std.specs.List.{list_any}
use Rattle.std.specs.Cmp.Lexicographic.{pointwise, same_text, bytes_decides}
use Rattle.std.proofs.lemmas.List.{get_or-map, length-map}
use Rattle.std.proofs.lemmas.List.Elements.{All-map}
use Rattle.std.proofs.lemmas.List.Folds.{list_any_at, list_any_none}
use Rattle.std.proofs.lemmas.List.Quantifiers.{position-Some}
use Rattle.std.proofs.lemmas.Option.{slice_get-get_or, slice_get_cases}
use mathlib.Core.Bool.{true≢false}
use mathlib.Core.Logic.{⊎_elim}
use Rattle.sfm_kind.specs.Names.{IsNewName}

module _ {V : Type 0} (bytes : V → List ℕ) (name : List ℕ) where
  -- a key that is found has the bytes
  pub found_at : (keys : List V) (e : ℕ) → e < length keys
      → position (λ key. pointwise nat_eq name (bytes key)) keys ≡ Some e
      → slice_get (map bytes keys) e ≡ Some name
  found_at keys e within at =
      ⊎_elim
      (λ inside.
      let p = position-Some (λ key. pointwise nat_eq name (bytes key)) keys e inside.0 at in
      let same : name ≡ bytes (get_or keys e inside.0) = same_text _ _ (sym p.1) in
      let there : get_or (map bytes keys) e [] ≡ name = get_or-map bytes keys e inside.0 [] within
      ∙ sym same in
      slice_get-get_or (map bytes keys) e [] (omega (arith, length-map keys bytes)) ∙ ap Some there)
      (λ past. absurd (omega (arith, past.0)))
      (slice_get_cases keys e).1

  -- where no key passes, the name is new
  pub new_where_none : (keys : List V)
      → list_any (λ key. pointwise nat_eq name (bytes key)) keys ≡ false
      → IsNewName (map bytes keys) name
  new_where_none keys none =
      All-map (λ other. other ≢ name) bytes keys
      (λ k d lt same. true≢false (sym
      (list_any_at (λ key. pointwise nat_eq name (bytes key)) keys k d lt
      ((bytes_decides name (bytes (get_or keys k d))).1 (sym same))) ∙ none))

  -- no key passes where the name is new
  pub none_where_new : (keys : List V) → IsNewName (map bytes keys) name
      → list_any (λ key. pointwise nat_eq name (bytes key)) keys ≡ false
  none_where_new keys fresh =
      list_any_none (λ key. pointwise nat_eq name (bytes key)) keys
      (λ k d lt. not_named (get_or keys k d)
      (λ same. fresh k [] (omega (arith, length-map keys bytes, lt))
      (get_or-map bytes keys k d [] lt ∙ same)))
    where
      not_named : (key : V) → (bytes key ≢ name) → pointwise nat_eq name (bytes key) ≡ false
      not_named key other = by_test (pointwise nat_eq name (bytes key)) refl
        where
          by_test : (b : Bool) → pointwise nat_eq name (bytes key) ≡ b
              → pointwise nat_eq name (bytes key) ≡ false
          by_test true h = absurd (other (sym (same_text _ _ (sym h))))
          by_test false h = h
