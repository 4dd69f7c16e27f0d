-- A shelf over memory keeps the rules of every shelf.
use Rattle.std.proofs.Common.{◌≡◌, ℕ, ◌+◌, ◌≤◌, ◌⊎◌, inl, inr, List, [], ◌++◌, length, take, drop, Option, Some, None, Result, Ok, Err, refl, sym, ◌∙◌, ap, subst, arith}
use Rattle.std.specs.Prelude.{Bool, true, false, IsSome, IsNone, unwrap_or}
use Rattle.std.proofs.lemmas.List.{length-append, length-drop, length-take-le, take-append-drop, nil_from_length, take_at}
use Rattle.sfm_io.specs.Faults.{are_past, Rose}
use Rattle.sfm_io.specs.Shelf.{Texts, KeepsShelf, Opens, Reads, text_named}
use Rattle.sfm_io.specs.HeldShelf.{HeldShelf, OpensHeld, ReadsHeld, after_call, state_of, IsListed, CountsOn}
use Rattle.sfm_io.proofs.FaultLemmas.{Rose-counted, are_past_later, past-Contains}

-- what a call keeps
pub KeepsShelf-held : (before after : HeldShelf) (went : Bool) (names : List (List ℕ))
    (rest : List ℕ) → after ≡ after_call before went names rest → CountsOn before after
    → KeepsShelf names (state_of before) (state_of after)
KeepsShelf-held before after went names rest change counts =
    record {
      texts = ap (λ (s : HeldShelf). Some s.texts) change;
      faults = counts.faults;
      sound = λ past. subst (λ (failing : List ℕ). are_past failing after.calls ≡ true)
          (sym (ap (λ (s : HeldShelf). s.failing) change))
          (are_past_later before.failing before.calls after.calls counts.calls past);
      asked = ap (λ (s : HeldShelf). s.asked) change;
    }

-- no call of a sound shelf is listed
pub sound-not_listed : (s : HeldShelf) → are_past s.failing s.calls ≡ true → IsListed s → ⊥
sound-not_listed s past listed =
    absurd (omega (arith, past-Contains s.failing s.calls (s.calls + 1) past listed))

-- a read that goes by these rules goes by those of every shelf
pub Reads-held : {E : Type 0} {before after : HeldShelf} {old new : List ℕ} {result : Result ℕ E}
    → ReadsHeld before old result new after → 1 ≤ before.piece
    → Reads (state_of before) result new (state_of after)
Reads-held {before = before} {after = after} {old = old} {new = new} {result = Ok k} h piece =
    let within : k ≤ length before.rest = omega (arith, h.count) in
    let front : length (take k before.rest) ≡ k = length-take-le k before.rest within in
    let parts : length new ≡ k + length (drop k old) = ap length h.bytes
    ∙ length-append (take k before.rest) (drop k old)
    ∙ ap (λ n. n + length (drop k old)) front in
    let given : take k new ≡ take k before.rest = ap (take k) h.bytes
    ∙ take_at (take k before.rest) (drop k old) k front in
    let left : after.rest ≡ drop k before.rest = ap (λ (s : HeldShelf). s.rest) h.change
    ∙ ap (λ n. drop n before.rest) (sym h.count) in
    record {
      kept = KeepsShelf-held before after true _ _ h.change h.counts;
      count = omega (arith, parts);
      taken = sym (ap (λ xs. xs ++ after.rest) given ∙ ap (λ xs. take k before.rest ++ xs) left
          ∙ take-append-drop k before.rest);
      ends = λ none some. nil_from_length before.rest
          (omega (arith, h.count, none, some, parts, length-drop k old));
      untouched = tt;
      rose = tt;
      sure = λ _. refl;
    }
Reads-held {before = before} {after = after} {result = Err e} h piece =
    record {
      kept = KeepsShelf-held before after false _ _ h.change h.counts;
      count = tt;
      taken = tt;
      ends = tt;
      untouched = ap (λ (s : HeldShelf). Some s.rest) h.change;
      rose = subst (Rose before.faults) (sym (ap (λ (s : HeldShelf). s.faults) h.change))
          (Rose-counted before.faults);
      sure = λ past. absurd (sound-not_listed before past h.fails);
    }

-- a name that is held has a text
text_told : (texts : Texts) (name : List ℕ) (rest : List ℕ) → IsSome (text_named texts name)
    → rest ≡ unwrap_or (text_named texts name) [] → (text : List ℕ)
    × (text_named texts name ≡ Some text) × (Some rest ≡ Some text)
text_told texts name rest some is = at (text_named texts name) refl some
  where
    at : (o : Option (List ℕ)) → text_named texts name ≡ o → IsSome o → (text : List ℕ)
        × (text_named texts name ≡ Some text) × (Some rest ≡ Some text)
    at None e some = cc some
    at (Some text) e some = (text, e, ap Some (is ∙ ap (λ (o : Option (List ℕ)). unwrap_or o []) e))

not_both : (o : Option (List ℕ)) → IsNone o → IsSome o → ⊥
not_both None none some = cc some
not_both (Some text) none some = cc none

-- an opening that goes by these rules goes by those of every shelf
pub Opens-held : {T E : Type 0} {before after : HeldShelf} {name : List ℕ} {result : Result T E}
    → OpensHeld before name result after → Opens (state_of before) name result (state_of after)
Opens-held {before = before} {after = after} {name = name} {result = Ok x} h =
    record {
      kept = KeepsShelf-held before after true _ _ h.change h.counts;
      opened = λ texts told. let same : before.texts ≡ texts = cc told in
          subst (λ (ts : Texts). (text : List ℕ) × (text_named ts name ≡ Some text)
          × (Some after.rest ≡ Some text)) same
          (text_told before.texts name after.rest h.opens.1
          (ap (λ (s : HeldShelf). s.rest) h.change));
      closed = tt;
      rose = tt;
      held = λ _ _ _ _. refl;
    }
Opens-held {before = before} {after = after} {name = name} {result = Err e} h =
    record {
      kept = KeepsShelf-held before after false _ _ h.change h.counts;
      opened = tt;
      closed = λ _ _. ap (λ (s : HeldShelf). Some s.rest) h.change;
      rose = subst (Rose before.faults) (sym (ap (λ (s : HeldShelf). s.faults) h.change))
          (Rose-counted before.faults);
      held = λ past texts told some. absurd (unless past texts told some h.fails);
    }
  where
    unless : are_past before.failing before.calls ≡ true → (texts : Texts)
        → Some before.texts ≡ Some texts → IsSome (text_named texts name) → IsListed before
        ⊎ IsNone (text_named before.texts name) → ⊥
    unless past texts told some (inl listed) = sound-not_listed before past listed
    unless past texts told some (inr none) =
        let same : before.texts ≡ texts = cc told in not_both (text_named texts name)
        (subst (λ (ts : Texts). IsNone (text_named ts name)) same none) some
