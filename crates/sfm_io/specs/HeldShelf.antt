-- A shelf over memory, and what its calls do, to the byte.
use Rattle.std.specs.Prelude.{◌≡◌, ℕ, ◌+◌, ◌≤◌, List, [], ◌∷◌, ◌++◌, length, min, take, drop, slice_index_or, unwrap_or, ◌⊎◌, Some, Bool, Result, IsSome, IsNone, IfOk, OnOk, OnErr, is_ok, Contains, if◌then◌else◌}
use Rattle.sfm_io.specs.Faults.{counted, are_past}
use Rattle.sfm_io.specs.Shelf.{Texts, ShelfState, text_named}

-- The texts, the unread bytes of the open one, the counts of faults and calls, the most bytes that
-- a read gives, the numbers of the calls that fail, and the names that were asked for.
pub record HeldShelf : Type 0 where
  pub texts : Texts
  pub rest : List ℕ
  pub faults : ℕ
  pub calls : ℕ
  pub piece : ℕ
  pub failing : List ℕ
  pub asked : List (List ℕ)

-- What it tells: all, and that it is sound where no listed call is still to come.
abbrev pub state_of : HeldShelf → ShelfState
state_of s = record {
  texts = Some s.texts;
  rest = Some s.rest;
  faults = s.faults;
  sound = are_past s.failing s.calls;
  asked = s.asked;
}

-- the bytes of the text at that place
abbrev pub text_at : Texts → ℕ → List ℕ
text_at texts i = (slice_index_or texts i ([], [])).1

-- neither count falls
pub record CountsOn (before after : HeldShelf) : Type 0 where
  pub calls : before.calls ≤ after.calls
  pub faults : before.faults ≤ after.faults

-- the shelf after a call that went well or not, asked for these names, and left these bytes unread
abbrev pub after_call : HeldShelf → Bool → List (List ℕ) → List ℕ → HeldShelf
after_call s went names rest = record s {
  rest = rest;
  calls = counted s.calls;
  faults = if went then s.faults else counted s.faults;
  asked = s.asked ++ names;
}

-- the next call is listed as failing
abbrev pub IsListed : HeldShelf → Type 0
IsListed s = Contains s.failing (s.calls + 1)

-- `open(name)`: it fails exactly at a listed call or a name that is not held
pub record OpensHeld {T E : Type 0} (before : HeldShelf) (name : List ℕ) (result : Result T E)
    (after : HeldShelf) : Type 0 where
  pub opens : OnOk result ((¬ IsListed before) × IsSome (text_named before.texts name))
  pub fails : OnErr result (IsListed before ⊎ IsNone (text_named before.texts name))
  pub change : after ≡ after_call before (is_ok result) (name ∷ [])
      (if is_ok result then unwrap_or (text_named before.texts name) [] else [])
  pub counts : CountsOn before after

-- how many bytes a read gives: the least of the piece, the buffer's length and what is left
abbrev pub read_count : HeldShelf → List ℕ → ℕ
read_count s buffer = min (min s.piece (length buffer)) (length s.rest)

-- `read(buf)`: it fails exactly at a listed call
pub record ReadsHeld {E : Type 0} (before : HeldShelf) (old : List ℕ) (result : Result ℕ E)
    (new : List ℕ) (after : HeldShelf) : Type 0 where
  pub passes : OnOk result (¬ IsListed before)
  pub fails : OnErr result (IsListed before)
  pub count : IfOk result (λ k. k ≡ read_count before old)
  pub bytes : IfOk result (λ k. new ≡ take k before.rest ++ drop k old)
  pub untouched : OnErr result (new ≡ old)
  pub change : after ≡ after_call before (is_ok result) []
      (if is_ok result then drop (read_count before old) before.rest else before.rest)
  pub counts : CountsOn before after
