-- Splits over the same lists, that stand beside each other.
use Rattle.std.proofs.Common.{◌≡◌, ℕ, List, ℤ, pos, Some, None, refl, sym, ◌∙◌, length-set}
use Rattle.std.proofs.lemmas.Option.{none-some, same_Some}
use Rattle.sfm_assign.specs.Splits.{Demands}
use Rattle.sfm_assign.specs.Lenders.{with_more}
use Rattle.sfm_assign.specs.declared.kept.Kept.{Kept}
use Rattle.sfm_matroid.specs.Amounts.{IsBeside, CanHold, rest_of}
use Rattle.sfm_matroid.specs.Notes.{AreBeside, IsNear}
use Rattle.sfm_matroid.specs.declared.pair.SplitPair.{SplitPair}

-- what is beside another has that beside it
pub beside_back : (d e : Demands) → IsBeside d e → IsBeside e d
beside_back d e h = record { lists = sym h.lists; places = sym h.places; slots = sym h.slots }

-- and what is beside that is beside the first one
pub beside_next : (d e f : Demands) → IsBeside d e → IsBeside e f → IsBeside d f
beside_next d e f h k = record {
  lists = k.lists ∙ h.lists;
  places = k.places ∙ h.places;
  slots = k.slots ∙ h.slots;
}

-- with nothing at v and more at u, where slots hold what is told
pub grown_beside : (d : Demands) (x : List ℤ) (v : ℕ) (held : List ℤ) (u : ℕ) (g : ℤ)
    → CanHold d x v held → IsBeside d (with_more (rest_of d x v held) u g)
grown_beside d x v held u g h =
    record {
      lists = refl;
      places = length-set _ u _ ∙ (length-set x v (pos 0) ∙ h.sized);
      slots = h.slots;
    }

-- a spare split that is known
pub spare_there : (pair : SplitPair) (k : Kept) → pair.spare ≡ Some k
    → IsBeside pair.kept.demand k.demand → AreBeside pair
spare_there pair k is h other some = rw (← same_Some k other (sym is ∙ some)) h

-- where the split that is kept changes to one beside it, the spare one is beside it still
pub spare_beside : (before after : SplitPair) → after.spare ≡ before.spare
    → IsBeside before.kept.demand after.kept.demand → AreBeside before → AreBeside after
spare_beside before after same h spare k some =
    beside_next after.kept.demand before.kept.demand k.demand
    (beside_back before.kept.demand after.kept.demand h) (spare k (sym same ∙ some))

-- where nothing is noted
pub not_near : (pair : SplitPair) (held : List ℤ) → pair.near ≡ None → IsNear pair held
not_near pair held none n k e f = absurd (none-some n (sym none ∙ e))

-- what is noted stays true while the demands of both splits stay
pub still_near : (before after : SplitPair) (held : List ℤ) → after.near ≡ before.near
    → after.spare ≡ before.spare → after.kept.demand ≡ before.kept.demand
    → IsNear before held → IsNear after held
still_near before after held near spare kept h n k e f =
    let (b, c, is) = h n k (sym near ∙ e) (sym spare ∙ f) in (b, c, rw kept is)
