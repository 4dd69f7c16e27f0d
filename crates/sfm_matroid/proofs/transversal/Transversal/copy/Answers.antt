use Rattle.std.proofs.Common.{◌≡◌, ◌∙◌, ℕ, ◌≤◌, Bool, List, length, ℤ, pos, ◌≤ℤ◌, refl}
use Rattle.std.proofs.lemmas.Int.{to_z-of_z}
use denote.Struct.Props.{props}
use mir.Syntax.{w128}
use Rattle.sfm_spec.specs.Bounds.{AreElements, IsGiven}
use Rattle.sfm_law.proofs.Fits.{given_fits}
use Rattle.sfm_matroid.specs.Slots.{transversal_basis}
use Rattle.sfm_matroid.specs.declared.transversal.Transversal.{Transversal}
use Rattle.sfm_matroid.proofs.transversal.Transversal.copy.Goals as goal

-- facts of one term, whichever proofs stand for them
one : {A : Type 0} → IsProp A → (a b : A) → a ≡ b
one prop a b = prop a b

-- a term is told by its parts
same : (s : Transversal) (places : List ℕ) (w : ℤ) (entries : List (List ℕ)) (basis : List Bool)
    (frame : List (List ℕ)) → places ≡ s.places → w ≡ s.w → entries ≡ s.entries → basis ≡ s.basis
    → frame ≡ s.frame
    → (elements : AreElements places) (few : length places ≤ 256) (low : pos 0 ≤ℤ w)
    (given : IsGiven w) (same_count : length entries ≡ length places)
    (based : basis ≡ transversal_basis entries) (framed : frame ≡ entries)
    → (let r : Transversal = record {
      places = places;
      w = w;
      entries = entries;
      basis = basis;
      frame = frame;
      elements = elements;
      few = few;
      low = low;
      given = given;
      same_count =
          same_count;
      based = based;
      framed = framed;
    } in r) ≡ s
same s places w entries basis frame hp hw he hb hf =
    rw (hp, hw, he, hb, hf) (λ elements few low given same_count based framed.
    let e : elements ≡ s.elements = one (hlevel props) elements s.elements in
    let f : few ≡ s.few = one (hlevel props) few s.few in
    let l : low ≡ s.low = one (hlevel props) low s.low in
    let g : given ≡ s.given = one (hlevel props) given s.given in
    let c : same_count ≡ s.same_count = one (hlevel props) same_count s.same_count in
    let b : based ≡ s.based = one (hlevel props) based s.based in
    let r : framed ≡ s.framed = one (hlevel props) framed s.framed in
    rw (e, f, l, g, c, b, r) refl)

pub returns : goal.returns
returns c =
    let s = c.args.self.now in
    same s _ _ _ _ _ (c.in_ok-places.ensures ∙ c.as_slice.ensures)
    (to_z-of_z w128 s.w (given_fits s.w s.given)) c.in_ok-entries.ensures c.in_ok-basis.ensures
    c.in_ok-frame.ensures _ _ _ _ _ _ _
