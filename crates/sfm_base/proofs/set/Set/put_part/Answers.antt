use Rattle.std.proofs.Common.{ℕ, ◌<◌, Bool, false, length, get_or, set, sym, ap, ◌∙◌, ⊎_elim, arith, get_or-set_same, get_or-set_other}
use Rattle.std.proofs.lemmas.Bool.{cases_eq}
use Rattle.std.proofs.lemmas.List.{ext_get_or, get_or-map, length-map, length-set}
use Rattle.sfm_base.proofs.set.Set.put_part.Goals as goal

pub loop-j-init : goal.loop-j-init
loop-j-init c = (c.requires.places, λ k l. absurd (omega (arith, l)))

pub put-requires : goal.put-requires
put-requires c = let places = c.loop-j.invariant.0 in omega (arith, places, c.loop-j-test.true)

pub loop-j-preserved : goal.loop-j-preserved
loop-j-preserved c =
    let before = c.loop-j.self in
    let j = c.loop-j.j in
    let b = c.contains.result in
    let places = c.loop-j.invariant.0 in
    let inside : j < length before = omega (arith, places, c.loop-j-test.true) in (
      ap length c.put.ensures ∙ (length-set before j b ∙ places),
      λ k l. ap (λ s. get_or s k false) c.put.ensures ∙ ⊎_elim
          (λ same. ap (λ i. get_or (set before j b) i false) same
          ∙ (get_or-set_same before j b false inside
          ∙ (c.contains.ensures ∙ ap (λ i. get_or c.args.whole.now
          (get_or c.args.places.now i 0) false) (sym same))))
          (λ other. get_or-set_other before j k b false other
          ∙ c.loop-j.invariant.1 k (omega (arith, l, other)))
          (cases_eq k j),
    )

pub returns : goal.returns
returns c =
    let places = c.loop-j.invariant.0 in
    let f : ℕ → Bool = λ e. get_or c.args.whole.now e false in
    ext_get_or false _ _ (places ∙ sym (length-map c.args.places.now f))
    (λ k l. c.loop-j.invariant.1 k (omega (arith, l, places, c.loop-j-test.false))
    ∙ sym (get_or-map f c.args.places.now k 0 false (omega (arith, l, places))))
