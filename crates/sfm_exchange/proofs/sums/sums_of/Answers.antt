use Rattle.std.proofs.Common.{◌≡◌, length, get_or, replicate, pos, rules, ap, ◌∙◌, arith}
use Rattle.std.proofs.lemmas.Int.{ints}
use Rattle.std.proofs.lemmas.List.{length-replicate, get_or-replicate}
use Rattle.std.proofs.lemmas.Result.{IfOk-weaker}
use Rattle.sfm_spec.specs.Bounds.{IsEntry}
use Rattle.sfm_spec.specs.Families.{meanings}
use Rattle.sfm_spec.proofs.Walks.{bases-at}
use Rattle.sfm_law.specs.Rest.{IsRest}
use Rattle.sfm_law.proofs.Lists.{length-bases, length-meanings}
use Rattle.sfm_law.proofs.Rests.{magnitudes-replicate}
use Rattle.sfm_exchange.specs.Sums.{AreSums}
use Rattle.sfm_exchange.proofs.sums.sums_of.Goals as goal

pub rest_of-requires-clause-placed : goal.rest_of-requires-clause-placed
rest_of-requires-clause-placed g c =
    let same : c.deref.result.now ≡ replicate c.args.n (pos 0) = search rules in
    rw (same, length-replicate c.args.n (pos 0)) c.requires.bounded.placed

pub rest_of-requires-clause-few : goal.rest_of-requires-clause-few
rest_of-requires-clause-few g c = c.requires.bounded.few_places

pub rest_of-requires-clause-rows : goal.rest_of-requires-clause-rows
rest_of-requires-clause-rows g c =
    let t = g.T.Term in
    length-bases c.requires.bases.0 (meanings t.places t.value_of c.args.terms.now) c.args.bases.now
    c.requires.bases.1 ∙ length-meanings t.places t.value_of c.args.terms.now

pub rest_of-requires-clause-entries : goal.rest_of-requires-clause-entries
rest_of-requires-clause-entries g c =
    let t = g.T.Term in
    let ts = meanings t.places t.value_of c.args.terms.now in
    λ i l. (bases-at c.requires.bases.0 ts c.args.bases.now i c.requires.bases.1
    (rw (length-meanings t.places t.value_of c.args.terms.now) l)).0

pub rest_of-requires-clause-small : goal.rest_of-requires-clause-small
rest_of-requires-clause-small g c = c.requires.small

pub rest_of-requires-clause-shifts : goal.rest_of-requires-clause-shifts
rest_of-requires-clause-shifts g c =
    let none : IsEntry (pos 0) = record { low = omega (arith, ints); high = omega (arith, ints) } in
    let same : c.deref.result.now ≡ replicate c.args.n (pos 0) = search rules in
    let small = magnitudes-replicate c.args.n (pos 0) none in
    rw same (omega (arith, ints, small, c.requires.bounded.few))

pub returns : goal.returns
returns g c =
    let t = g.T.Term in
    let ts = meanings t.places t.value_of c.args.terms.now in
    let n = c.args.n in
    let bases = c.args.bases.now in
    let shift = c.deref.result.now in
    let same : shift ≡ replicate n (pos 0) = search rules in
    IfOk-weaker c.rest_of.result (λ z. IsRest ts shift bases z.items)
    (λ z. AreSums ts n bases z.items)
    (λ z h.
    let count : length z.items ≡ n = h.places ∙ (ap length same ∙ length-replicate n (pos 0)) in
    record {
      places = count;
      exact = λ e l.
          let r = h.exact e (rw count l) in
          let s : get_or shift e (pos 0) ≡ pos 0 = ap (λ y. get_or y e (pos 0)) same
          ∙ get_or-replicate n e (pos 0) (pos 0) l in
          omega (arith, ints, r, s);
    }) c.rest_of.ensures
