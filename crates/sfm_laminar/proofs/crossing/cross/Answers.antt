use Rattle.std.proofs.Common.{not, ap, ⊎_elim}
use Rattle.std.proofs.lemmas.Bool.{both_ways, false≢true, not-true, cases_Bool}
use Rattle.sfm_laminar.proofs.crossing.cross.Goals as goal

pub returns-then-not-share : goal.returns-then-not-share
returns-then-not-share c =
    let s = rw (c.members-first.ensures, c.members-second.ensures) at c.share.ensures in (
      (λ t. absurd (false≢true t)),
      (λ x. absurd (both_ways c.share.result c.if-not-share.true (s.1 x.shared))),
    )

pub returns-then-holds : goal.returns-then-holds
returns-then-holds c =
    let h = rw (c.members-first.ensures, c.members-second.ensures) at c.holds.ensures in
    ((λ t. absurd (false≢true t)), (λ x. absurd (x.second_beyond (h.0 c.if-holds.true))))

pub returns : goal.returns
returns c =
    let s = rw (c.members-first.ensures, c.members-second.ensures) at c.share.ensures in
    let h = rw (c.members-first.ensures, c.members-second.ensures) at c.holds.ensures in
    let k = rw (c.members-first.ensures, c.members-second.ensures) at c.holds-2.ensures in (
      (λ t. record {
        shared = s.0 c.if-not-share.false;
        first_beyond = λ all. both_ways c.holds-2.result (not-true c.holds-2.result t) (k.1 all);
        second_beyond = λ all. both_ways c.holds.result c.if-holds.false (h.1 all);
      }),
      (λ x. ⊎_elim (λ t. absurd (x.first_beyond (k.0 t))) (λ f. ap not f)
          (cases_Bool c.holds-2.result)),
    )
