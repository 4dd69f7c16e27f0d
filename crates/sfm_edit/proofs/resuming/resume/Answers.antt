use Rattle.std.proofs.Common.{◌≡◌, ◌^◌, List, pos, ◌≤ℤ◌, sym, ap, subst, ◌∙◌, rules, arith}
use Rattle.std.specs.List.{All}
use Rattle.std.proofs.lemmas.Int.{ints}
use Rattle.sfm_spec.specs.Bounds.{IsAtMost}
use Rattle.sfm_walk.proofs.Starting.{even_small, each_bounded}
use Rattle.sfm_kind.specs.declared.kind.Kind.{Kind}
use Rattle.sfm_kind.specs.Kinds.{kind_size}
use Rattle.sfm_kind.proofs.Bounds.{kind_size-low}
use Rattle.sfm_edit.specs.Resuming.{firsts_of, AreOldBases}
use Rattle.sfm_edit.proofs.FirstBases.{firsts-bases, firsts-small}
use Rattle.sfm_edit.proofs.resuming.resume.Goals as goal

pub first_rows-requires-clause-old : goal.first_rows-requires-clause-old
first_rows-requires-clause-old c =
    subst (λ (kinds : List Kind). AreOldBases kinds c.args.edited.now.kept c.args.rows.now)
    (sym c.terms-terms.ensures.terms) c.requires.old

pub first_rows-requires-clause-small : goal.first_rows-requires-clause-small
first_rows-requires-clause-small c =
    subst (All (λ term. kind_size term ≤ℤ pos (10 ^ 18))) (sym c.terms-terms.ensures.terms)
    (each_bounded kind_size c.args.edited.now.instance.terms kind_size-low
    c.terms-terms.ensures.bounded.small)

pub minimise_from-requires-clause-shifts : goal.minimise_from-requires-clause-shifts
minimise_from-requires-clause-shifts c =
    even_small c.deref.result.now c.names_len.result (pos 0)
    (record { low = omega (arith, ints); high = omega (arith, ints) })
    (omega (arith, c.names_len.ensures.len, c.names_len.ensures.named.few)) (search rules)

pub minimise_from-requires-clause-bases : goal.minimise_from-requires-clause-bases
minimise_from-requires-clause-bases c =
    let edited = c.args.edited.now in
    rw (c.in_ok-firsts.ensures, c.terms-terms.ensures.terms)
    (firsts-bases edited.instance.terms edited.kept c.args.rows.now c.requires.count
    c.requires.old)

pub minimise_from-requires-clause-small : goal.minimise_from-requires-clause-small
minimise_from-requires-clause-small c =
    let edited = c.args.edited.now in
    let firsts : c.in_ok-firsts.firsts ≡ firsts_of edited.instance.terms edited.kept
    c.args.rows.now =
    c.in_ok-firsts.ensures ∙ ap (λ (kinds : List Kind). firsts_of kinds edited.kept c.args.rows.now)
    c.terms-terms.ensures.terms in
    subst (All (λ x. All (IsAtMost (10 ^ 25)) x)) (sym firsts)
    (firsts-small edited.instance.terms edited.kept c.args.rows.now c.requires.count c.requires.old
    (each_bounded kind_size edited.instance.terms kind_size-low
    c.terms-terms.ensures.bounded.small))
