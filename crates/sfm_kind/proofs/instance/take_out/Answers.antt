-- What is left of the terms and of their totals when one is taken out.
use Rattle.std.proofs.lemmas.Int.{to_z-of_z}
use Rattle.sfm_kind.proofs.Removed.{removed-rest}
use Rattle.sfm_kind.proofs.instance.take_out.Goals as goal

pub overflow_sub-support : goal.overflow_sub-support
overflow_sub-support c =
    let left = removed-rest c.args.terms.now.items c.args.i c.remove-term.result c.args.support.now
    c.args.total.now c.requires.within c.remove-term.ensures.value c.requires.supported
    c.requires.totalled c.requires.small in
    rw c.elements.ensures left.rest.places_fit

pub overflow_sub-total : goal.overflow_sub-total
overflow_sub-total c =
    let left = removed-rest c.args.terms.now.items c.args.i c.remove-term.result c.args.support.now
    c.args.total.now c.requires.within c.remove-term.ensures.value c.requires.supported
    c.requires.totalled c.requires.small in
    rw (c.size.ensures, left.rest.is) left.rest.fits

pub returns-clause-supported : goal.returns-clause-supported
returns-clause-supported c =
    let left = removed-rest c.args.terms.now.items c.args.i c.remove-term.result c.args.support.now
    c.args.total.now c.requires.within c.remove-term.ensures.value c.requires.supported
    c.requires.totalled c.requires.small in
    rw c.elements.ensures left.supported

pub returns-clause-totalled : goal.returns-clause-totalled
returns-clause-totalled c =
    let left = removed-rest c.args.terms.now.items c.args.i c.remove-term.result c.args.support.now
    c.args.total.now c.requires.within c.remove-term.ensures.value c.requires.supported
    c.requires.totalled c.requires.small in
    let fits = left.rest.fits in
    rw (c.size.ensures, left.rest.is) (simp to_z-of_z left.totalled)

pub returns-clause-smaller : goal.returns-clause-smaller
returns-clause-smaller c =
    let left = removed-rest c.args.terms.now.items c.args.i c.remove-term.result c.args.support.now
    c.args.total.now c.requires.within c.remove-term.ensures.value c.requires.supported
    c.requires.totalled c.requires.small in
    let fits = left.rest.fits in
    rw (c.size.ensures, left.rest.is) (simp to_z-of_z left.smaller)
