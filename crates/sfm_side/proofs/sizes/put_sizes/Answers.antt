use Rattle.std.proofs.Common.{ℕ, ◌<◌, List, ◌∷◌, length, get_or, Option, inl, inr, ℤ, pos, ◌≤ℤ◌, ◌<ℤ◌, ◌^◌, sym, subst, arith}
use Rattle.std.proofs.lemmas.Int.{ints}
use Rattle.std.proofs.lemmas.List.Elements.{All-get_or}
use Rattle.sfm_lines.specs.Lines.{tokens_of}
use Rattle.sfm_side.specs.declared.passes.TokenTest.TheVariants.{PairSize, PairElement}
use Rattle.sfm_side.specs.Passes.{Passes}
use Rattle.sfm_side.specs.SizeLines.{given_of, Puts, PutsTwice}
use Rattle.sfm_side.proofs.Putting.{all-first, all-rest}
use Rattle.sfm_side.proofs.Keeping.{given-some, given-none, size-kept, set-given, set-kept}
use Rattle.sfm_side.proofs.sizes.put_sizes.Goals as goal

pub pair_size-e-requires-clause-size : goal.pair_size-e-requires-clause-size
pair_size-e-requires-clause-size c = all-first (Passes c.args.instance.now.names PairSize) _ _ _
    c.in-Some.ensures.cut c.loop-token.invariant.sizes

pub pair_size-e-requires-clause-element : goal.pair_size-e-requires-clause-element
pair_size-e-requires-clause-element c = all-first (Passes c.args.instance.now.names PairElement) _ _
    _ c.in-Some.ensures.cut c.loop-token.invariant.elements

pub returns-then-kept-e-gt0-clause-put : goal.returns-then-kept-e-gt0-clause-put
returns-then-kept-e-gt0-clause-put c =
    let kept = c.loop-token.kept in
    let e = c.pair_size-e.result.0 in
    let lt : e < length kept = omega (
      arith,
      c.pair_size-e.ensures.within,
      c.loop-token.invariant.kept.places,
    ) in
    let old = All-get_or (λ (w : ℤ). (pos 0 ≤ℤ w) × (w ≤ℤ pos (10 ^ 6))) kept e (pos 0) lt
    c.loop-token.invariant.kept.each in
    let much : pos 0 <ℤ get_or kept e
    (pos 0) = omega (arith, ints, c.if-kept-e-gt0.true, old.0, old.1) in
    let twice : PutsTwice c.args.instance.now.names (given_of kept)
    (c.in-Some.token.now ∷ tokens_of c.in-Some.behind.now) = (
      e,
      c.pair_size-e.result.1,
      c.pair_size-e.ensures.pair,
      inl (get_or kept e (pos 0), given-some kept e lt much),
    ) in
    c.loop-token.invariant.twice (subst (PutsTwice c.args.instance.now.names (given_of kept))
    (sym c.in-Some.ensures.cut) twice)

pub loop-token-preserved : goal.loop-token-preserved
loop-token-preserved c =
    let names = c.args.instance.now.names in
    let kept = c.loop-token.kept in
    let before = c.loop-token.invariant in
    let e = c.pair_size-e.result.0 in
    let v = c.pair_size-e.result.1 in
    let pair = c.pair_size-e.ensures.pair in
    let lt : e < length kept = omega (arith, c.pair_size-e.ensures.within, before.kept.places) in
    let is = size-kept pair.pair.1 v pair.size in
    let put = set-given kept e v _ is pair.size.1 in
    let old = All-get_or (λ (w : ℤ). (pos 0 ≤ℤ w) × (w ≤ℤ pos (10 ^ 6))) kept e (pos 0) lt
    before.kept.each in
    let none : get_or kept e (pos 0) ≤ℤ pos
    0 = omega (arith, ints, c.if-kept-e-gt0.false, old.0, old.1) in
    let new = given-none kept e lt none in
    record {
      kept = set-kept (length names) kept e v _ before.kept is pair.size.1 pair.size.2;
      sizes = all-rest (Passes names PairSize) _ _ _ c.in-Some.ensures.cut before.sizes;
      elements = all-rest (Passes names PairElement) _ _ _ c.in-Some.ensures.cut before.elements;
      puts = λ after puts. before.puts after
          (subst (λ (tokens : List (List ℕ)). Puts names (given_of kept) tokens after)
          (sym c.in-Some.ensures.cut) (
            e,
            v,
            pair,
            new,
            subst (λ (given : List (Option ℤ)).
                Puts names given (tokens_of c.in-Some.behind.now) after) put puts,
          ));
      twice = λ twice. before.twice
          (subst (PutsTwice names (given_of kept)) (sym c.in-Some.ensures.cut) (
            e,
            v,
            pair,
            inr (
              new,
              subst (λ (given : List (Option ℤ)).
                  PutsTwice names given (tokens_of c.in-Some.behind.now)) put twice,
            ),
          ));
    }
