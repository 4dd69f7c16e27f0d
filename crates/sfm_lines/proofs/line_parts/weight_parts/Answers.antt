use Rattle.std.proofs.Common.{ℕ, List, [], ◌∷◌, ◌++◌, refl}
use Rattle.sfm_lines.specs.Parts.{IsPairToken}
use Rattle.sfm_lines.proofs.Matches.{AllZip-text, AllZip-more, texts-push}
use Rattle.sfm_lines.proofs.line_parts.weight_parts.Goals as goal

pub returns-in_default : goal.returns-in_default
returns-in_default c = λ parts h.
    let (pair, is) = AllZip-text IsPairToken c.args.tokens.now h.pairs c.loop-token.token-index _
    h.each c.loop-token-test.true in
    c.in_default.ensures pair is

pub loop-token-preserved : goal.loop-token-preserved
loop-token-preserved c =
    let before = c.loop-token.invariant in
    let pair : List ℕ × List ℕ = (c.in-Some.element.now, c.in-Some.number.now) in
    record {
      pairs = before.pairs ++ pair ∷ [];
      each = AllZip-more IsPairToken c.args.tokens.now before.pairs (before.pairs ++ pair ∷ [])
          c.loop-token.token-index _ pair c.loop-token-test.true before.each c.in-Some.ensures refl;
      elements = texts-push (λ (p : List ℕ × List ℕ). p.0) c.loop-token.elements.items
          c.push.new.self.items c.in-Some.element before.pairs pair before.elements
          c.in_ok-push.ensures.items refl;
      numbers = texts-push (λ (p : List ℕ × List ℕ). p.1) c.loop-token.numbers.items
          c.push-in-loop-token.new.self.items c.in-Some.number before.pairs pair before.numbers
          c.in_ok-push-2.ensures.items refl;
    }
