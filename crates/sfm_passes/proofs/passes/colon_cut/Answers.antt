use Rattle.std.proofs.Common.{◌++◌, ◌∷◌, [], List, ℕ, codes, refl, sym, ap, ◌∙◌, arith, length-append}
use Rattle.std.proofs.lemmas.Bool.{false≢true}
use Rattle.std.proofs.lemmas.List.Elements.{All-nil, All-push}
use Rattle.std.proofs.lemmas.Slice.Eq.{bytes_eq-Decides}
use Rattle.sfm_lines.specs.Parts.{IsSeparator}
use Rattle.sfm_lines.proofs.Colons.{colon-none, no-colon}
use Rattle.sfm_passes.proofs.Passed.{passed-more, passed-all}
use Rattle.sfm_passes.proofs.Shaped.{other-mark, mark-behind, colon-is}
use Rattle.sfm_passes.proofs.passes.colon_cut.Goals as goal

pub loop-token-init : goal.loop-token-init
loop-token-init c = record {
  before = [];
  parts = refl;
  count = refl;
  unmarked = All-nil _;
  bytes = omega arith;
}

pub returns-then-not-is_colon : goal.returns-then-not-is_colon
returns-then-not-is_colon c =
    let inv = c.loop-token.invariant in
    other-mark c.in-Some.token.now _ inv.before _
    (inv.parts ∙ ap (λ (l : List (List ℕ)). inv.before ++ l) c.in-Some.ensures.cut) inv.unmarked
    (c.if-is_separator.ensures.0 refl)
    (λ e. false≢true (c.if-not-is_colon.ensures
    ∙ (bytes_eq-Decides c.in-Some.token.now (codes ":")).1 e))

pub returns-then-has_separator_in : goal.returns-then-has_separator_in
returns-then-has_separator_in c =
    let inv = c.loop-token.invariant in
    mark-behind c.in-Some.token.now _ inv.before _
    (inv.parts ∙ ap (λ (l : List (List ℕ)). inv.before ++ l) c.in-Some.ensures.cut) inv.unmarked
    (c.if-is_separator.ensures.0 refl) c.if-has_separator_in.ensures

pub returns-then-is_separator : goal.returns-then-is_separator
returns-then-is_separator c =
    let inv = c.loop-token.invariant in (
      inv.before,
      inv.count,
      colon-is c.in-Some.token.now _ inv.before _
          (inv.parts ∙ ap (λ (l : List (List ℕ)). inv.before ++ l) c.in-Some.ensures.cut)
          ((bytes_eq-Decides c.in-Some.token.now (codes ":")).0 (sym c.if-not-is_colon.ensures))
          inv.unmarked c.if-has_separator_in.ensures,
    )

pub loop-token-preserved : goal.loop-token-preserved
loop-token-preserved c =
    let inv = c.loop-token.invariant in
    let token = c.in-Some.token.now in
    record {
      before = inv.before ++ token ∷ [];
      parts = passed-more inv.before token _ _ _ inv.parts c.in-Some.ensures.cut;
      count = omega (arith, inv.count, length-append inv.before (token ∷ []));
      unmarked = All-push (λ t. IsSeparator t → ⊥) inv.before token inv.unmarked
          (λ m. false≢true (c.if-is_separator.ensures.1 m));
      bytes = omega (arith, inv.bytes, c.in-Some.ensures.shorter);
    }

pub returns : goal.returns
returns c =
    let inv = c.loop-token.invariant in
    let all = passed-all inv.before _ _ inv.parts c.in_default.ensures.cut in
    λ before behind h. colon-none _ before behind (rw all (no-colon inv.before inv.unmarked)) h
