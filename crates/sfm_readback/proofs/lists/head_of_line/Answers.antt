use Rattle.std.proofs.Common.{◌≡◌, ◌++◌, [], List, ℕ, ℤ, Bool, sym, ap, subst, ◌∙◌}
use Rattle.std.proofs.lemmas.Bool.{false≢true}
use Rattle.std.specs.Prelude.{codes}
use Rattle.std.proofs.lemmas.List.{append-nil}
use Rattle.sfm_spec.specs.Sets.{Has}
use Rattle.sfm_cert.specs.Answer.{listed, slope_text}
use Rattle.sfm_readback.specs.Lists.{IsListCut}
use Rattle.sfm_readback.proofs.Needs.{not_empty, is_empty_nil}
use Rattle.sfm_readback.proofs.LineForms.{slope_line_cut, slope_parts_of_line, slope_set}
use Rattle.sfm_readback.proofs.lists.head_of_line.Goals as goal
use Rattle.sfm_readback.proofs.lists.head_of_line.Goals.{then-not-is_empty-via-then-not-is_empty, then-not-is_empty-via-else-not-is_empty+then-not-has_some}

pub returns-in_default-slope_of : goal.returns-in_default-slope_of
returns-in_default-slope_of c = λ r s h.
    c.in_default-slope_of.ensures r.num r.den h.lowest h.entry h.factor
    (slope_parts_of_line c.args.instance.now.names c.args.line.now c.in-Some.bytes.now _ _ r s
    c.in-Some.ensures c.split_token.ensures.cut c.split_token.ensures.plain
    c.split_token.ensures.stop h).0

pub returns-then-not-is_empty : goal.returns-then-not-is_empty
returns-then-not-is_empty c = λ r s h.
    let names = c.args.instance.now.names in
    let parts = slope_parts_of_line names c.args.line.now c.in-Some.bytes.now _ _ r s
    c.in-Some.ensures c.split_token.ensures.cut c.split_token.ensures.plain
    c.split_token.ensures.stop h in
    let same = slope_set names _ c.in_ok-set.set c.in_ok-set.rest.now s c.in_ok-set.ensures
    h.members.places parts.1 in
    elim c.then-not-is_empty.branch [
      | then-not-is_empty-via-then-not-is_empty w ↦ not_empty _ _ c.is_empty.ensures
          w.if-not-is_empty.true (sym same.1)
      | then-not-is_empty-via-else-not-is_empty+then-not-has_some w ↦
          false≢true (sym w.if-not-has_some.true
          ∙ w.has_some.ensures.1 (
            h.members.some.0,
            subst (λ (x : List Bool). Has x h.members.some.0) same.0 h.members.some.1,
          ))
    ]

-- the text of a slope line from its parts
written : (names : List (List ℕ)) (line bytes token list rest : List ℕ) (num den : ℤ)
    (s : List Bool) → line ≡ codes "slope " ++ bytes → bytes ≡ token ++ list
    → token ≡ slope_text num den
    → IsListCut names list s rest → rest ≡ []
    → line ≡ codes "slope " ++ slope_text num den ++ listed names s
written names line bytes token list rest num den s e f g cut none =
    e ∙ ap (λ b. codes "slope " ++ b)
    (f ∙ (ap (λ t. t ++ list) g ∙ ap (λ l. slope_text num den ++ l)
    (cut.cut ∙ (ap (λ r. listed names s ++ r) none ∙ append-nil (listed names s)))))
    ∙ sym (slope_line_cut names num den s)

pub returns : goal.returns
returns c =
    let slope = c.in-Some-slope_of.slope in
    let set = c.in_ok-set.set in
    record {
      lowest = slope.lowest;
      entry = slope.entry;
      factor = slope.factor;
      members = record {
        places = c.in_ok-set.ensures.places;
        some = c.has_some.ensures.0 c.if-not-has_some.false;
      };
      written = written c.args.instance.now.names c.args.line.now c.in-Some.bytes.now _ _
          c.in_ok-set.rest.now slope.num slope.den set c.in-Some.ensures c.split_token.ensures.cut
          c.in-Some-slope_of.ensures c.in_ok-set.ensures
          (is_empty_nil _ _ c.is_empty.ensures c.if-not-is_empty.false);
    }
