use Rattle.std.proofs.Common.{◌≡◌, ℕ, ◌<◌, length, drop, replicate, ap, sym, ◌∙◌, ⊎_elim, arith, rules}
use Rattle.std.proofs.lemmas.Bool.{both_ways, cases_lt, false≢true}
use Rattle.sfm_cells.proofs.Written.{written}
use Rattle.sfm_graphic.proofs.Freed.{freed_none}
use Rattle.sfm_graphic.proofs.testing.passes_each.Goals as goal

pub loop-a-init : goal.loop-a-init
loop-a-init c =
    let t = c.args.trial.now in
    let g = t.graph.now in
    let r = c.requires.amounts in
    let is : c.in_ok-held.held.items ≡ replicate g.vertices t.most = search rules in
    record {
      over = c.requires.over;
      passed = λ b lb tail. absurd (omega (arith, lb));
      held = rw is (freed_none _ g.vertices t.most t.x.now (record { low = r.low; high = r.high }));
    }

pub loop-a-preserved : goal.loop-a-preserved
loop-a-preserved c =
    let a : ℕ = c.loop-a.a in
    let passed = c.if-not-branch.false in
    let told = c.in_ok-passes_tail.ensures in
    let held = c.loop-a.held in
    let is = written c.passes_tail.new.held (drop (length c.passes_tail.new.held) held.items)
    held.len (c.passes_tail.auto.held
    ∙ (ap length c.deref_mut.ensures.value ∙ sym held.ok.0)) in
    record {
      over = told.over passed;
      passed = λ b lb tail. ⊎_elim
          (λ (l : b < a). c.loop-a.invariant.passed b l tail)
          (λ ge. let q : b ≡ a = omega (arith, ge, lb) in rw q (told.told.0 passed (rw q at tail)))
          (cases_lt b a);
      held = rw is (told.held passed);
    }

pub returns-then-not-branch : goal.returns-then-not-branch
returns-then-not-branch c =
    let told = c.in_ok-passes_tail.ensures.told in (
      (λ t. absurd (false≢true t)),
      (λ h. absurd (both_ways c.in_ok-passes_tail.field-0 c.if-not-branch.true
          (told.1 (h c.loop-a.a c.loop-a-test.true)))),
    )

pub passes_tail-requires-clause-amounts : goal.passes_tail-requires-clause-amounts
passes_tail-requires-clause-amounts c = c.requires.amounts

pub passes_tail-requires-clause-over : goal.passes_tail-requires-clause-over
passes_tail-requires-clause-over c = c.loop-a.invariant.over

pub passes_tail-requires-clause-held : goal.passes_tail-requires-clause-held
passes_tail-requires-clause-held c = rw c.deref_mut.ensures.value c.loop-a.invariant.held
