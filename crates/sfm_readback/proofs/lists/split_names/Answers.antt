use Rattle.std.proofs.Common.{◌≡◌, ◌++◌, ◌∷◌, ◌<◌, ◌+◌, [], List, ℕ, Bool, length, get_or, set, true, subst, sym, ap, ◌∙◌, arith}
use Rattle.sfm_spec.specs.Sets.{empty_set}
use Rattle.sfm_readback.proofs.Names.{NamesSoFar, names_begin, names_take, names_skip, names_end}
use Rattle.sfm_readback.proofs.lists.split_names.Goals as goal
use Rattle.sfm_readback.proofs.lists.split_names.Goals.{in-Some, in_default}

pub loop-e-init : goal.loop-e-init
loop-e-init c =
    let names = c.args.instance.now.names in
    subst (λ (s : List Bool). NamesSoFar names c.args.bytes.now 0 s c.args.bytes.now)
    (sym (c.in_ok-members.ensures ∙ ap empty_set c.names_len.ensures.len))
    (names_begin names c.args.bytes.now)

pub loop-e-preserved : goal.loop-e-preserved
loop-e-preserved c =
    let names = c.args.instance.now.names in
    let bytes = c.args.bytes.now in
    let e = c.loop-e.e in
    let h : e < length names = omega (arith, c.loop-e-test.true, c.names_len-e-end.ensures.len) in
    elim c.match-behind_name.branch [
      | in-Some w ↦
          let r = w.in-Some.ensures in
          let next : c.loop-e.rest.now ≡ 32 ∷ (get_or names e [] ++ w.in-Some.behind.now) = r.1
          ∙ ap (λ n. 32 ∷ (n ++ w.in-Some.behind.now)) c.name.ensures in
          subst (λ (s : List Bool). NamesSoFar names bytes (e + 1) s c.match-behind_name.rest.now)
          (sym (w.members-is ∙ w.insert.ensures))
          (subst (λ (x : List ℕ). NamesSoFar names bytes (e + 1) (set c.loop-e.members e true) x)
          (sym (ap (λ x. x.now) w.rest-is))
          (names_take names bytes e c.loop-e.members c.loop-e.rest.now w.in-Some.behind.now h
          c.names_len.ensures.named c.loop-e.invariant r.0 next))
      | in_default w ↦
          subst (λ (s : List Bool). NamesSoFar names bytes (e + 1) s c.match-behind_name.rest.now)
          (sym w.members-is)
          (subst (λ (x : List ℕ). NamesSoFar names bytes (e + 1) c.loop-e.members x)
          (sym (ap (λ x. x.now) w.rest-is))
          (names_skip names bytes e c.loop-e.members c.loop-e.rest.now h c.loop-e.invariant
          (λ after stop f. w.in_default.ensures after stop
          (f ∙ ap (λ n. 32 ∷ (n ++ after)) (sym c.name.ensures)))))
    ]

pub returns : goal.returns
returns c = names_end c.args.instance.now.names c.args.bytes.now c.loop-e.e c.loop-e.members
    c.loop-e.rest.now (omega (arith, c.loop-e-test.false, c.names_len-e-end.ensures.len))
    c.loop-e.invariant
