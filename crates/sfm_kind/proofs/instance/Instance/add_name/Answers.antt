-- The bounds hold with one more name, and the old ones where there is no memory.
use Rattle.std.proofs.Common.{◌≡◌, [], ◌∷◌, ◌++◌, Result, Ok, Err, OnOk, OnErr}
use Rattle.sfm_base.specs.declared.memory.Memory.{Memory}
use Rattle.sfm_kind.specs.Names.{IsNewName}
use Rattle.sfm_kind.specs.Limits.{IsKept}
use Rattle.sfm_kind.proofs.Bounds.{kept-named}
use Rattle.sfm_kind.proofs.instance.Instance.add_name.Goals as goal

pub invariant_of-self : goal.invariant_of-self
invariant_of-self c = after c.push.result c.push.ensures.pushed c.push.ensures.unchanged
  where
    after : (r : Result (Unit {0}) Memory)
        → OnOk r (c.push.new.self ≡ c.self.inside.names ++ c.args.name.now ∷ [])
        → OnErr r (c.push.new.self ≡ c.self.inside.names)
        → IsKept c.push.new.self c.self.inside.terms.items c.self.inside.lines.items
        c.self.inside.support c.self.inside.total
    after (Ok u) pushed unchanged =
        let n = c.self.inside.names in
        let fresh : IsNewName n c.args.name.now = rw (← c.self.view_is) at c.requires.fresh in
        let few = rw (← c.self.view_is) at c.requires.few in
        rw pushed (kept-named n c.args.name.now c.self.inside.terms.items c.self.inside.lines.items
        c.self.inside.support c.self.inside.total c.self.invariant c.requires.form fresh few)
    after (Err e) pushed unchanged = rw unchanged c.self.invariant
