use Rattle.std.proofs.Common.{◌≡◌, ◌<◌, ◌++◌, ◌∷◌, [], length, pos, ◌≤ℤ◌, get_or, set, Some, None, refl, sym, ap, ◌∙◌, arith, rules, FitsSigned, get_or-set_same}
use Rattle.std.proofs.lemmas.Int.{ints}
use Rattle.std.proofs.lemmas.List.{get_or_read}
use Rattle.std.proofs.lemmas.Option.{none-some}
use mir.Syntax.{w128}
use Rattle.sfm_cells.specs.Splits.{amount_at}
use Rattle.sfm_cells.specs.Cells.{label_at}
use Rattle.sfm_split.specs.Search.{IsNode, IsFurther, IsProgress, node_at}
use Rattle.sfm_split.specs.declared.nodes.Node.{Node}
use Rattle.sfm_split.proofs.Searches.{linked_node}
use Rattle.sfm_split.proofs.Queues.{found_further, found_progress, no_link}
use Rattle.sfm_split.proofs.search.Search.find.Goals.{In_ok-push}
use Rattle.sfm_split.proofs.search.Search.find.Goals as goal

-- what was found
abbrev node : (c : In_ok-push) → Node
node c = record { level = c.len.result; link = Some c.args.link }

-- the demand is the next one that was found
found : (c : In_ok-push) → (c.index-i.result.now ≡ label_at c.args.cells.now.whos.items
    c.args.link.own) × (c.index-i.result.now < length c.args.self.now.nodes.items)
    × IsProgress c.args.cells.now.whos.items c.args.cells.now.slots.items c.args.y.now
    (set c.args.self.now.nodes.items c.index-i.result.now (Some (node c)))
    c.args.self.now.marks.items (c.args.self.now.queue.items ++ c.index-i.result.now ∷ [])
    × IsFurther c.args.self.now.nodes.items c.args.self.now.queue.items
    (set c.args.self.now.nodes.items c.index-i.result.now (Some (node c)))
    (c.args.self.now.queue.items ++ c.index-i.result.now ∷ [])
found c =
    let whos = c.args.cells.now.whos.items in
    let slots = c.args.cells.now.slots.items in
    let y = c.args.y.now in
    let self = c.args.self.now in
    let nodes = self.nodes.items in
    let link = c.args.link in
    let i = c.index-i.result.now in
    let lo = c.requires.own in
    let who = get_or_read whos link.own i lo c.index-i.ensures 0 in
    let owned = c.requires.cells.owned link.own lo in
    let lt : i < length nodes = omega (arith, owned, who) in
    let out = rw c.deref.ensures.value at c.if-is_found.ensures in
    let level = c.len.result in
    let b : Node = record { level = level; link = Some link } in
    let len = c.len.ensures in
    let ok = self.queue.ok.0 in
    let (parent, is) = c.requires.found in
    let lower = c.requires.progress.levels (label_at whos link.other) parent is in
    let f : FitsSigned w128 (get_or y link.own (pos 0)) = search rules in
    let some : pos 1 ≤ℤ amount_at y link.own = omega (arith, ints) in
    let here : IsNode whos slots y nodes i b = rw who
    (linked_node whos slots y nodes level link lo c.requires.other c.requires.shared parent is
    (omega (arith, lower, len, ok)) some) in
    let next : level ≡ length self.queue.items = omega (arith, len, ok) in (
      who,
      lt,
      found_progress whos slots y nodes self.marks.items self.queue.items c.requires.progress i b lt
          out here next (no_link b link refl),
      found_further whos slots y nodes self.marks.items self.queue.items c.requires.progress i b lt
          out here next (no_link b link refl),
    )

pub returns-clause-progress : goal.returns-clause-progress
returns-clause-progress c = let (who, lt, progress, further) = found
    (goal.at.returns-clause-progress c).In_ok-push in rw c.in_ok-push.ensures.items progress

pub returns-clause-further : goal.returns-clause-further
returns-clause-further c = let (who, lt, progress, further) = found
    (goal.at.returns-clause-further c).In_ok-push in rw c.in_ok-push.ensures.items further

pub returns-clause-seen : goal.returns-clause-seen
returns-clause-seen c =
    let (who, lt, progress, further) = found (goal.at.returns-clause-seen c).In_ok-push in
    let nodes = c.args.self.now.nodes.items in
    let i = c.index-i.result.now in
    let b = node (goal.at.returns-clause-seen c).In_ok-push in
    λ none. absurd (none-some b (sym none
    ∙ (ap (λ k. node_at (set nodes i (Some b)) k) (sym who)
    ∙ get_or-set_same nodes i (Some b) None lt)))
