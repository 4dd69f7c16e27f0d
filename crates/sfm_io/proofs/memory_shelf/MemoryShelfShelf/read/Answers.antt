-- What a read of memory does to the byte gives what every read does.
use Rattle.std.proofs.Common.{◌≡◌, rules, arith, refl, ap, sym, ◌+◌, min, length, drop}
use Rattle.std.proofs.lemmas.Grind.{common_steps}
use Rattle.std.proofs.lemmas.List.{append-nil, take_rest, drop-drop}
use Rattle.sfm_io.specs.HeldShelf.{text_at}
use Rattle.sfm_io.specs.MemoryShelf.{unread}
use Rattle.sfm_io.proofs.HeldLemmas.{Reads-held}
use Rattle.sfm_io.proofs.memory_shelf.MemoryShelfShelf.read.Goals as goal

pub returns-in_default-clause-exact : goal.returns-in_default-clause-exact
returns-in_default-clause-exact c = search rules

pub returns-in_default-clause-reads : goal.returns-in_default-clause-reads
returns-in_default-clause-reads c =
    Reads-held (returns-in_default-clause-exact c) (rw (← c.self.view_is) c.self.invariant.some)

pub returns-clause-exact : goal.returns-clause-exact
returns-clause-exact c =
    let text : text_at c.self.inside.texts.items
    c.in-Some.place.text ≡ c.as_slice.result.now = grind (arith, common_steps) in
    let rest : unread c.self.inside.texts.items c.self.inside.place ≡ drop c.in-Some.place.at
    c.as_slice.result.now = rw c.in-Some.is (ap (drop c.in-Some.place.at) text) in
    let left : drop (c.in-Some.place.at + c.min-count.result)
    (text_at c.self.inside.texts.items c.in-Some.place.text) ≡ drop c.min-count.result
    (unread c.self.inside.texts.items c.self.inside.place) =
    rw (rest, text) (sym (drop-drop c.min-count.result c.in-Some.place.at c.as_slice.result.now)) in
    let count : c.min-count.result ≡ min (min c.self.inside.piece (length c.args.buf.now))
    (length (unread c.self.inside.texts.items c.self.inside.place)) =
    rw rest (rw (take_rest, c.min.ensures) at c.min-count.ensures) in
    rw (← c.self.view_is) record {
      passes = c.in_ok-make.ensures.passes;
      fails = tt;
      count = count;
      bytes = rw (rest, c.copy_from_slice.ensures.after, take_rest) refl;
      untouched = tt;
      change = rw (c.in_ok-make.ensures.counts, left, ← count, append-nil c.self.inside.asked.names)
          refl;
      counts = search rules;
    }

pub returns-clause-reads : goal.returns-clause-reads
returns-clause-reads c = Reads-held (returns-clause-exact c)
    (rw (← c.self.view_is) c.self.invariant.some)
