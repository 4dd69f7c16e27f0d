-- A rank line with weights adds the layers of its term, where there is not too much with what it
-- brings.
use Rattle.std.proofs.Common.{rules, length, refl, FitsSigned}
use Rattle.std.proofs.lemmas.Bool.{false≢true}
use Rattle.std.proofs.lemmas.Int.{to_z-of_z}
use mir.Syntax.{w128}
use Rattle.sfm_text.proofs.LaterLines.{later-much, later-layers}
use Rattle.sfm_text.proofs.LayerLines.{weighed-rank, layers-small, layers-bounded}
use Rattle.sfm_text.proofs.added.add_layered.Goals as goal

pub weigh-requires-clause-each : goal.weigh-requires-clause-each
weigh-requires-clause-each c =
    let i = c.args.instance.now in
    (weighed-rank i.version i.names c.requires.read.0 c.args.term c.args.weights.now
    c.requires.read.1.says).each

pub weigh-requires-clause-weights : goal.weigh-requires-clause-weights
weigh-requires-clause-weights c =
    let i = c.args.instance.now in
    (weighed-rank i.version i.names c.requires.read.0 c.args.term c.args.weights.now
    c.requires.read.1.says).bounds

pub returns-then-is_too_much-clause-outcome : goal.returns-then-is_too_much-clause-outcome
returns-then-is_too_much-clause-outcome c = λ tokens said line is.
    let fits : FitsSigned w128 c.in_ok-brought.brought.size = search rules in
    let much = simp to_z-of_z at (c.if-is_too_much.ensures.much.0 refl) in
    later-much c.args.instance.now tokens line is c.args.term _ said c.in_ok-brought.brought.places
    c.in_ok-brought.brought.size c.in_ok-brought.ensures much

pub new-requires-clause-each : goal.new-requires-clause-each
new-requires-clause-each c =
    let i = c.args.instance.now in
    (weighed-rank i.version i.names c.requires.read.0 c.args.term c.args.weights.now
    c.requires.read.1.says).each

pub new-requires-clause-weights : goal.new-requires-clause-weights
new-requires-clause-weights c =
    let i = c.args.instance.now in
    (weighed-rank i.version i.names c.requires.read.0 c.args.term c.args.weights.now
    c.requires.read.1.says).bounds

pub new-requires-clause-small : goal.new-requires-clause-small
new-requires-clause-small c =
    let i = c.args.instance.now in
    let is = weighed-rank i.version i.names c.requires.read.0 c.args.term c.args.weights.now
    c.requires.read.1.says in
    let fits : FitsSigned w128 c.in_ok-brought.brought.size = search rules in
    let much = simp to_z-of_z at c.if-is_too_much.ensures.much in
    layers-small (length i.names) c.args.term c.args.weights.now is i.version i.lines i.terms
    c.in_ok-brought.brought.places c.in_ok-brought.brought.size c.in_ok-brought.ensures
    (λ h. false≢true (much.1 h))

pub add_layers-requires : goal.add_layers-requires
add_layers-requires c =
    let i = c.args.instance.now in
    let is = weighed-rank i.version i.names c.requires.read.0 c.args.term c.args.weights.now
    c.requires.read.1.says in
    let fits : FitsSigned w128 c.in_ok-brought.brought.size = search rules in
    let much = simp to_z-of_z at c.if-is_too_much.ensures.much in
    layers-bounded (length i.names) c.args.term c.args.weights.now is i.version i.lines i.terms
    c.in_ok-brought.brought.places c.in_ok-brought.brought.size c.in_ok-brought.ensures
    (λ h. false≢true (much.1 h))
    c.in_ok-new.field-0 c.in_ok-new.ensures c.if-is_too_much.ensures.bounded

pub returns-clause-outcome : goal.returns-clause-outcome
returns-clause-outcome c = λ tokens said line is.
    let fits : FitsSigned w128 c.in_ok-brought.brought.size = search rules in
    let much = simp to_z-of_z at c.if-is_too_much.ensures.much in
    let taken = later-layers c.args.instance.now tokens line is c.args.term c.args.weights.now said
    c.names_len-count.ensures.named.distinct c.in_ok-brought.brought.places
    c.in_ok-brought.brought.size c.in_ok-brought.ensures
    (λ h. false≢true (much.1 h)) c.in_ok-new.field-0 c.in_ok-new.ensures in
    rw (
      c.in_ok-add_layers.ensures.added,
      c.in_ok-add_layers.ensures.layered,
      c.in_ok-add_layers.ensures.version,
      c.in_ok-add_layers.ensures.names,
    ) taken
