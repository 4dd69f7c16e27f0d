-- The layers of a triangle fit an instance that has room for them.
use Rattle.sfm_layer_tests.proofs.Weighed.{three-fit}
use Rattle.sfm_layer_tests.proofs.layers.add_layers.Goals as goal

pub add_layers-requires : goal.add_layers-requires
add_layers-requires c =
    let told = c.has_room.ensures in
    let yes = c.if-has_room.true in
    three-fit _ c.args.instance.now.terms c.args.layers c.requires (told.names yes)
    (told.bounded yes) (told.room yes)
