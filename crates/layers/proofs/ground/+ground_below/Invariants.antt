use Rattle.layers.proofs.ground.+ground_below.Given as goal

abbrev pub decreases-ground_below : goal.decreases-ground_below
decreases-ground_below l = l.levels
