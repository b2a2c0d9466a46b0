use Rattle.std.proofs.Common.{◌≡◌, ◌-◌, ◌≤◌, length, drop}
use Rattle.chains.specs.Layered.{tags_since}
use Rattle.chains.specs.Overlay.{overlays_of, tags_above, text_of_all}
use Rattle.chains.specs.Spots.{spot_in}
use Rattle.chains.specs.Weaving.{Weaves}
use Rattle.chains.proofs.squash.joined_layer.Given as goal

abbrev pub invariant-stretches : goal.invariant-stretches
invariant-stretches l = record {
  place : l.at ≡ spot_in (text_of_all l.base (overlays_of l.held)) l.at.offset;
  within : l.at.offset ≤ length (text_of_all l.base (overlays_of l.held));
  weaves : Weaves l.base (tags_since l.base (tags_above l.base (overlays_of l.held))) (drop l.at.offset (tags_since l.base (tags_above l.base (overlays_of l.held)))) l.weaver;
}

abbrev pub decreases-stretches : goal.decreases-stretches
decreases-stretches l = l.end.offset - l.at.offset
