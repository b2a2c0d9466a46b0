use Rattle.chains.proofs.StackLemmas.{slot_shared}
use Rattle.chains.proofs.held.share_slot.Goals as goal

pub returns-in_ok-overlay-clause-layers : goal.returns-in_ok-overlay-clause-layers
returns-in_ok-overlay-clause-layers c = slot_shared c.args.shared.now.items c.push.new.self.items c.args.slot.now (record { overlay = c.in_ok-overlay.overlay }) c.in-Some.held c.push.ensures.items c.in-Some.is c.in_ok-overlay.ensures
