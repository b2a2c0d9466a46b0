use Rattle.std.proofs.Common.{length, ◌++◌, refl, arith}
use Rattle.patch.specs.Tagged.{tagged_from}
use Rattle.chains.proofs.WeaverLemmas.{room_offset, room_near, done_short, keep_taken, keep_room, keep_made}
use Rattle.chains.proofs.weaver.Weaver.keep.Goals as goal

pub close-requires : goal.close-requires
close-requires c = let r = c.requires in (r.text, r.weaves.done, keep_taken r.text r.front r.kept r.whole r.left c.args.self.now c.args.self.now c.args.from c.args.to r.stretch c.if-from-to.false r.weaves, r.weaves.short_text, omega (arith, done_short r.text r.whole (tagged_from (length r.front) r.kept ++ r.left) c.args.self.now r.weaves))

pub ahead-self-requires-clause-room : goal.ahead-self-requires-clause-room
ahead-self-requires-clause-room c = let r = c.requires in room_offset _ (keep_room r.text r.front r.kept r.whole r.left c.args.self.now c.close.new.self c.args.from c.args.to r.stretch c.if-from-to.false r.weaves (c.in_ok-close.ensures.ok r.text r.weaves.done (keep_taken r.text r.front r.kept r.whole r.left c.args.self.now c.close.new.self c.args.from c.args.to r.stretch c.if-from-to.false r.weaves)) c.in_ok-close.ensures.old)

pub ahead-self-requires-clause-near : goal.ahead-self-requires-clause-near
ahead-self-requires-clause-near c = let r = c.requires in room_near _ (keep_room r.text r.front r.kept r.whole r.left c.args.self.now c.close.new.self c.args.from c.args.to r.stretch c.if-from-to.false r.weaves (c.in_ok-close.ensures.ok r.text r.weaves.done (keep_taken r.text r.front r.kept r.whole r.left c.args.self.now c.close.new.self c.args.from c.args.to r.stretch c.if-from-to.false r.weaves)) c.in_ok-close.ensures.old)

pub returns : goal.returns
returns c = λ s f k whole left h weaves. keep_made s f k whole left c.args.self.now c.close.new.self c.args.from c.args.to h c.if-from-to.false weaves _ (c.in_ok-close.ensures.ok s weaves.done (keep_taken s f k whole left c.args.self.now c.close.new.self c.args.from c.args.to h c.if-from-to.false weaves)) c.in_ok-close.ensures.old refl refl refl refl refl c.ahead-self.ensures refl c.len.ensures.value
