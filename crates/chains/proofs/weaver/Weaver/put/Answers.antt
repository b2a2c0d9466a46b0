use Rattle.std.proofs.Common.{refl}
use Rattle.chains.proofs.WeaverLemmas.{room_offset, room_near, put_fits, put_room, put_made}
use Rattle.chains.proofs.weaver.Weaver.put.Goals as goal

pub append-requires : goal.append-requires
append-requires c = put_fits c.requires.text c.requires.front c.args.part c.requires.whole c.requires.left c.args.self.now c.args.from c.args.to c.requires.from_is c.requires.to_is c.requires.weaves

pub ahead-self-requires-clause-room : goal.ahead-self-requires-clause-room
ahead-self-requires-clause-room c = room_offset _ (put_room c.requires.text c.requires.front c.args.part c.requires.whole c.requires.left c.args.self.now c.args.from c.args.to c.requires.from_is c.requires.to_is c.requires.weaves)

pub ahead-self-requires-clause-near : goal.ahead-self-requires-clause-near
ahead-self-requires-clause-near c = room_near _ (put_room c.requires.text c.requires.front c.args.part c.requires.whole c.requires.left c.args.self.now c.args.from c.args.to c.requires.from_is c.requires.to_is c.requires.weaves)

pub returns : goal.returns
returns c = λ s f whole left from_is to_is weaves. put_made s f c.args.part whole left c.args.self.now c.args.from c.args.to from_is to_is weaves _ refl c.in_ok-append.ensures.ok refl refl refl refl refl c.ahead-self.ensures
