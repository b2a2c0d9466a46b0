-- What contracts see in a buffer: the plain machine's state.
use Rattle.std.specs.Prelude.{◌+◌}
use Rattle.machine.specs.declared.reply.Reply.{Reply}
use Rattle.machine.specs.Machine.{State, Call, step}
use Rattle.machine.specs.Answers.{reply_of}
use Rattle.watch.specs.declared.seat.Seat.{Seat}
use Rattle.watch.specs.Seats.{Stands}
use Rattle.followers.specs.Following.{steps_of, watchings}
use Rattle.buffer.specs.declared.buffer.Buffer.{Buffer}

-- the state after a call, and the reply to it in a transcript of version 1
abbrev pub answered : State → Call → State × Reply
answered s call = ((step s call).0, reply_of 1 (s.count + 1) (step s call).1)

module _ {W : Type 0} where
  abbrev pub state_of : Buffer W → State
  state_of b = record {
    text = b.text;
    marks = b.followers.marks;
    past = steps_of b.followers.steps.past;
    future = steps_of b.followers.steps.future;
    watchers = watchings b.followers.watchers.seats.items;
    count = b.count;
    version = b.version;
  }

  -- K holds of each seat of the buffer's watchers, and the table of seats is as calls leave it
  abbrev pub Hears : (Seat W → Type 0) → Buffer W → Type 0
  Hears K b = Stands K b.followers.watchers.told b.followers.watchers.seats.items
