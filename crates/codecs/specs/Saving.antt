-- A text on its way to a sink: what was put, what is held back, and what waits.
use Rattle.std.specs.Prelude.{◌≡◌, ℕ, ◌+◌, ◌*◌, ◌++◌, List, [], length, Option, None}
use Rattle.std.specs.Option.{option_to_list}
use Rattle.outer.specs.Sink.{Appends}
use Rattle.machine.specs.declared.reads.Encoding.{Encoding}
use Rattle.machine.specs.Encodings.{encode}
use Rattle.codecs.specs.Partway.{Partway, waiting, completed, behind}

-- an encoder, the bytes that it gave and that weren't put yet, and how many bytes were put
pub record Outgoing : Type 0 where
  pub encoder : Partway
  pub held : List ℕ
  pub put : ℕ

-- the bytes that stand before a sink: those held, and those of the characters that these units complete
abbrev pub ahead : Outgoing → List ℕ → List ℕ
ahead o units = o.held ++ encode o.encoder.encoding (completed (behind o.encoder.waits units))

-- at most so many bytes were put or will be, of the units taken so far
abbrev pub weight : Outgoing → ℕ
weight o = o.put + length o.held + 4 * length (option_to_list o.encoder.waits)

-- these units were taken: some bytes went to the sink, and the others are held
pub record IsSent (units : List ℕ) (old new : Outgoing) (before after : Option (List ℕ)) : Type 0 where
  pub bytes : List ℕ
  pub parts : ahead old units ≡ bytes ++ new.held
  pub count : new.put ≡ old.put + length bytes
  pub taken : Appends bytes before after
  pub encoding : new.encoder.encoding ≡ old.encoder.encoding
  pub waits : new.encoder.waits ≡ waiting (behind old.encoder.waits units)

-- nothing was taken
abbrev pub fresh : Encoding → Outgoing
fresh e = record { encoder = record { encoding = e; waits = None }; held = []; put = 0 }

-- a text on its way: its first units were taken, and these are left
pub record IsGiven (text : List ℕ) (e : Encoding) (rest : List ℕ) (out : Outgoing) (before after : Option (List ℕ)) : Type 0 where
  pub given : List ℕ
  pub whole : given ++ rest ≡ text
  pub sent : IsSent given (fresh e) out before after
