-- The replies of the plain machine as running code, in the form of a transcript's version.
use Rattle.std.specs.Prelude.{ℕ, ◌==◌, List, [], ◌∷◌, if◌then◌else◌}
use Rattle.machine.specs.declared.reply.ReplyPart.{ReplyPart}
use Rattle.machine.specs.declared.reply.Reply.{Reply}
use Rattle.machine.specs.declared.reply.Reply.TheVariants as reply

abbrev pub no_part : ReplyPart
no_part = record {
  end = record { row = 0; column = 0 };
  from = record { row = 0; column = 0 };
  hits = record { touch = 0; inside = 0; overlap = 0; surround = 0 };
  to = record { row = 0; column = 0 };
}

abbrev pub edited_as : ℕ → ReplyPart → Reply
edited_as at p = reply.Edited at p.end p.from p.hits p.to

-- the first part of a list as an edit; there always is one
abbrev pub edited_first : ℕ → List ReplyPart → Reply
edited_first at [] = edited_as at no_part
edited_first at (p ∷ ps) = edited_as at p

-- a reply of version 2 in the form of this version: in version 1 changes under one number have the form of an edit
abbrev pub in_version : ℕ → Reply → Reply
in_version version (reply.Batched at parts) = if version == 1 then edited_first at parts else reply.Batched at parts
in_version version r = r
