use Rattle.splay.proofs.iter.IterIterator.next.Given as goal

abbrev pub ghosts-held : goal.ghosts-held
ghosts-held g a = record { name = a.blank.name; parts = a.blank.parts }

abbrev pub ghosts-next_to : goal.ghosts-next_to
ghosts-next_to g a = record { name = a.blank.name; parts = a.blank.parts }
