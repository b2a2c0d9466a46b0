use Rattle.splay.proofs.splay.Splay.iter.Given as goal

abbrev pub ghosts-first : goal.ghosts-first
ghosts-first g a = record { name = a.blank.name; parts = a.blank.parts }
