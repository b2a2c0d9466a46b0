use Rattle.splay.proofs.splay.Splay.get.Given as goal

abbrev pub ghosts-item : goal.ghosts-item
ghosts-item g a = record { name = a.blank.name; parts = a.blank.parts }
