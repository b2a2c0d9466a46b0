use Rattle.splay.proofs.splay.Splay.sum_before.Given as goal

abbrev pub ghosts-sum : goal.ghosts-sum
ghosts-sum g a = record { name = a.blank.name; parts = a.blank.parts }
