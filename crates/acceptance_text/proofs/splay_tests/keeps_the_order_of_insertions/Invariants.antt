use Rattle.acceptance_text.proofs.splay_tests.keeps_the_order_of_insertions.Given as goal

abbrev pub ghosts-counted : goal.ghosts-counted
ghosts-counted g a = record { name = a.blank.name; parts = a.blank.parts }
