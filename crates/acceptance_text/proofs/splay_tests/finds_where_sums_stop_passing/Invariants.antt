use Rattle.acceptance_text.proofs.splay_tests.finds_where_sums_stop_passing.Given as goal

abbrev pub ghosts-found : goal.ghosts-found
ghosts-found g a = record { name = a.blank.name; parts = a.blank.parts }
