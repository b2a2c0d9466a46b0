use Rattle.acceptance_text.proofs.splay_tests.cuts_and_joins_back.Given as goal

abbrev pub ghosts-cut_and_joined : goal.ghosts-cut_and_joined
ghosts-cut_and_joined g a = record { name = a.blank.name; parts = a.blank.parts }
