use Rattle.acceptance_text.proofs.splay_tests.agrees_with_a_plain_list_by_counts.Given as goal

abbrev pub ghosts-agrees : goal.ghosts-agrees
ghosts-agrees g a = record { name = a.blank.name; parts = a.blank.parts }
