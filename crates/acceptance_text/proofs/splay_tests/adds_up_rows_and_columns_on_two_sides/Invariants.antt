use Rattle.acceptance_text.proofs.splay_tests.adds_up_rows_and_columns_on_two_sides.Given as goal

abbrev pub ghosts-extended : goal.ghosts-extended
ghosts-extended g a = record { name = a.blank.name; parts = a.blank.parts }
