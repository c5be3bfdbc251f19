use Rattle.js_document_tests.proofs.held_values.values_behind_an_edit.Given as goal

-- The ledger of the counter that nobody reads.
abbrev pub ghosts-edited : goal.ghosts-edited
ghosts-edited g a = record { name = a.blank.name; parts = a.blank.parts }
