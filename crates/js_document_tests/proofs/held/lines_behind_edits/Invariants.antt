use Rattle.js_document_tests.proofs.held.lines_behind_edits.Given as goal

-- The ledger of the counter that nobody reads.
abbrev pub ghosts-handle : goal.ghosts-handle
ghosts-handle g a = record { name = a.blank.name; parts = a.blank.parts }
