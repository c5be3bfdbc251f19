use Rattle.js_document_tests.proofs.relexed.edits_of_documents.Given as goal

-- The ledger of the counter.
abbrev pub ghosts-relexed : goal.ghosts-relexed
ghosts-relexed g a = record { name = a.blank.name; parts = a.blank.parts }
