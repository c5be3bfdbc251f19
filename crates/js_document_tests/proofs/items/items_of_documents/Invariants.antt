use Rattle.js_document_tests.proofs.items.items_of_documents.Given as goal

-- The ledger of the counter.
abbrev pub ghosts-make_edits : goal.ghosts-make_edits
ghosts-make_edits g a = record { name = a.blank.name; parts = a.blank.parts }
