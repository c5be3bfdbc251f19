use Rattle.js_document_c.proofs.held.HeldDocument.edit.Given as goal

-- The ledger of the counter that nobody reads.
abbrev pub ghosts-edit_uncounted : goal.ghosts-edit_uncounted
ghosts-edit_uncounted a = record { name = a.blank.name; parts = a.blank.parts }
