use Rattle.js_edit.proofs.edit.edit_text_uncounted.Given as goal

-- The ledger of the counter that nobody reads.
abbrev pub ghosts-edit_text : goal.ghosts-edit_text
ghosts-edit_text a = record { name = a.blank.name; parts = a.blank.parts }
