use Rattle.js_choose.proofs.session.choose_session.Given as goal

-- The ledger of the counter that nobody reads.
abbrev pub ghosts-choose_uncounted : goal.ghosts-choose_uncounted
ghosts-choose_uncounted g a = record { name = a.blank.name; parts = a.blank.parts }
