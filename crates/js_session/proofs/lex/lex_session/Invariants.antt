use Rattle.js_session.proofs.lex.lex_session.Given as goal

-- The ledger of the counter that nobody reads.
abbrev pub ghosts-lex_uncounted : goal.ghosts-lex_uncounted
ghosts-lex_uncounted a = record { name = a.blank.name; parts = a.blank.parts }
