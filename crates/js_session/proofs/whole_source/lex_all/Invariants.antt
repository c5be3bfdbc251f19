use Rattle.js_session.proofs.whole_source.lex_all.Given as goal

-- The ledger of the counter that nobody reads.
abbrev pub ghosts-lex_all_uncounted : goal.ghosts-lex_all_uncounted
ghosts-lex_all_uncounted a = record { name = a.blank.name; parts = a.blank.parts }
