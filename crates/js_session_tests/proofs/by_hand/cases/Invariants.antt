use Rattle.js_session_tests.proofs.by_hand.cases.Given as goal

-- The ledger of the counter.
abbrev pub ghosts-play : goal.ghosts-play
ghosts-play g a = record { name = a.blank.name; parts = a.blank.parts }
