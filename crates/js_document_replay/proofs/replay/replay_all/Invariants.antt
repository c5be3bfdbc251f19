use Rattle.js_document_replay.proofs.replay.replay_all.Given as goal

-- The ledger of the counter that nobody reads.
abbrev pub ghosts-replay_counted : goal.ghosts-replay_counted
ghosts-replay_counted a = record { name = a.blank.name; parts = a.blank.parts }
