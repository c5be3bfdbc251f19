use Rattle.js_imports.proofs.imports.ScannerTakeTokens.take.Goals as goal

pub returns-clause-ok : goal.returns-clause-ok
returns-clause-ok c = c.step.ensures c.args.arg4
