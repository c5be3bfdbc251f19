-- Words of the crates below, for crates that stand on sessions and not on these.
pub use Rattle.js_grammar.specs.Outcome.{Findings, joined, no_findings}
pub use Rattle.js_grammar.specs.ReLexed.{fits}
pub use Rattle.js_lexer.specs.Lexer.{token_or_default}
