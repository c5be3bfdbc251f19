-- Lemmas of the crates below, for crates that stand on sessions and not on these: of what was found, and what next.
pub use Rattle.js_lexer.proofs.FindingLaws.{joined-assoc, joined-none}
