-- Laws of readings.
use Rattle.std.proofs.Common.{◌≡◌, ◌≢◌, ◌<◌, sym, ◌∙◌, ap, subst}
use Rattle.std.specs.Str.{IsUtf8}
use Rattle.js_kind.specs.TokenParts.{TokenParts}
use Rattle.js_kind.specs.declared.kind.Kind.TheVariants.{Eof}
use Rattle.js_grammar.specs.Goals.{GoalReads}
use Rattle.js_grammar.specs.Outcome.{Outcome}
use Rattle.js_grammar.specs.declared.goal.Goal.{Goal}
use Rattle.js_grammar.specs.declared.goal.Goal.TheVariants.{Next}
use Rattle.js_grammar.proofs.Unique.{goal_reads_unique}
use Rattle.js_lexer.specs.Lexer.{LexerState, ReadsOutcome, ReadsToken, LexesAgain, Peeks}

has_bytes : (goal : Goal) (l : LexerState) (token : TokenParts) (o : Outcome) → token ≡ o.token
    → ReadsOutcome goal l o → token.kind ≢ Eof → token.start < token.end
has_bytes goal l token o same r =
    subst (λ (t : TokenParts). t.kind ≢ Eof → t.start < t.end) (sym same) r.some_text

pub read_has_bytes : (goal : Goal) (old new : LexerState) (token : TokenParts) → ReadsToken goal old token new
    → token.kind ≢ Eof → token.start < token.end
read_has_bytes goal old new token r = has_bytes goal old token r.outcome r.token_is r.reads

pub again_has_bytes : (goal : Goal) (old new : LexerState) (token : TokenParts) → LexesAgain goal old token new
    → token.kind ≢ Eof → token.start < token.end
again_has_bytes goal old new token r = has_bytes goal old token r.outcome r.token_is r.reads

-- what is read after a peek is read from where the peek was
read_from : (old peeked new : LexerState) (first second : TokenParts) → (peek : Peeks old first peeked)
    → (read : ReadsToken Next peeked second new)
    → GoalReads old.text old.source_type Next old.last old.place read.outcome
read_from old peeked new first second peek read =
    let o = read.outcome in
    subst (λ text. GoalReads text old.source_type Next old.last old.place o) peek.restored.text
    (subst (λ t. GoalReads peeked.text t Next old.last old.place o) peek.restored.source_type
    (subst (λ last. GoalReads peeked.text peeked.source_type Next last old.place o) peek.restored.last
    (subst (λ place. GoalReads peeked.text peeked.source_type Next peeked.last place o) peek.restored.place
    read.reads.reads)))

pub peek_is_next : (old peeked new : LexerState) (first second : TokenParts) → IsUtf8 old.text
    → (peek : Peeks old first peeked) → (read : ReadsToken Next peeked second new)
    → (second ≡ first) × (read.outcome ≡ peek.outcome)
peek_is_next old peeked new first second u peek read =
    let same : read.outcome ≡ peek.outcome =
    goal_reads_unique old.text old.source_type Next old.last old.place read.outcome peek.outcome u
    (read_from old peeked new first second peek read) peek.reads.reads in
    (read.token_is ∙ ap (λ (o : Outcome). o.token) same ∙ sym peek.token_is, same)
