-- A pass: the steps that are chosen, up to the end of the source, and what is counted.
use Rattle.std.proofs.Common.{◌≡◌, ℕ, ◌+◌, ◌*◌, ◌^◌, ◌<◌, ◌≤◌, Bool, true, List, [], ◌∷◌, ◌++◌, length, refl, sym}
use Rattle.std.proofs.Common.{◌∙◌, ap, subst, arith, add-zero, Some, None}
use Rattle.std.proofs.lemmas.List.{length-append}
use Rattle.std.specs.List.{last_or}
use Rattle.std.specs.Str.{IsUtf8}
use Rattle.js_text.specs.declared.source_type.SourceType.{SourceType}
use Rattle.js_kind.specs.TokenParts.{TokenParts}
use Rattle.js_grammar.specs.ReLexed.{fits}
use Rattle.js_grammar.specs.declared.goal.Goal.{Goal}
use Rattle.js_grammar.specs.declared.goal.Goal.TheVariants.{First}
use Rattle.js_lexer.specs.Lexer.{IsOnPlaces, LexerState, fresh, token_or_default}
use Rattle.js_session.specs.Effects.{effect_of}
use Rattle.js_session.specs.Live.{nothing_live}
use Rattle.js_session.specs.Marks.{IsAlike, IsInOrder, lexer_behind}
use Rattle.js_session.specs.RowReader.{AddsLive, RowReaderState}
use Rattle.js_session.specs.Session.{AddsRow, SessionState, report_of}
use Rattle.js_session.specs.declared.command.Command.{Command}
use Rattle.js_session.proofs.LiveLemmas.{length-with_last}
use Rattle.js_session.proofs.StepLemmas.{first_added, order_added, seen}
use Rattle.js_choose.specs.Rules.{IsDue, IsRule, Rule}
use Rattle.js_choose.specs.Rules.IsDue.{reads_on, reads_again}
use Rattle.js_choose.proofs.SessionLemmas.{Goes, few_more, goes_end, goes_less, goes_on, goes_start, left_from, left_of}
use Rattle.js_lists.specs.Drive.{Drives}
use Rattle.js_lists.proofs.ChosenLemmas.{left}
use Rattle.js_lists.proofs.DriveLemmas.{drives_seen, step_again, step_on}
use Rattle.js_lists.proofs.RowLemmas.{row_made, row_read}
use Rattle.js_bench.specs.Counts.{IsPassOver, counts_of}
use Rattle.js_bench.specs.Drive.{Follows, MayFollow, ReadsAgain, ReadsOn}
use Rattle.js_bench.specs.declared.pass.PassCounts.{PassCounts}

-- A pass over the text has counted so many tokens: they are live in a session that has made the steps that were chosen
-- so far, for which the lexer stands, and whose tokens the chooser was told. There is room to count one more for each
-- step that is left.
pub record Passes (rule : Rule) (told : List TokenParts → Type 0) (text : List ℕ) (t : SourceType) (collects : Bool)
    (tokens : ℕ) (l : LexerState) : Type 0 where
  pub session : SessionState
  pub drives : Drives session l
  pub is_told : told session.state.now.tokens
  pub commands : List Command
  pub goes : Goes rule text t collects commands session
  pub counted : tokens ≡ length session.state.now.tokens
  pub few : tokens + left l < 2 ^ 34

left_at_most : (l : LexerState) → left l ≤ 3 * length l.text + 2
left_at_most l = omega (arith, few_more l.text (token_or_default l.last))

few_at_first : (l : LexerState) (text : List ℕ) → l.text ≡ text → length text < 2 ^ 32 → 1 + left l < 2 ^ 34
few_at_first l text is short = omega (arith, left_at_most l, ap length is, short)

few_left : (tokens more old new : ℕ) → new < old → more ≤ 1 → tokens + old < 2 ^ 34 → tokens + more + new < 2 ^ 34
few_left tokens more old new less one few = omega arith

-- a lexer that has read nothing is behind nothing
fresh_behind : (text : List ℕ) (t : SourceType) (collects : Bool)
    → IsAlike (lexer_behind text t collects nothing_live) (fresh text t collects)
fresh_behind text t collects = record {
  text = refl;
  source_type = refl;
  collects = refl;
  place = refl;
  last = refl;
  tokens = refl;
  findings = refl;
}

-- Behind the first token.
pub passes_start : {G : Type 0} (is_told : G → List TokenParts → Type 0) (rule : Rule) (text : List ℕ) (t : SourceType)
    (collects : Bool) (new : LexerState) (c d : G) → IsUtf8 text → length text < 2 ^ 32
    → ReadsOn is_told First (fresh text t collects) new c d → is_told c []
    → Passes rule (is_told d) text t collects 1 new
passes_start is_told rule text t collects new c d u short read told =
    let old = fresh text t collects in
    let token = read.token in
    let r = read.reads in
    let row = row_made None old token None r.outcome.value new in
    let before : RowReaderState = record { lexer = old; rows = []; tokens = [] } in
    let after : RowReaderState = record { lexer = new; rows = row ∷ []; tokens = token ∷ [] } in
    let adds : AddsLive First None before after =
    record { row = row; reads = row_read First None old new token refl u r; rows = refl; tokens = refl } in
    let nothing : IsInOrder before [] =
    record { behind = fresh_behind text t collects; are_marks = tt; rows_lie = tt; tokens_lie = tt } in
    record {
      session = seen after [] 0;
      drives =
          drives_seen after 0 (subst IsUtf8 (sym r.after.text) u) (order_added First None before after [] nothing adds);
      is_told = read.told [] told;
      commands = [];
      goes = goes_start rule text t collects (seen after [] 0) u (first_added text t collects before after refl adds);
      counted = refl;
      few = few_at_first new text r.after.text short;
    }

-- the last live token lies on places
last_lies : (rule : Rule) (text : List ℕ) (t : SourceType) (collects : Bool) (commands : List Command)
    (s : SessionState) → Goes rule text t collects commands s → (last : TokenParts)
    → last_or None s.state.now.tokens ≡ Some last → IsOnPlaces text last
last_lies rule text t collects commands s goes last is =
    let same : last ≡ goes.last.last = let e : Some last ≡ Some goes.last.last = sym is ∙ goes.last.is_last in cc in
    subst (IsOnPlaces text) (sym same) goes.last.lies

-- a token that is read again is the last one of the lexer
passes_fit : (rule : Rule) (told : List TokenParts → Type 0) (text : List ℕ) (t : SourceType) (collects : Bool)
    (tokens : ℕ) (l : LexerState) (goal : Goal) (last : TokenParts) → IsUtf8 text
    → (p : Passes rule told text t collects tokens l) → last_or None p.session.state.now.tokens ≡ Some last
    → (IsUtf8 text → IsOnPlaces text last → fits text goal last ≡ true)
    → fits l.text goal (token_or_default l.last) ≡ true
passes_fit rule told text t collects tokens l goal last u p is_last fit =
    ap (λ x. fits x goal (token_or_default l.last)) (p.drives.text ∙ p.goes.text_is)
    ∙ ap (λ o. fits text goal (token_or_default o)) (p.drives.last ∙ is_last)
    ∙ fit u (last_lies rule text t collects p.commands p.session p.goes last is_last)

-- The lexer may follow what is chosen.
pub passes_may : (rule : Rule) (told : List TokenParts → Type 0) (text : List ℕ) (t : SourceType) (collects : Bool)
    (tokens : ℕ) (l : LexerState) (command : Command) → IsRule rule → IsUtf8 text
    → (p : Passes rule told text t collects tokens l) → rule text p.session.state.now.tokens ≡ Some command
    → MayFollow (effect_of command) l
passes_may rule told text t collects tokens l command law u p chosen =
    by_due (law text p.session.state.now.tokens command chosen)
  where
    by_due : IsDue text p.session.state.now.tokens command → MayFollow (effect_of command) l
    by_due (reads_on goal effect onward later may) = subst (λ e. MayFollow e l) (sym effect) (onward, later)
    by_due (reads_again goal effect final last is_last fit) =
        subst (λ e. MayFollow e l) (sym effect) (
          final,
          p.drives.place ∙ sym (ap (λ o. (token_or_default o).end) p.drives.last),
          passes_fit rule told text t collects tokens l goal last u p is_last fit,
        )

-- The session has one row more for the command, so many more tokens, and the chooser was told them.
record MakesStep (command : Command) (more : ℕ) (told : List TokenParts → Type 0) (s : SessionState) (k : LexerState)
    : Type 0 where
  pub session : SessionState
  pub adds : AddsRow command s session
  pub drives : Drives session k
  pub is_told : told session.state.now.tokens
  pub more_are : length session.state.now.tokens ≡ length s.state.now.tokens + more

-- what was followed is a step of the session
passes_step : {G : Type 0} (is_told : G → List TokenParts → Type 0) (rule : Rule) (text : List ℕ) (t : SourceType)
    (collects : Bool) (tokens more : ℕ) (l k : LexerState) (c d : G) (command : Command) → IsRule rule → IsUtf8 text
    → (p : Passes rule (is_told c) text t collects tokens l) → rule text p.session.state.now.tokens ≡ Some command
    → Follows is_told (effect_of command) more l k c d → MakesStep command more (is_told d) p.session k
passes_step is_told rule text t collects tokens more l k c d command law u p chosen follows =
    by_due (law text p.session.state.now.tokens command chosen)
  where
    by_due : IsDue text p.session.state.now.tokens command → MakesStep command more (is_told d) p.session k
    by_due (reads_on goal effect onward later may) =
        let f : (more ≡ 1) × ReadsOn is_told goal l k c d =
        subst (λ e. Follows is_told e more l k c d) effect follows in
        let live = p.session.state.now.tokens in
        let to =
        step_on goal command l k (record { token = f.1.token; regex = None }) effect onward f.1.reads refl p.session
        p.drives in
        record {
          session = to.session;
          adds = to.adds;
          drives = to.drives;
          is_told = subst (is_told d) (sym to.tokens_are) (f.1.told live p.is_told);
          more_are =
              ap length to.tokens_are ∙ length-append live (f.1.token ∷ []) ∙ ap (λ n. length live + n) (sym f.0);
        }
    by_due (reads_again goal effect final other is_last fit) =
        let f : (more ≡ 0) × ReadsAgain is_told goal l k c d =
        subst (λ e. Follows is_told e more l k c d) effect follows in
        let live = p.session.state.now.tokens in
        let fits_it = passes_fit rule (is_told c) text t collects tokens l goal other u p is_last fit in
        let to =
        step_again goal command l k (record { token = f.1.token; regex = f.1.reads.outcome.regex }) effect fits_it
        (record { reads = f.1.reads; regex = refl }) p.session p.drives in
        record {
          session = to.session;
          adds = to.adds;
          drives = to.drives;
          is_told = subst (is_told d) (sym to.tokens_are) (f.1.told live p.is_told);
          more_are =
              ap length to.tokens_are ∙ length-with_last live f.1.token ∙ sym (add-zero (length live))
              ∙ ap (λ n. length live + n) (sym f.0);
        }

-- Less is left behind a step.
step_less : (rule : Rule) (told new_told : List TokenParts → Type 0) (text : List ℕ) (t : SourceType)
    (collects : Bool) (tokens more : ℕ) (l k : LexerState) (command : Command) → IsRule rule → IsUtf8 text
    → (p : Passes rule told text t collects tokens l) → rule text p.session.state.now.tokens ≡ Some command
    → MakesStep command more new_told p.session k → left k < left l
step_less rule told new_told text t collects tokens more l k command law u p chosen to =
    less_alike (left l) (left_of text p.session.state.now.tokens) (left k)
    (left_of text to.session.state.now.tokens) (left_is p.session l p.drives p.goes.text_is)
    (left_is to.session k to.drives (ap (λ x. x.text) to.adds.after ∙ p.goes.text_is))
    (goes_less rule law text t collects p.commands p.session to.session command u p.goes chosen to.adds)
  where
    less_alike : (a b c d : ℕ) → a ≡ b → c ≡ d → d < b → c < a
    less_alike a b c d was is less = omega arith

    left_is : (s : SessionState) (l : LexerState) → Drives s l → s.text ≡ text
        → left l ≡ left_of text s.state.now.tokens
    left_is s l h is =
        ap (λ x. left_from x (token_or_default l.last)) (h.text ∙ is)
        ∙ ap (λ o. left_from text (token_or_default o)) h.last

pub passes_less : {G : Type 0} (is_told : G → List TokenParts → Type 0) (rule : Rule) (text : List ℕ) (t : SourceType)
    (collects : Bool) (tokens more : ℕ) (l k : LexerState) (c d : G) (command : Command) → IsRule rule → IsUtf8 text
    → (p : Passes rule (is_told c) text t collects tokens l) → rule text p.session.state.now.tokens ≡ Some command
    → Follows is_told (effect_of command) more l k c d → left k < left l
passes_less is_told rule text t collects tokens more l k c d command law u p chosen follows =
    step_less rule (is_told c) (is_told d) text t collects tokens more l k command law u p chosen
    (passes_step is_told rule text t collects tokens more l k c d command law u p chosen follows)

-- A step that is chosen, which reads one token more at most.
pub passes_on : {G : Type 0} (is_told : G → List TokenParts → Type 0) (rule : Rule) (text : List ℕ) (t : SourceType)
    (collects : Bool) (tokens more : ℕ) (l k : LexerState) (c d : G) (command : Command) → IsRule rule → IsUtf8 text
    → (p : Passes rule (is_told c) text t collects tokens l) → rule text p.session.state.now.tokens ≡ Some command
    → Follows is_told (effect_of command) more l k c d → more ≤ 1
    → Passes rule (is_told d) text t collects (tokens + more) k
passes_on is_told rule text t collects tokens more l k c d command law u p chosen follows one =
    let to = passes_step is_told rule text t collects tokens more l k c d command law u p chosen follows in
    let less = step_less rule (is_told c) (is_told d) text t collects tokens more l k command law u p chosen to in
    record {
      session = to.session;
      drives = to.drives;
      is_told = to.is_told;
      commands = p.commands ++ command ∷ [];
      goes = goes_on rule law text t collects p.commands p.session to.session command u p.goes chosen to.adds;
      counted = ap (λ n. n + more) p.counted ∙ sym to.more_are;
      few = few_left tokens more (left l) (left k) less one p.few;
    }

same_counts : (a b : PassCounts) → a.tokens ≡ b.tokens → a.comments ≡ b.comments → a.diagnostics ≡ b.diagnostics
    → a ≡ b
same_counts a b e1 e2 e3 = rw (e1, e2, e3) refl

-- What was counted where no command is chosen any more.
pub passes_end : (rule : Rule) (told : List TokenParts → Type 0) (text : List ℕ) (t : SourceType) (collects : Bool)
    (tokens : ℕ) (l : LexerState) (counts : PassCounts) → IsRule rule → IsUtf8 text → length text < 2 ^ 32
    → (p : Passes rule told text t collects tokens l) → rule text p.session.state.now.tokens ≡ None
    → counts.tokens ≡ tokens → counts.comments ≡ length l.findings.comments
    → counts.diagnostics ≡ length l.findings.diagnostics → IsPassOver rule text t collects counts
passes_end rule told text t collects tokens l counts law u short p stops are_tokens are_comments are_diagnostics =
    let found = p.drives.findings in
    record {
      commands = p.commands;
      report = report_of p.session;
      report_is = goes_end rule law text t collects p.commands p.session u short p.goes stops;
      counts_are =
          same_counts counts (counts_of (report_of p.session)) (are_tokens ∙ p.counted)
          (are_comments ∙ ap (λ f. length f.comments) found)
          (are_diagnostics ∙ ap (λ f. length f.diagnostics) found);
    }
