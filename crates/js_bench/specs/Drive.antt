-- What a lexer does that is driven by a chooser of goals: it follows the commands that are chosen.
use Rattle.std.specs.Prelude.{◌≡◌, ℕ, true, List, [], ◌∷◌, ◌++◌}
use Rattle.js_text.specs.Lists.{with_last}
use Rattle.js_kind.specs.TokenParts.{TokenParts}
use Rattle.js_grammar.specs.Reads.{is_onward}
use Rattle.js_grammar.specs.ReLexed.{fits}
use Rattle.js_grammar.specs.declared.goal.Goal.{Goal}
use Rattle.js_grammar.specs.declared.goal.Goal.TheVariants.{First}
use Rattle.js_lexer.specs.Lexer.{LexerState, LexesAgain, ReadsToken, token_or_default}
use Rattle.js_session.specs.declared.command.Effect.{Effect}
use Rattle.js_session.specs.declared.command.Effect.TheVariants.{Reads, Peeks, ReLexes, Opens, Rewinds, Commits}
use Rattle.js_choose.specs.Rules.{is_final}

-- A token was read on, and told to the chooser.
pub record ReadsOn {G : Type 0} (is_told : G → List TokenParts → Type 0) (goal : Goal) (l k : LexerState) (c d : G)
    : Type 0 where
  pub token : TokenParts
  pub reads : ReadsToken goal l token k
  pub told : (tokens : List TokenParts) → is_told c tokens → is_told d (tokens ++ token ∷ [])

-- The last token was read again, and the chooser was told what stands in its place.
pub record ReadsAgain {G : Type 0} (is_told : G → List TokenParts → Type 0) (goal : Goal) (l k : LexerState)
    (c d : G) : Type 0 where
  pub token : TokenParts
  pub reads : LexesAgain goal l token k
  pub told : (tokens : List TokenParts) → is_told c tokens → is_told d (with_last tokens token)

-- the lexer may follow an effect: it reads on, or reads the last token again for a goal that fits it and is a last one
abbrev pub MayFollow : Effect → LexerState → Type 0
MayFollow (Reads goal) l = (is_onward goal ≡ true) × (¬ (goal ≡ First))
MayFollow (Peeks goal) l = ⊥
MayFollow (ReLexes goal) l =
    (is_final goal ≡ true) × (l.place ≡ (token_or_default l.last).end)
    × (fits l.text goal (token_or_default l.last) ≡ true)
MayFollow Opens l = ⊥
MayFollow Rewinds l = ⊥
MayFollow Commits l = ⊥

-- An effect was followed, by which so many tokens were read more: one, or none where the last one was read again.
abbrev pub Follows : {G : Type 0} (is_told : G → List TokenParts → Type 0) → Effect → ℕ → LexerState → LexerState → G
    → G → Type 0
Follows is_told (Reads goal) more l k c d = (more ≡ 1) × ReadsOn is_told goal l k c d
Follows is_told (Peeks goal) more l k c d = ⊥
Follows is_told (ReLexes goal) more l k c d = (more ≡ 0) × ReadsAgain is_told goal l k c d
Follows is_told Opens more l k c d = ⊥
Follows is_told Rewinds more l k c d = ⊥
Follows is_told Commits more l k c d = ⊥
