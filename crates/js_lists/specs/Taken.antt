-- What a taker of tokens is handed.
use Rattle.std.specs.Prelude.{◌≡◌, ◌⊎◌, List, [], ◌∷◌, Option, None}
use Rattle.js_text.specs.declared.reg_exp_flags.RegexInfo.{RegexInfo}
use Rattle.js_text.specs.declared.value.RowValue.{RowValue}
use Rattle.js_text.specs.declared.value.RowValue.TheVariants.{Nothing, Slice, Units, Bad}
use Rattle.js_kind.specs.TokenParts.{TokenParts}
use Rattle.js_grammar.specs.TokenText.{unescaped_value}
use Rattle.js_lists.specs.declared.take.TokenValue.{TokenValue}
use Rattle.js_lists.specs.declared.take.TokenValue.TheVariants as handed

-- A token that was taken, with its value, and what is known of it as a regular expression.
pub record Taken : Type 0 where
  pub token : TokenParts
  pub value : RowValue
  pub regex : Option RegexInfo

-- the value that is handed over
abbrev pub value_handed : TokenValue → RowValue
value_handed handed.Nothing = Nothing
value_handed (handed.Slice span) = Slice span
value_handed (handed.Units units) = Units units.now
value_handed handed.Bad = Bad

abbrev pub taken_as : TokenParts → TokenValue → Option RegexInfo → Taken
taken_as token value regex = record { token = token; value = value_handed value; regex = regex }

-- a token without an escape that is no regular expression
abbrev pub plain_taken : TokenParts → Taken
plain_taken token = record { token = token; value = unescaped_value token.kind token.start token.end; regex = None }

-- The tokens were taken one behind the other.
abbrev pub TakesEach : {S : Type 0} (takes : S → Taken → S → Type 0) → S → List Taken → S → Type 0
TakesEach {S} takes old [] new = new ≡ old
TakesEach {S} takes old (x ∷ xs) new = (mid : S) × takes old x mid × TakesEach takes mid xs new

-- Some tokens were taken, and then there was no memory: for what was to be taken next, or for something else.
pub record BreaksOff {S : Type 0} (takes : S → Taken → S → Type 0) (breaks_off : S → S → Type 0) (old new : S)
    : Type 0 where
  pub taken : List Taken
  pub behind : S
  pub takes_each : TakesEach takes old taken behind
  pub after : (new ≡ behind) ⊎ breaks_off behind new
