-- Rows that stay: behind each of them a session may go on.
use Rattle.std.proofs.Common.{◌≡◌, ℕ, Bool, true, false, List, [], ◌∷◌, refl, sym, ◌∙◌, ap, subst, None, Some}
use Rattle.std.specs.Prelude.{MatchBool}
use Rattle.std.specs.List.{list_all}
use Rattle.std.proofs.lemmas.Bool.{and_parts}
use Rattle.js_text.specs.declared.source_type.SourceType.{SourceType}
use Rattle.js_kind.specs.TokenParts.{TokenParts}
use Rattle.js_grammar.specs.ReLexed.{HasSpelling, fits}
use Rattle.js_grammar.specs.declared.goal.Goal.TheVariants.{First}
use Rattle.js_grammar.proofs.KindTexts.{goal_reads_spelling}
use Rattle.js_lexer.specs.Lexer.{IsOnPlaces, token_or_default}
use Rattle.js_session.specs.declared.command.Command.{Command}
use Rattle.js_session.specs.declared.row.Row.{Row}
use Rattle.js_session.specs.Effects.{closes, closes_mark, effect_of, gives_row, is_lasting, is_step, lasts}
use Rattle.js_session.specs.declared.command.Effect.{Effect}
use Rattle.js_session.specs.declared.command.Effect.TheVariants.{Reads, Peeks, ReLexes, Opens, Rewinds, Commits}
use Rattle.js_session.specs.Live.{State, after_row, last_live, nothing_live, outcome_of, state_after, state_after_first}
use Rattle.js_session.specs.Report.{IsNotTaken, IsOfEffect, IsReLexed, IsRow, Run}
use Rattle.js_session.specs.Session.{MayResume, last_token}
use Rattle.js_session.proofs.LiveLemmas.{last_or-push}
use Rattle.js_session.proofs.LocalRuns.{replaced_last}
use Rattle.js_session.proofs.RunLemmas.{state_step}

gives_lasting : (effect : Effect) → lasts effect ≡ true → gives_row effect ≡ true
gives_lasting (Reads goal) e = refl
gives_lasting (Peeks goal) e = absurd (cc)
gives_lasting (ReLexes goal) e = refl
gives_lasting Opens e = absurd (cc)
gives_lasting Rewinds e = absurd (cc)
gives_lasting Commits e = absurd (cc)

closes_none : (effect : Effect) → lasts effect ≡ true → closes_mark effect ≡ false
closes_none (Reads goal) e = refl
closes_none (Peeks goal) e = absurd (cc)
closes_none (ReLexes goal) e = refl
closes_none Opens e = absurd (cc)
closes_none Rewinds e = absurd (cc)
closes_none Commits e = absurd (cc)

pub lasting_steps : (c : Command) → is_lasting c ≡ true → is_step c ≡ true
lasting_steps c e = gives_lasting (effect_of c) e

pub lasting_closes : (c : Command) → is_lasting c ≡ true → closes c ≡ false
lasting_closes c e = closes_none (effect_of c) e

pub all_steps : (cs : List Command) → list_all is_lasting cs ≡ true → list_all is_step cs ≡ true
all_steps [] e = refl
all_steps (c ∷ cs) e =
    let both = and_parts (is_lasting c) (list_all is_lasting cs) e in
    rw (lasting_steps c both.0, all_steps cs both.1) refl

-- The token is the last live one, and a session may go on behind it.
pub record GoesOnBehind (text : List ℕ) (s : State) (token : TokenParts) : Type 0 where
  pub last_is : last_live s.now ≡ Some token
  pub may : MayResume text token

behind_read : (text : List ℕ) (t : SourceType) (effect : Effect) (row : Row) (s : State) (last : TokenParts)
    → lasts effect ≡ true → IsOnPlaces text row.token → GoesOnBehind text s last → IsOfEffect text t s.now effect row
    → GoesOnBehind text (after_row effect row s) row.token
behind_read text t (Reads goal) row s last e lies h is = record {
  last_is = last_or-push None s.now.tokens row.token;
  may = record {
    lies = lies;
    spelled = goal_reads_spelling text t goal (last_live s.now) row.place (outcome_of row) is.reads;
  };
}
behind_read text t (Peeks goal) row s last e lies h is = absurd (cc)
behind_read text t Opens row s last e lies h is = absurd (cc)
behind_read text t Rewinds row s last e lies h is = absurd (cc)
behind_read text t Commits row s last e lies h is = absurd (cc)
behind_read text t (ReLexes goal) row s last e lies h is =
    by_flag (fits text goal (token_or_default (last_live s.now))) is
  where
    by_flag : (b : Bool) → MatchBool b (IsReLexed text t s.now goal row) (IsNotTaken s.now row)
        → GoesOnBehind text (after_row (ReLexes goal) row s) row.token
    by_flag true is = record {
      last_is = rw is.taken (replaced_last s.now.tokens last row.token h.last_is);
      may = record {
        lies = lies;
        spelled =
            goal_reads_spelling text t goal (last_live s.now) (token_or_default (last_live s.now)).start
            (outcome_of row) is.reads;
      };
    }
    by_flag false is =
        let same : row.token ≡ last = is.token ∙ ap token_or_default h.last_is in
        record {
          last_is = rw is.taken (h.last_is ∙ ap Some (sym same));
          may = record { lies = lies; spelled = subst (HasSpelling text) (sym same) h.may.spelled };
        }

-- A session may go on behind the first row.
pub behind_first : (text : List ℕ) (t : SourceType) (row : Row) → IsRow text t nothing_live None row
    → GoesOnBehind text (state_after_first row) row.token
behind_first text t row is = record {
  last_is = refl;
  may = record {
    lies = is.places.token;
    spelled = goal_reads_spelling text t First None row.place (outcome_of row) is.gives.reads;
  };
}

-- And behind each row that stays.
pub behind_rows : (text : List ℕ) (t : SourceType) (s : State) (commands : List Command) (rows : List Row)
    (last : TokenParts) → list_all is_lasting commands ≡ true → GoesOnBehind text s last → Run text t s commands rows
    → GoesOnBehind text (state_after s commands rows) (last_token last rows)
behind_rows text t s [] rows last lasting h run = rw run h
behind_rows text t s (c ∷ cs) [] last lasting h run =
    absurd
    (let step = lasting_steps c (and_parts (is_lasting c) (list_all is_lasting cs) lasting).0 in rw step at run)
behind_rows text t s (c ∷ cs) (row ∷ rows) last lasting h run =
    let both = and_parts (is_lasting c) (list_all is_lasting cs) lasting in
    let step = lasting_steps c both.0 in
    let run = rw step at run in
    let here = behind_read text t (effect_of c) row s last both.0 run.0.places.token h run.0.gives in
    subst (λ x. GoesOnBehind text x (last_token row.token rows)) (sym (state_step s c cs row rows step))
    (behind_rows text t (after_row (effect_of c) row s) cs rows row.token both.1 here run.1)
