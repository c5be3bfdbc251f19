-- What a chooser keeps of the tokens that it was told.
use Rattle.std.proofs.Common.{◌≡◌, ℕ, List, [], ◌∷◌, ◌++◌, refl, sym, ◌∙◌, ap, Option, Some, None, true, false, Bool}
use Rattle.std.specs.List.{last_or}
use Rattle.std.specs.Prelude.{is_some, slice_get}
use Rattle.js_text.specs.Lists.{with_last}
use Rattle.js_kind.specs.TokenParts.{TokenParts}
use Rattle.js_lexer.specs.Lexer.{token_or_default}
use Rattle.js_session.specs.declared.command.Command.{Command}
use Rattle.js_session.proofs.LiveLemmas.{last_or-push, last_or-with_last}
use Rattle.js_choose.specs.LastTokens.{but_last}
use Rattle.js_choose.proofs.LastTokenLemmas.{but_last-push, but_last-with_last, ends}
use Rattle.js_jsx.specs.Choice.{Chooser, choice, choice_behind, chooser_behind, chooser_of, kept_last}
use Rattle.js_jsx.specs.States.{State, behind, behind_last, first_state, state_of, states_from}

states-push : (state : State) (tokens : List TokenParts) (t : TokenParts)
    → states_from state (tokens ++ t ∷ []) ≡ behind (states_from state tokens) t
states-push state [] t = refl
states-push state (u ∷ us) t = states-push (behind state u) us t

-- what is kept of all tokens is what is kept behind the last one
behind_all : (tokens : List TokenParts)
    → behind_last (state_of (but_last tokens)) (last_or None tokens) ≡ state_of tokens
behind_all [] = refl
behind_all (t ∷ ts) =
    let e = ends t ts in
    ap (behind_last (state_of (but_last (t ∷ ts)))) e.is_last
    ∙ sym (states-push first_state (but_last (t ∷ ts)) e.last) ∙ sym (ap state_of e.tokens_are)

-- what a chooser keeps that has passed the last token
pub passed : (tokens : List TokenParts) (old : Chooser) → old ≡ chooser_of tokens
    → record old { state = behind_last old.state old.last } ≡ chooser_behind tokens
passed tokens old told =
    ap (λ (c : Chooser). record c { state = behind_last c.state c.last }) told
    ∙ ap (λ (s : State). record (chooser_of tokens) { state = s }) (behind_all tokens)

-- and what it keeps once it is told one token more
pub told_on : (tokens : List TokenParts) (t : TokenParts) (old : Chooser) → old ≡ chooser_behind tokens
    → record old { last = Some t } ≡ chooser_of (tokens ++ t ∷ [])
told_on tokens t old told =
    ap (λ (c : Chooser). record c { last = Some t }) told
    ∙ ap (λ (l : List TokenParts). record { state = state_of l; last = Some t }) (sym (but_last-push tokens t))
    ∙ ap (λ (o : Option TokenParts). record { state = state_of (but_last (tokens ++ t ∷ [])); last = o })
    (sym (last_or-push None tokens t))

-- and one that was told a token in the place of the last one
pub told_again : (tokens : List TokenParts) (t : TokenParts) (old : Chooser) → old ≡ chooser_of tokens
    → is_some old.last ≡ true → record old { last = Some t } ≡ chooser_of (with_last tokens t)
told_again tokens t old told some =
    ap (λ (c : Chooser). record c { last = Some t }) told
    ∙ with_another tokens (sym (ap (λ (c : Chooser). is_some c.last) told) ∙ some)
  where
    with_another : (us : List TokenParts) → is_some (last_or None us) ≡ true
        → record (chooser_of us) { last = Some t } ≡ chooser_of (with_last us t)
    with_another [] some = absurd (cc)
    with_another (u ∷ us) some =
        ap (λ (l : List TokenParts). record { state = state_of l; last = Some t })
        (sym (but_last-with_last (u ∷ us) t))
        ∙ ap (λ (o : Option TokenParts). record { state = state_of (but_last (with_last (u ∷ us) t)); last = o })
        (sym (last_or-with_last None u us t))

-- where there is no last one, none is put in its place
pub told_none : (tokens : List TokenParts) (t : TokenParts) (old : Chooser) → old ≡ chooser_of tokens
    → is_some old.last ≡ false → old ≡ chooser_of (with_last tokens t)
told_none tokens t old told none = told ∙ unchanged tokens (sym (ap (λ (c : Chooser). is_some c.last) told) ∙ none)
  where
    unchanged : (us : List TokenParts) → is_some (last_or None us) ≡ false → chooser_of us ≡ chooser_of (with_last us t)
    unchanged [] none = refl
    unchanged (u ∷ us) none =
        absurd (let no : true ≡ false = sym (ap is_some (ends u us).is_last) ∙ none in
        cc)

pub kept_some : (has_last : Bool) (last : TokenParts) → is_some (kept_last has_last last) ≡ has_last
kept_some true last = refl
kept_some false last = refl

-- what is chosen by what is kept
abbrev pub choice_by : List ℕ → Chooser → Option Command
choice_by text c = choice_behind (slice_get text (token_or_default c.last).end) c.state c.last

pub chosen_by : (text : List ℕ) (tokens : List TokenParts) (c : Chooser) → c ≡ chooser_of tokens
    → choice_by text c ≡ choice text tokens
chosen_by text tokens c told = ap (choice_by text) told
