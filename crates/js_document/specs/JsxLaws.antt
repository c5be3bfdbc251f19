-- Laws of what the rule of js_jsx knows.
use Rattle.std.proofs.Common.{◌≡◌, ℕ, List, [], ◌∷◌, ◌++◌, refl, sym, ◌∙◌, ap, Option, Some, None, map}
use Rattle.std.specs.Prelude.{option_map}
use Rattle.std.specs.List.{last_or}
use Rattle.js_text.specs.Lists.{with_last}
use Rattle.js_kind.specs.TokenParts.{TokenParts}
use Rattle.js_choose.specs.LastTokens.{but_last, byte_behind}
use Rattle.js_choose.proofs.LastTokenLemmas.{but_last-push, but_last-with_last, ends}
use Rattle.js_session.proofs.LiveLemmas.{last_or-push, last_or-with_last}
use Rattle.js_jsx.specs.Choice.{choice, choice_behind, chooser_of}
use Rattle.js_jsx.specs.States.{State, behind, behind_last, state_of}
use Rattle.js_jsx.proofs.ChooserLemmas.{passed}
use Rattle.js_relex.specs.Joined.{at_start}
use Rattle.js_document.specs.declared.jsx_state.JsxState.{JsxState}
use Rattle.js_document.specs.declared.open.Node.{Node}
use Rattle.js_document.specs.AutoLaws.{open_stays}
use Rattle.js_document.specs.JsxStates.{KnowsJsx, SameJsx, last_start}
use Rattle.js_document.specs.LinkedScopes.{scope_number}
use Rattle.js_document.specs.States.{AlikeAgain, AlikeBehind, AlikeItself, ChoosesAlike, KnowsAlike}
use Rattle.js_document.specs.Trie.{HasMore}

pub jsx_stays : (old new : List Node) (kept : JsxState) (tokens : List TokenParts) → HasMore old new
    → KnowsJsx old kept tokens → KnowsJsx new kept tokens
jsx_stays old new kept tokens more k = record {
  scopes = k.scopes;
  opened = open_stays old new kept.link (map scope_number k.scopes) more k.opened;
  state_is = k.state_is;
}

pub jsx_known : KnowsAlike {K = JsxState} KnowsJsx SameJsx
jsx_known nodes kept tokens others k alike = record {
  scopes = k.scopes;
  opened = k.opened;
  state_is = k.state_is ∙ sym alike.state_is;
}

pub jsx_itself : AlikeItself SameJsx
jsx_itself tokens = record { state_is = refl; last_is = refl }

-- What is chosen behind a last token is told by its kind, and what is kept behind it by that and its flags.
same_choice : (next : Option ℕ) (state : State) (last other : Option TokenParts)
    → option_map at_start last ≡ option_map at_start other
    → choice_behind next state last ≡ choice_behind next state other
same_choice next state None None same = refl
same_choice next state None (Some other) same = absurd (let no : None ≡ Some (at_start other) = same in cc)
same_choice next state (Some last) None same = absurd (let no : Some (at_start last) ≡ None = same in cc)
same_choice next state (Some last) (Some other) same =
    let both : Some (at_start last) ≡ Some (at_start other) = same in
    let start : at_start last ≡ at_start other = cc in
    ap (λ (t : TokenParts). choice_behind next state (Some t)) start

same_behind : (state : State) (last other : Option TokenParts) → option_map at_start last ≡ option_map at_start other
    → behind_last state last ≡ behind_last state other
same_behind state None None same = refl
same_behind state None (Some other) same = absurd (let no : None ≡ Some (at_start other) = same in cc)
same_behind state (Some last) None same = absurd (let no : Some (at_start last) ≡ None = same in cc)
same_behind state (Some last) (Some other) same =
    let both : Some (at_start last) ≡ Some (at_start other) = same in
    let start : at_start last ≡ at_start other = cc in
    ap (behind state) start

pub jsx_alike : ChoosesAlike choice SameJsx
jsx_alike text other tokens others alike byte =
    ap (λ next. choice_behind next (state_of (but_last tokens)) (last_or None tokens)) byte
    ∙ ap (λ s. choice_behind (byte_behind other others) s (last_or None tokens)) alike.state_is
    ∙ same_choice (byte_behind other others) (state_of (but_last others)) (last_or None tokens) (last_or None others)
    alike.last_is

-- what is kept behind the last token
pub kept_behind : (tokens : List TokenParts)
    → behind_last (state_of (but_last tokens)) (last_or None tokens) ≡ state_of tokens
kept_behind tokens = ap (λ c. c.state) (passed tokens (chooser_of tokens) refl)

-- the last token, where one is added
pub start_behind : (tokens : List TokenParts) (token : TokenParts)
    → last_start (tokens ++ token ∷ []) ≡ Some (at_start token)
start_behind tokens token = ap (option_map at_start) (last_or-push None tokens token)

pub jsx_behind : AlikeBehind SameJsx
jsx_behind tokens others token other alike same = record {
  state_is =
      ap state_of (but_last-push tokens token)
      ∙ sym (kept_behind tokens)
      ∙ ap (λ s. behind_last s (last_or None tokens)) alike.state_is
      ∙ same_behind (state_of (but_last others)) (last_or None tokens) (last_or None others) alike.last_is
      ∙ kept_behind others
      ∙ sym (ap state_of (but_last-push others other));
  last_is = start_behind tokens token ∙ ap Some same ∙ sym (start_behind others other);
}

-- the last token is another
last_again : (tokens others : List TokenParts) (token other : TokenParts) → last_start tokens ≡ last_start others
    → at_start token ≡ at_start other → last_start (with_last tokens token) ≡ last_start (with_last others other)
last_again [] [] token other last same = refl
last_again [] (o ∷ os) token other last same =
    absurd (let no : None ≡ Some (at_start (ends o os).last) = last ∙ ap (option_map at_start) (ends o os).is_last in cc)
last_again (t ∷ ts) [] token other last same =
    absurd
    (let no : Some (at_start (ends t ts).last) ≡ None = sym (ap (option_map at_start) (ends t ts).is_last) ∙ last in cc)
last_again (t ∷ ts) (o ∷ os) token other last same =
    ap (option_map at_start) (last_or-with_last None t ts token) ∙ ap Some same
    ∙ sym (ap (option_map at_start) (last_or-with_last None o os other))

pub jsx_again : AlikeAgain SameJsx
jsx_again tokens others token other alike same settled = record {
  state_is =
      ap state_of (but_last-with_last tokens token) ∙ alike.state_is
      ∙ sym (ap state_of (but_last-with_last others other));
  last_is = last_again tokens others token other alike.last_is same;
}
