-- Laws of what the rule of js_auto knows.
use Rattle.std.proofs.Common.{◌≡◌, ℕ, zero, suc, true, false, List, [], ◌∷◌, ◌++◌, refl, sym, ◌∙◌, ap, subst}
use Rattle.std.proofs.Common.{Option, Some, None, inl, inr, map}
use Rattle.std.specs.Prelude.{option_map, slice_get, unwrap_or, not, ◌&&◌}
use Rattle.js_grammar.proofs.NumberItems.{true_or_false}
use Rattle.js_text.specs.Lists.{with_last}
use Rattle.js_kind.specs.Kinds.{is_one_of}
use Rattle.js_kind.specs.TokenParts.{TokenParts}
use Rattle.js_kind.specs.declared.kind.Kind.{Kind}
use Rattle.js_kind.specs.declared.kind.Kind.TheVariants.{Eof}
use Rattle.js_grammar.specs.ReLexed.{again_kinds, is_re_lexed}
use Rattle.js_grammar.specs.declared.goal.Goal.TheVariants.{RegularExpression}
use Rattle.js_grammar.proofs.AgainKinds.{again_is_re_lexed}
use Rattle.js_choose.specs.LastTokens.{but_last, kind_before, last_kind}
use Rattle.js_choose.specs.Operands.{ends_operand}
use Rattle.js_choose.proofs.LastTokenLemmas.{but_last-push, but_last-with_last, ends, last_kind-push}
use Rattle.js_session.proofs.LiveLemmas.{last_or-with_last}
use Rattle.js_auto.specs.Braces.{braces, open_behind}
use Rattle.js_auto.specs.Choice.{begins_expression, choice_behind, choice_in, chooser_of}
use Rattle.js_auto.specs.declared.brace.Brace.{Brace}
use Rattle.js_auto.proofs.ChooserLemmas.{passed}
use Rattle.js_document.specs.declared.open.Node.{Node}
use Rattle.js_document.specs.declared.auto_state.AutoState.{AutoState}
use Rattle.js_document.specs.States.{AlikeAgain, AlikeBehind, AlikeItself, ChoosesAlike, KnowsAlike, KnowsBraces, SameBraces}
use Rattle.js_document.specs.States.{brace_scope, may_begin_expression}
use Rattle.js_document.specs.Trie.{HasMore, IsOpen, LeadsTo}

-- an item stays where it is when more are added behind
pub still_there : {A : Type 0} (xs ys : List A) (index : ℕ) (x : A) → slice_get xs index ≡ Some x
    → slice_get (xs ++ ys) index ≡ Some x
still_there [] ys index x is = absurd (cc)
still_there (a ∷ xs) ys zero x is = is
still_there (a ∷ xs) ys (suc index) x is = still_there xs ys index x is

-- what is open stays open where more is
pub open_stays : (old new : List Node) (link : ℕ) (scopes : List ℕ) → HasMore old new → IsOpen old link scopes
    → IsOpen new link scopes
open_stays old new link [] more is = is
open_stays old new link (scope ∷ scopes) more is =
    let leads : LeadsTo new link scope = record {
      number = is.0.number;
      node = is.0.node;
      link_is = is.0.link_is;
      node_is =
          subst (λ nodes. slice_get nodes is.0.number ≡ Some is.0.node) (sym more.new_is)
          (still_there old more.more is.0.number is.0.node is.0.node_is);
      scope_is = is.0.scope_is;
    } in
    (leads, open_stays old new is.0.node.parent scopes more is.1)

pub braces_stay : (old new : List Node) (state : AutoState) (tokens : List TokenParts) → HasMore old new
    → KnowsBraces old state tokens → KnowsBraces new state tokens
braces_stay old new state tokens more k = record {
  opened = open_stays old new state.link (map brace_scope (braces (but_last tokens))) more k.opened;
  operand = k.operand;
}

pub braces_known : KnowsAlike {K = AutoState} KnowsBraces SameBraces
braces_known nodes state tokens others k alike = record {
  opened =
      subst (λ bs. IsOpen nodes state.link (map brace_scope bs)) (sym alike.opened) k.opened;
  operand = λ may. k.operand (subst may_begin_expression alike.last may) ∙ sym (alike.operand may);
}

pub same_itself : AlikeItself SameBraces
same_itself tokens = record { opened = refl; last = refl; operand = λ may. refl }

-- whether an expression begins is told by whether an operand has ended
same_expression : (a b kind : Kind) → (is_one_of (again_kinds RegularExpression) kind ≡ true
    → ends_operand a ≡ ends_operand b) → begins_expression a kind ≡ begins_expression b kind
same_expression a b kind same =
    elim (true_or_false (is_one_of (again_kinds RegularExpression) kind)) [
      | inl may ↦ ap (λ e. is_one_of (again_kinds RegularExpression) kind && not e) (same may)
      | inr other ↦ rw other refl
    ]

pub same_choice : (stack : List Brace) (a b : Kind) (last : Option Kind) → (may_begin_expression last
    → ends_operand a ≡ ends_operand b) → choice_behind stack a last ≡ choice_behind stack b last
same_choice stack a b None same = refl
same_choice stack a b (Some kind) same = rw (same_expression a b kind same) refl

pub braces_alike : ChoosesAlike choice_in SameBraces
braces_alike text other tokens others alike byte =
    same_choice (braces (but_last tokens)) (kind_before tokens) (kind_before others) (last_kind tokens) alike.operand
    ∙ ap (λ stack. choice_behind stack (kind_before others) (last_kind tokens)) alike.opened
    ∙ ap (choice_behind (braces (but_last others)) (kind_before others)) alike.last

-- the braces behind the last token
pub behind_last : (tokens : List TokenParts) → open_behind (last_kind tokens) (braces (but_last tokens)) ≡ braces tokens
behind_last tokens = ap (λ c. c.stack) (passed tokens (chooser_of tokens) refl)

pub braces_behind : AlikeBehind SameBraces
braces_behind tokens others token other alike same =
    let braces_same : braces tokens ≡ braces others =
    sym (behind_last tokens) ∙ ap (open_behind (last_kind tokens)) alike.opened
    ∙ ap (λ o. open_behind o (braces (but_last others))) alike.last ∙ behind_last others in
    let kind : token.kind ≡ other.kind = ap (λ t. t.kind) same in
    let before : kind_before (tokens ++ token ∷ []) ≡ kind_before (others ++ other ∷ []) =
    ap (λ ts. unwrap_or (last_kind ts) Eof) (but_last-push tokens token)
    ∙ ap (λ o. unwrap_or o Eof) alike.last
    ∙ sym (ap (λ ts. unwrap_or (last_kind ts) Eof) (but_last-push others other)) in
    record {
      opened =
          ap braces (but_last-push tokens token) ∙ braces_same ∙ sym (ap braces (but_last-push others other));
      last = last_kind-push tokens token ∙ ap Some kind ∙ sym (last_kind-push others other);
      operand = λ may. ap ends_operand before;
    }

-- the last token is another
last_again : (tokens others : List TokenParts) (token other : TokenParts) → last_kind tokens ≡ last_kind others
    → token.kind ≡ other.kind → last_kind (with_last tokens token) ≡ last_kind (with_last others other)
last_again [] [] token other last kind = refl
last_again [] (o ∷ os) token other last kind =
    absurd (let no : None ≡ Some (ends o os).last.kind =
    last ∙ ap (option_map (λ t. t.kind)) (ends o os).is_last in cc)
last_again (t ∷ ts) [] token other last kind =
    absurd (let no : Some (ends t ts).last.kind ≡ None =
    sym (ap (option_map (λ t. t.kind)) (ends t ts).is_last) ∙ last in cc)
last_again (t ∷ ts) (o ∷ os) token other last kind =
    ap (option_map (λ t. t.kind)) (last_or-with_last None t ts token) ∙ ap Some kind
    ∙ sym (ap (option_map (λ t. t.kind)) (last_or-with_last None o os other))

-- the kind of a last token that is another
kind_again : (tokens : List TokenParts) (token : TokenParts) (kind : Kind)
    → last_kind (with_last tokens token) ≡ Some kind → token.kind ≡ kind
kind_again [] token kind is = absurd (cc)
kind_again (t ∷ ts) token kind is =
    let both : Some token.kind ≡ Some kind =
    sym (ap (option_map (λ t. t.kind)) (last_or-with_last None t ts token)) ∙ is in
    cc

-- a token that none reads again begins no expression
pub begins_none : (tokens : List TokenParts) (token : TokenParts) (last : Option Kind) → is_re_lexed token.kind ≡ false
    → last_kind (with_last tokens token) ≡ last → may_begin_expression last → ⊥
begins_none tokens token None settled is may = may
begins_none tokens token (Some kind) settled is may =
    let no : true ≡ false =
    sym (again_is_re_lexed RegularExpression kind may) ∙ ap is_re_lexed (sym (kind_again tokens token kind is))
    ∙ settled in
    cc

pub braces_again : AlikeAgain SameBraces
braces_again tokens others token other alike same settled = record {
  opened =
      ap braces (but_last-with_last tokens token) ∙ alike.opened ∙ sym (ap braces (but_last-with_last others other));
  last = last_again tokens others token other alike.last (ap (λ t. t.kind) same);
  operand = λ may. absurd
      (begins_none tokens token (last_kind (with_last tokens token)) settled refl may);
}
