-- What the rule of js_auto knows, as links tell it.
use Rattle.std.proofs.Common.{◌≡◌, ℕ, Bool, true, false, ◌==◌, List, [], ◌∷◌, ◌++◌, drop, map, refl, sym, ◌∙◌, ap, subst, Option, Some}
use Rattle.std.proofs.Common.{None}
use Rattle.std.specs.Prelude.{option_map, slice_get, unwrap_or, if◌then◌else◌}
use Rattle.std.proofs.lemmas.List.{drop-map}
use Rattle.js_text.specs.Lists.{with_last}
use Rattle.js_kind.specs.Kinds.{is_one_of}
use Rattle.js_kind.specs.Predicates.{is_eof}
use Rattle.js_kind.specs.TokenParts.{TokenParts}
use Rattle.js_kind.specs.declared.kind.Kind.{Kind}
use Rattle.js_kind.specs.declared.kind.Kind.TheVariants.{Eof}
use Rattle.js_grammar.specs.ReLexed.{again_kinds, is_re_lexed}
use Rattle.js_grammar.specs.declared.goal.Goal.TheVariants.{RegularExpression}
use Rattle.js_session.specs.declared.command.Command.{Command}
use Rattle.js_session.specs.declared.command.Command.TheVariants.{Next, Regex, TemplateTail}
use Rattle.js_choose.specs.LastTokens.{but_last, kind_before, last_kind}
use Rattle.js_choose.specs.Operands.{ends_operand}
use Rattle.js_choose.proofs.LastTokenLemmas.{but_last-push, but_last-with_last}
use Rattle.js_auto.specs.Braces.{braces, is_in_substitution, open_behind, without_block}
use Rattle.js_auto.specs.Choice.{begins_expression, choice, choice_behind, ends_substitution}
use Rattle.js_auto.specs.declared.brace.Brace.{Brace}
use Rattle.js_auto.specs.declared.brace.Brace.TheVariants.{Block, Template}
use Rattle.js_document.specs.declared.auto_state.AutoState.{AutoState}
use Rattle.js_document.specs.declared.open.Node.{Node}
use Rattle.js_document.specs.AutoLaws.{begins_none, behind_last, same_choice}
use Rattle.js_document.specs.States.{IsLast, KnowsBraces, SameBraces, brace_scope, may_begin_expression}
use Rattle.js_document.specs.Trie.{IsOpen}

-- the brace that was opened last
pub some_brace : (braces : List Brace) (scope : ℕ) → Some scope ≡ slice_get (map brace_scope braces) 0
    → (scope == 1) ≡ is_in_substitution braces
some_brace [] scope is = absurd (cc)
some_brace (Block ∷ braces) scope is = (let one : scope ≡ 0 = cc in ap (λ n. n == 1) one)
some_brace (Template ∷ braces) scope is = (let one : scope ≡ 1 = cc in ap (λ n. n == 1) one)

pub no_brace : (braces : List Brace) → None ≡ slice_get (map brace_scope braces) 0 → false ≡ is_in_substitution braces
no_brace [] is = refl
no_brace (brace ∷ braces) is = absurd (cc)

-- without the last one, if it is one of a block
pub stays_open : (nodes : List Node) (link : ℕ) (braces : List Brace) → is_in_substitution braces ≡ true
    → IsOpen nodes link (map brace_scope braces) → IsOpen nodes link (map brace_scope (without_block braces))
stays_open nodes link braces is there =
    subst (λ bs. IsOpen nodes link (map brace_scope bs)) (sym (ap (λ b. if b then braces else drop 1 braces) is)) there

pub closes_block : (nodes : List Node) (link : ℕ) (braces : List Brace) → is_in_substitution braces ≡ false
    → IsOpen nodes link (drop 1 (map brace_scope braces)) → IsOpen nodes link (map brace_scope (without_block braces))
closes_block nodes link braces is there =
    subst (λ bs. IsOpen nodes link (map brace_scope bs)) (sym (ap (λ b. if b then braces else drop 1 braces) is))
    (subst (IsOpen nodes link) (drop-map brace_scope 1 braces) there)

-- the same scopes are those of the same braces
same_scope : (a b : Brace) → brace_scope a ≡ brace_scope b → a ≡ b
same_scope Block Block e = refl
same_scope Block Template e = absurd (cc)
same_scope Template Block e = absurd (cc)
same_scope Template Template e = refl

pub same_braces : (xs ys : List Brace) → map brace_scope xs ≡ map brace_scope ys → xs ≡ ys
same_braces [] [] e = refl
same_braces [] (y ∷ ys) e = absurd (cc)
same_braces (x ∷ xs) [] e = absurd (cc)
same_braces (x ∷ xs) (y ∷ ys) e =
    let first : brace_scope x ≡ brace_scope y = cc in
    let rest : map brace_scope xs ≡ map brace_scope ys = cc in
    ap (λ b. b ∷ xs) (same_scope x y first) ∙ ap (λ bs. y ∷ bs) (same_braces xs ys rest)

-- What is known behind a token more, of which the last one was of the kind.
pub known_behind : (nodes : List Node) (link : ℕ) (kind : Kind) (last token : TokenParts) (tokens : List TokenParts)
    → kind ≡ last.kind → IsLast last tokens
    → IsOpen nodes link (map brace_scope (open_behind (Some kind) (braces (but_last tokens))))
    → KnowsBraces nodes (record { link = link; before = kind }) (tokens ++ token ∷ [])
known_behind nodes link kind last token tokens same is there =
    let last_is : last_kind tokens ≡ Some kind = ap (option_map (λ (t : TokenParts). t.kind)) is ∙ ap Some (sym same) in
    let stack : open_behind (Some kind) (braces (but_last tokens)) ≡ braces (but_last (tokens ++ token ∷ [])) =
    ap (λ o. open_behind o (braces (but_last tokens))) (sym last_is) ∙ behind_last tokens
    ∙ sym (ap braces (but_last-push tokens token)) in
    let before : kind ≡ kind_before (tokens ++ token ∷ []) =
    sym
    (ap (λ ts. unwrap_or (last_kind ts) Eof) (but_last-push tokens token) ∙ ap (λ o. unwrap_or o Eof) last_is) in
    record {
      opened = subst (λ bs. IsOpen nodes link (map brace_scope bs)) stack there;
      operand = λ may. ap ends_operand before;
    }

-- What is known behind another token in the place of the last one.
pub known_again : (nodes : List Node) (state : AutoState) (tokens : List TokenParts) (token : TokenParts)
    → is_re_lexed token.kind ≡ false → KnowsBraces nodes state tokens → KnowsBraces nodes state (with_last tokens token)
known_again nodes state tokens token settled k = record {
  opened =
      subst (λ ts. IsOpen nodes state.link (map brace_scope (braces ts))) (sym (but_last-with_last tokens token)) k.opened;
  operand = λ may. absurd
      (begins_none tokens token (last_kind (with_last tokens token)) settled refl may);
}

-- the command, by what is known
pub known_choice : (nodes : List Node) (state : AutoState) (tokens : List TokenParts) (last : TokenParts) (kind : Kind)
    → kind ≡ last.kind → IsLast last tokens → KnowsBraces nodes state tokens
    → choice_behind (braces (but_last tokens)) state.before (Some kind) ≡ choice tokens
known_choice nodes state tokens last kind same is k =
    let last_is : Some kind ≡ last_kind tokens =
    ap Some same ∙ sym (ap (option_map (λ (t : TokenParts). t.kind)) is) in
    ap (choice_behind (braces (but_last tokens)) state.before) last_is
    ∙ same_choice (braces (but_last tokens)) state.before (kind_before tokens) (last_kind tokens) k.operand

-- the command, by what is tested
abbrev pub tested : Bool → Bool → Bool → Option Command
tested end tail begins =
    if end then None else if tail then Some TemplateTail else if begins then Some Regex else Some Next

pub tested_choice : (stack : List Brace) (before kind : Kind) (end tail begins : Bool) → end ≡ is_eof kind
    → tail ≡ ends_substitution stack kind → begins ≡ begins_expression before kind
    → tested end tail begins ≡ choice_behind stack before (Some kind)
tested_choice stack before kind end tail begins ends tails expression =
    ap (λ b. tested b tail begins) ends ∙ ap (λ b. tested (is_eof kind) b begins) tails
    ∙ ap (tested (is_eof kind) (ends_substitution stack kind)) expression

-- Tokens of which this is known are alike if the same is open, and an operand has ended in both or in none.
module _ (nodes : List Node) (state other : AutoState) (tokens others : List TokenParts) (last token : TokenParts)
    (kind : Kind) (same : kind ≡ last.kind) (k : KnowsBraces nodes state tokens) (k_other : KnowsBraces nodes other others)
    (is : IsLast last tokens) (is_other : IsLast token others) (same_other : token.kind ≡ last.kind) where
  last_is : last_kind tokens ≡ Some kind
  last_is = ap (option_map (λ (t : TokenParts). t.kind)) is ∙ ap Some (sym same)

  other_is : last_kind others ≡ Some kind
  other_is = ap (option_map (λ (t : TokenParts). t.kind)) is_other ∙ ap Some (same_other ∙ sym same)

  pub same_known : map brace_scope (braces (but_last tokens)) ≡ map brace_scope (braces (but_last others))
      → (is_one_of (again_kinds RegularExpression) kind ≡ true → ends_operand state.before ≡ ends_operand other.before)
      → SameBraces tokens others
  same_known scopes ends = record {
    opened = same_braces (braces (but_last tokens)) (braces (but_last others)) scopes;
    last = last_is ∙ sym other_is;
    operand = λ may.
        sym (k.operand may) ∙ ends (subst may_begin_expression last_is may)
        ∙ k_other.operand (subst may_begin_expression (last_is ∙ sym other_is) may);
  }

  pub scopes_same : SameBraces tokens others
      → map brace_scope (braces (but_last tokens)) ≡ map brace_scope (braces (but_last others))
  scopes_same alike = ap (map brace_scope) alike.opened

  pub ends_same : SameBraces tokens others → is_one_of (again_kinds RegularExpression) kind ≡ true
      → ends_operand state.before ≡ ends_operand other.before
  ends_same alike may =
      let here : may_begin_expression (last_kind tokens) = subst may_begin_expression (sym last_is) may in
      let there : may_begin_expression (last_kind others) = subst may_begin_expression (sym other_is) may in
      k.operand here ∙ alike.operand here ∙ sym (k_other.operand there)
