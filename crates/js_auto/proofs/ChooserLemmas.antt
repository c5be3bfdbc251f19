-- What a chooser keeps of the tokens that it was told.
use Rattle.std.proofs.Common.{◌≡◌, List, [], ◌∷◌, ◌++◌, refl, sym, ◌∙◌, ap, subst}
use Rattle.std.proofs.Common.{Some, None, true, false, Bool, ◌&&◌}
use Rattle.std.specs.Prelude.{IsSome, is_some, option_map, unwrap_or, if◌then◌else◌}
use Rattle.js_text.specs.Lists.{with_last}
use Rattle.js_kind.specs.Kinds.{is_one_of}
use Rattle.js_kind.specs.Predicates.{is_eof}
use Rattle.js_kind.specs.TokenParts.{TokenParts}
use Rattle.js_kind.specs.declared.kind.Kind.{Kind}
use Rattle.js_kind.specs.declared.kind.Kind.TheVariants.{Eof, RCurly}
use Rattle.js_grammar.specs.ReLexed.{again_kinds}
use Rattle.js_grammar.specs.declared.goal.Goal.TheVariants.{RegularExpression, TemplateTail as TailGoal}
use Rattle.js_grammar.proofs.AgainKinds.{only_one}
use Rattle.js_session.specs.declared.command.Command.TheVariants.{Next, Regex, TemplateTail}
use Rattle.js_session.proofs.LiveLemmas.{last_or-with_last}
use Rattle.js_choose.specs.LastTokens.{but_last, kind_before, last_kind}
use Rattle.js_choose.proofs.LastTokenLemmas.{but_last-push, but_last-with_last, ends, last_kind-push}
use Rattle.js_auto.specs.declared.brace.Brace.{Brace}
use Rattle.js_auto.specs.Braces.{effect_of, after_effect, braces, braces_from, open_behind}
use Rattle.js_auto.specs.Choice.{Chooser, begins_expression, choice_behind, chooser_behind, chooser_of}
use Rattle.js_auto.specs.Choice.{ends_substitution, kept_last}

braces-push : (stack : List Brace) (tokens : List TokenParts) (t : TokenParts)
    → braces_from stack (tokens ++ t ∷ []) ≡ after_effect (effect_of t.kind) (braces_from stack tokens)
braces-push stack [] t = refl
braces-push stack (u ∷ us) t = braces-push (after_effect (effect_of u.kind) stack) us t

-- the braces that are open behind all tokens are those behind the last one
braces_behind_last : (tokens : List TokenParts)
    → open_behind (last_kind tokens) (braces (but_last tokens)) ≡ braces tokens
braces_behind_last [] = refl
braces_behind_last (t ∷ ts) =
    let e = ends t ts in
    ap (λ o. open_behind (option_map (λ x. x.kind) o) (braces (but_last (t ∷ ts)))) e.is_last
    ∙ sym (braces-push [] (but_last (t ∷ ts)) e.last) ∙ sym (ap braces e.tokens_are)

-- what is kept of one token more
pub chooser-push : (tokens : List TokenParts) (t : TokenParts)
    → chooser_of (tokens ++ t ∷ [])
    ≡ record {
      stack = braces tokens;
      before = unwrap_or (last_kind tokens) Eof;
      last = Some t.kind;
    }
chooser-push tokens t = rw (but_last-push tokens t, last_kind-push tokens t) refl

-- what is kept where the last token is another, and where there is none
pub chooser-with_last : (tokens : List TokenParts) (x : TokenParts) → IsSome (last_kind tokens)
    → chooser_of (with_last tokens x)
    ≡ record { stack = braces (but_last tokens); before = kind_before tokens; last = Some x.kind }
chooser-with_last [] x some = absurd cc
chooser-with_last (t ∷ ts) x some =
    rw (but_last-with_last (t ∷ ts) x, last_or-with_last None t ts x) refl

pub chooser-with_last_none : (tokens : List TokenParts) (x : TokenParts) → is_some (last_kind tokens) ≡ false
    → chooser_of (with_last tokens x) ≡ chooser_of tokens
chooser-with_last_none [] x none = refl
chooser-with_last_none (t ∷ ts) x none =
    let some : is_some (last_kind (t ∷ ts)) ≡ true =
    ap (λ o. is_some (option_map (λ (y : TokenParts). y.kind) o)) (ends t ts).is_last in
    absurd (let no : true ≡ false = sym some ∙ none in cc)

-- the kind that is kept of a last token is `Eof` where there is none
pub kept_or_eof : (has_last : Bool) (last : Kind) → (has_last ≡ false → last ≡ Eof)
    → last ≡ unwrap_or (kept_last has_last last) Eof
kept_or_eof true last none = refl
kept_or_eof false last none = none refl

pub kept_some : (has_last : Bool) (last : Kind) → is_some (kept_last has_last last) ≡ has_last
kept_some true last = refl
kept_some false last = refl

-- what a chooser keeps that has passed the last token
pub passed : (tokens : List TokenParts) (old : Chooser) → old ≡ chooser_of tokens
    → record old { stack = open_behind old.last old.stack } ≡ chooser_behind tokens
passed tokens old told = rw (told, braces_behind_last tokens) refl

-- and what it keeps once it is told one token more
pub told_on : (tokens : List TokenParts) (t : TokenParts) (old : Chooser) → old ≡ chooser_behind tokens
    → record { stack = old.stack; before = unwrap_or old.last Eof; last = Some t.kind }
    ≡ chooser_of (tokens ++ t ∷ [])
told_on tokens t old told = rw (told, chooser-push tokens t) refl

abbrev pub with_kind : Kind → Chooser → Chooser
with_kind kind c = record c { last = Some kind }

-- and one that was told a token in the place of the last one
pub told_again : (tokens : List TokenParts) (t : TokenParts) (old : Chooser) → old ≡ chooser_of tokens
    → IsSome old.last → with_kind t.kind old ≡ chooser_of (with_last tokens t)
told_again tokens t old told some =
    ap (with_kind t.kind) told ∙ sym (chooser-with_last tokens t (subst (λ c. IsSome c.last) told some))

-- Behind which last token a part of a template is read, and behind which one a regular expression.
pub part_behind : (stack : List Brace) (before : Kind) (kind : Kind)
    → choice_behind stack before (Some kind) ≡ Some TemplateTail → kind ≡ RCurly
part_behind stack before kind chosen =
    by_tests (is_eof kind) (is_one_of (again_kinds TailGoal) kind) _ (begins_expression before kind) refl chosen
  where
    by_tests : (end curly inside regex : Bool) → is_one_of (again_kinds TailGoal) kind ≡ curly
        → (if end then None else if curly && inside then Some TemplateTail else if regex then Some Regex else Some Next)
        ≡ Some TemplateTail → kind ≡ RCurly
    by_tests end true inside regex is e = only_one kind RCurly is
    by_tests true false inside regex is e = absurd (cc)
    by_tests false false inside true is e = absurd (cc)
    by_tests false false inside false is e = absurd (cc)

pub expression_behind : (stack : List Brace) (before : Kind) (kind : Kind)
    → choice_behind stack before (Some kind) ≡ Some Regex → is_one_of (again_kinds RegularExpression) kind ≡ true
expression_behind stack before kind chosen =
    by_tests (is_eof kind) (ends_substitution stack kind) (is_one_of (again_kinds RegularExpression) kind) _ refl chosen
  where
    by_tests : (end tail slash begins : Bool) → is_one_of (again_kinds RegularExpression) kind ≡ slash
        → (if end then None else if tail then Some TemplateTail else if slash && begins then Some Regex else Some Next)
        ≡ Some Regex → is_one_of (again_kinds RegularExpression) kind ≡ true
    by_tests end tail true begins is e = is
    by_tests true tail false begins is e = absurd (cc)
    by_tests false true false begins is e = absurd (cc)
    by_tests false false false begins is e = absurd (cc)
