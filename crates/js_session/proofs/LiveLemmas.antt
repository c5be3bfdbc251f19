-- What is live, and the lexer behind it.
use Rattle.std.proofs.Common.{◌≡◌, ℕ, Bool, List, [], ◌∷◌, ◌++◌, refl, sym, ◌∙◌, ap, subst, append-nil, Option, Some}
use Rattle.std.proofs.Common.{None, true, false, length, suc}
use Rattle.std.specs.Prelude.{if◌then◌else◌}
use Rattle.std.proofs.lemmas.Grind.{flat_map-append}
use Rattle.std.specs.List.{last_or, AllByRecursion}
use Rattle.js_text.specs.Lists.{with_last}
use Rattle.js_text.specs.declared.source_type.SourceType.{SourceType}
use Rattle.js_grammar.specs.Outcome.{Outcome, joined}
use Rattle.js_kind.specs.TokenParts.{TokenParts}
use Rattle.js_grammar.specs.declared.goal.Goal.{Goal}
use Rattle.js_lexer.specs.Lexer.{LexerState, IsRestored, GoesOnFrom, after_outcome, collected, token_or_default}
use Rattle.js_lexer.specs.Lexer.{after_re_lex, is_hashbang}
use Rattle.js_lexer.specs.Lexer.{put_back, BeginsAlike}
use Rattle.js_lexer.proofs.LexerSteps.{begins_alike-append, begins_alike-replaced}
use Rattle.js_session.specs.Live.{Live, with_outcome, with_re_lexed, last_live}
use Rattle.js_session.specs.Marks.{lexer_behind, IsAlike}
use Rattle.js_session.specs.Report.{all_collected}

pub same_live : (a b : Live) → a.tokens ≡ b.tokens → a.findings ≡ b.findings → a ≡ b
same_live a b e1 e2 = rw (e1, e2) refl

pub last_or-push : (o : Option TokenParts) (ts : List TokenParts) (t : TokenParts) → last_or o (ts ++ t ∷ []) ≡ Some t
last_or-push o [] t = refl
last_or-push o (u ∷ ts) t = last_or-push (Some u) ts t

-- the last of some tokens
last_some : (t : TokenParts) (ts : List TokenParts) → (x : TokenParts) × (last_or (Some t) ts ≡ Some x)
last_some t [] = (t, refl)
last_some t (u ∷ ts) = last_some u ts

pub last_none : (ts : List TokenParts) → last_or None ts ≡ None → ts ≡ []
last_none [] e = refl
last_none (t ∷ ts) e = let found = (last_some t ts).1 in
    absurd (let no : Some (last_some t ts).0 ≡ None = sym found ∙ e in cc)

-- the last token in its place, where there is one
pub replaced : (l : List TokenParts) (last : Option TokenParts) → (last ≡ None → l ≡ [])
    → with_last l (token_or_default last) ≡ put_back l last
replaced l (Some t) none = refl
replaced l None none = rw (none refl) refl

all_collected-push : (c : Bool) (ts : List TokenParts) (t : TokenParts)
    → all_collected c (ts ++ t ∷ []) ≡ all_collected c ts ++ collected c t
all_collected-push c ts t =
    flat_map-append (collected c) ts (t ∷ []) ∙ ap (λ xs. all_collected c ts ++ xs) (append-nil (collected c t))

-- The lexer behind the live tokens goes on with one more outcome.
pub goes_on-behind : (text : List ℕ) (t : SourceType) (c : Bool) (now : Live) (o : Outcome)
    → GoesOnFrom (lexer_behind text t c now) (lexer_behind text t c (with_outcome now o))
goes_on-behind text t c now o = record {
  text = refl;
  source_type = refl;
  collects = refl;
  tokens =
      subst (BeginsAlike (all_collected c now.tokens)) (sym (all_collected-push c now.tokens o.token))
      (begins_alike-append (all_collected c now.tokens) (collected c o.token));
  findings = o.findings;
  goes_on = refl;
}

-- A lexer that read an outcome from behind what was live is behind what is live with it.
pub read_behind : (text : List ℕ) (t : SourceType) (c : Bool) (goal : Goal) (now : Live) (old new : LexerState)
    (o : Outcome) → IsAlike (lexer_behind text t c now) old
    → IsRestored (after_outcome goal old o) new → IsAlike (lexer_behind text t c (with_outcome now o)) new
read_behind text t c goal now old new o behind after =
    let last : last_live (with_outcome now o) ≡ Some o.token = last_or-push None now.tokens o.token in
    record {
      text = after.text ∙ behind.text;
      source_type = after.source_type ∙ behind.source_type;
      collects = after.collects ∙ behind.collects;
      place = after.place ∙ sym (ap (λ x. (token_or_default x).end) last);
      last = after.last ∙ sym last;
      tokens =
          after.tokens
          ∙ ap (λ xs. xs ++ collected old.collects o.token) behind.tokens
          ∙ ap (λ b. all_collected c now.tokens ++ collected b o.token) behind.collects
          ∙ sym (all_collected-push c now.tokens o.token);
      findings = after.findings ∙ ap (λ f. joined f o.findings) behind.findings;
    }

-- The last live token is read again: both it and what stands in its place are collected where tokens are.
pub record IsReplaced (now : Live) (o : Outcome) : Type 0 where
  pub last : TokenParts
  pub is_last : last_live now ≡ Some last
  pub was_collected : is_hashbang last.kind ≡ false
  pub is_collected : is_hashbang o.token.kind ≡ false

pub last_or-with_last : (o : Option TokenParts) (t : TokenParts) (ts : List TokenParts) (y : TokenParts)
    → last_or o (with_last (t ∷ ts) y) ≡ Some y
last_or-with_last o t [] y = refl
last_or-with_last o t (u ∷ us) y = last_or-with_last (Some t) u us y

last_replaced : (ts : List TokenParts) (last y : TokenParts) → last_or None ts ≡ Some last
    → last_or None (with_last ts y) ≡ Some y
last_replaced [] last y e = absurd (cc)
last_replaced (t ∷ ts) last y e = last_or-with_last None t ts y

-- the last of some tokens is collected
collected_some : (o : Option TokenParts) (ts : List TokenParts) (t last : TokenParts) → last_or o (t ∷ ts) ≡ Some last
    → is_hashbang last.kind ≡ false
    → (a : TokenParts) × (rest : List TokenParts) × (all_collected true (t ∷ ts) ≡ a ∷ rest)
collected_some o [] t last e some =
    let same : t ≡ last = cc in (t, [], rw (same, some) refl)
collected_some o (u ∷ us) t last e some =
    let found = collected_some (Some t) us u last e some in
    by_first (collected true t) found.0 found.1 found.2
  where
    by_first : (xs : List TokenParts) (a : TokenParts) (rest : List TokenParts) → all_collected true (u ∷ us) ≡ a ∷ rest
        → (b : TokenParts) × (bs : List TokenParts) × (xs ++ all_collected true (u ∷ us) ≡ b ∷ bs)
    by_first [] a rest e = (a, rest, e)
    by_first (x ∷ xs) a rest e = (x, xs ++ all_collected true (u ∷ us), refl)

pub length-with_last : (ts : List TokenParts) (t : TokenParts) → length (with_last ts t) ≡ length ts
length-with_last [] t = refl
length-with_last (a ∷ []) t = refl
length-with_last (a ∷ b ∷ ts) t = ap (λ n. suc n) (length-with_last (b ∷ ts) t)

pub with_last-append : (xs : List TokenParts) (a : TokenParts) (rest : List TokenParts) (y : TokenParts)
    → with_last (xs ++ a ∷ rest) y ≡ xs ++ with_last (a ∷ rest) y
with_last-append [] a rest y = refl
with_last-append (x ∷ []) a rest y = refl
with_last-append (x ∷ z ∷ zs) a rest y = ap (λ l. x ∷ l) (with_last-append (z ∷ zs) a rest y)

collected-with_last : (o : Option TokenParts) (t : TokenParts) (ts : List TokenParts) (last y : TokenParts)
    → last_or o (t ∷ ts) ≡ Some last → is_hashbang last.kind ≡ false → is_hashbang y.kind ≡ false
    → all_collected true (with_last (t ∷ ts) y) ≡ with_last (all_collected true (t ∷ ts)) y
collected-with_last o t [] last y e was is = let same : t ≡ last = cc in rw (same, was, is) refl
collected-with_last o t (u ∷ us) last y e was is =
    let some = collected_some (Some t) us u last e was in
    ap (λ l. collected true t ++ l) (collected-with_last (Some t) u us last y e was is)
    ∙ ap (λ l. collected true t ++ with_last l y) some.2
    ∙ sym (with_last-append (collected true t) some.0 some.1 y)
    ∙ ap (λ l. with_last (collected true t ++ l) y) (sym some.2)

none_collected : (ts : List TokenParts) (y : TokenParts)
    → all_collected false (with_last ts y) ≡ all_collected false ts
none_collected [] y = refl
none_collected (t ∷ []) y = refl
none_collected (t ∷ u ∷ us) y = none_collected (u ∷ us) y

collected_replaced : (c : Bool) (ts : List TokenParts) (last y : TokenParts) → last_or None ts ≡ Some last
    → is_hashbang last.kind ≡ false → is_hashbang y.kind ≡ false
    → all_collected c (with_last ts y) ≡ (if c then with_last (all_collected c ts) y else all_collected c ts)
collected_replaced true [] last y e was is = absurd (cc)
collected_replaced true (t ∷ ts) last y e was is = collected-with_last None t ts last y e was is
collected_replaced false ts last y e was is = none_collected ts y

-- The lexer behind the live tokens goes on with its last token read again.
pub goes_on-behind_re_lexed : (text : List ℕ) (t : SourceType) (c : Bool) (now : Live) (o : Outcome)
    → IsReplaced now o → GoesOnFrom (lexer_behind text t c now) (lexer_behind text t c (with_re_lexed now o))
goes_on-behind_re_lexed text t c now o r = record {
  text = refl;
  source_type = refl;
  collects = refl;
  tokens =
      subst (BeginsAlike (all_collected c now.tokens))
      (sym (collected_replaced c now.tokens r.last o.token r.is_last r.was_collected r.is_collected))
      (begins_alike-replaced c (all_collected c now.tokens) o.token);
  findings = o.findings;
  goes_on = refl;
}

-- A lexer that read the last live token again is behind what is live with it.
pub read_again_behind : (text : List ℕ) (t : SourceType) (c : Bool) (now : Live) (old new : LexerState) (o : Outcome)
    → IsReplaced now o → IsAlike (lexer_behind text t c now) old
    → IsRestored (after_re_lex old o) new → IsAlike (lexer_behind text t c (with_re_lexed now o)) new
read_again_behind text t c now old new o r behind after =
    let last : last_live (with_re_lexed now o) ≡ Some o.token = last_replaced now.tokens r.last o.token r.is_last in
    record {
      text = after.text ∙ behind.text;
      source_type = after.source_type ∙ behind.source_type;
      collects = after.collects ∙ behind.collects;
      place = after.place ∙ sym (ap (λ x. (token_or_default x).end) last);
      last = after.last ∙ sym last;
      tokens =
          after.tokens
          ∙ ap (λ xs. if old.collects then with_last xs o.token else xs) behind.tokens
          ∙ ap (λ b. if b then with_last (all_collected c now.tokens) o.token else all_collected c now.tokens)
          behind.collects
          ∙ sym (collected_replaced c now.tokens r.last o.token r.is_last r.was_collected r.is_collected);
      findings = after.findings ∙ ap (λ f. joined f o.findings) behind.findings;
    }

-- one more of which P holds
pub all-push : {X : Type 0} (P : X → Type 0) (xs : List X) (x : X) → AllByRecursion P xs → P x
    → AllByRecursion P (xs ++ x ∷ [])
all-push P [] x h p = (p, tt)
all-push P (y ∷ ys) x h p = (h.0, all-push P ys x h.1 p)
