-- What follows a token that is read again.
use Rattle.std.proofs.Common.{◌≡◌, ◌≢◌, ℕ, ◌<◌, Bool, true, false, ◌&&◌, ◌==◌, List, [], ◌∷◌, ◌++◌, length}
use Rattle.std.proofs.Common.{drop, refl, sym, ◌∙◌, ap, subst, arith, append_assoc, append-nil, length-append, Some, None, inl, inr}
use Rattle.std.proofs.Common.{◌⊎◌, not}
use Rattle.std.specs.Prelude.{unwrap_or}
use Rattle.std.specs.List.{list_all}
use Rattle.std.specs.Str.{IsUtf8, encode_utf8_all}
use Rattle.std.proofs.lemmas.Bool.{and_parts}
use Rattle.std.proofs.lemmas.List.{append_cancel_right}
use Rattle.unicode_ident.proofs.Computing.{unicode_ident}
use Rattle.js_text.specs.Characters.{from_place, is_identifier_part, is_irregular_whitespace, is_line_terminator}
use Rattle.js_text.specs.Characters.{is_white_space}
use Rattle.js_text.specs.SourceType.{is_module}
use Rattle.js_text.specs.declared.source_type.SourceType.{SourceType}
use Rattle.js_text.proofs.TextLemmas.{place_past}
use Rattle.js_kind.specs.Kinds.{is_identifier_name, is_one_of, kind_text}
use Rattle.js_kind.specs.TokenParts.{TokenParts}
use Rattle.js_kind.specs.declared.kind.Kind.{Kind}
use Rattle.js_kind.proofs.Members.{one_passes}
use Rattle.js_grammar.specs.Goals.{GoalReads, ReadsJsxName}
use Rattle.js_grammar.specs.ReLexed.{HasSpelling, again_kinds, fits}
use Rattle.js_grammar.specs.Reads.{is_onward}
use Rattle.js_grammar.specs.declared.goal.Goal.{Goal}
use Rattle.js_grammar.specs.declared.goal.Goal.TheVariants.{First, Next, TemplateTail, RegularExpression, RightAngle}
use Rattle.js_grammar.specs.declared.goal.Goal.TheVariants.{TypeScriptLeftAngle, TypeScriptRightAngle, JsxIdentifier}
use Rattle.js_grammar.specs.declared.goal.Goal.TheVariants.{JsxChild, JsxAttributeValue}
use Rattle.js_grammar.proofs.AgainKinds.{again_is_re_lexed}
use Rattle.js_grammar.proofs.AgainReadings.{module_begins}
use Rattle.js_grammar.proofs.BlankedGaps.{PieceIs, piece_is}
use Rattle.js_grammar.proofs.BlankedGaps.PieceIs.{white, line, a_comment}
use Rattle.js_grammar.proofs.GoalWays.{goal_reads_span}
use Rattle.js_grammar.proofs.Without.{begins_comment, comment_begins, true_is_not_false}
use Rattle.js_lexer.specs.Lexer.{IsOnPlaces}
use Rattle.js_session.specs.declared.row.Row.{Row}
use Rattle.js_session.specs.Live.{outcome_of}
use Rattle.js_rewrite.specs.Space.{ends_as_word}
use Rattle.js_rewrite.proofs.Following.{BeginsGap, Follows, FollowsToken, as_no_word, kept_before, last_character}
use Rattle.js_rewrite.proofs.Following.Follows.{same, kept, line_end, space, joined, nothing_left}
use Rattle.js_rewrite.proofs.GoalsAlike.{again_some, name_cut, name_goes_on}
use Rattle.js_rewrite.proofs.LastTokens.{IsQuiet}
use Rattle.js_rewrite.proofs.NumberEnds.{last_over}
use Rattle.js_squeeze.specs.SqueezeText.{first_reads}
use Rattle.js_squeeze.proofs.Future.{Future}
use Rattle.js_squeeze.proofs.Written.{characters, characters_here}

-- A text that is cut twice: what is in front of one cut is in front of the other, with what is between them.
cut_twice : (xs us ys zs : List ℕ) → xs ++ ys ≡ us ++ zs
    → ((m : List ℕ) × (us ≡ xs ++ m) × (ys ≡ m ++ zs)) ⊎ ((m : List ℕ) × (xs ≡ us ++ m) × (zs ≡ m ++ ys))
cut_twice [] us ys zs e = inl (us, refl, e)
cut_twice (x ∷ xs) [] ys zs e = inr (x ∷ xs, refl, sym e)
cut_twice (x ∷ xs) (u ∷ us) ys zs e =
    let first : x ≡ u = cc in
    let later : xs ++ ys ≡ us ++ zs = cc in
    elim (cut_twice xs us ys zs later) [
      | inl shorter ↦ inl (shorter.0, ap (λ z. u ∷ z) shorter.1 ∙ ap (λ c. c ∷ (xs ++ shorter.0)) (sym first), shorter.2)
      | inr longer ↦ inr (longer.0, ap (λ z. x ∷ z) longer.1 ∙ ap (λ c. c ∷ (us ++ longer.0)) first, longer.2)
    ]

last_of_both : (xs : List ℕ) (y : ℕ) (ys : List ℕ) → last_character (xs ++ y ∷ ys) ≡ last_character (y ∷ ys)
last_of_both xs y ys = ap (λ o. unwrap_or o 0) (last_over None None xs y ys)

-- No gap begins with a character of a module but a `/`, or with one that begins no comment.
abbrev is_plain_character : ℕ → Bool
is_plain_character c = not (is_white_space c) && (not (is_line_terminator c) && not (c == 47))

abbrev is_no_mark : ℕ → Bool
is_no_mark c = not (begins_comment c)

not_true : (b : Bool) → not b ≡ true → b ≡ false
not_true true e = absurd (cc)
not_true false e = refl

no_gap : {A : Type 0} (t : SourceType) (c : ℕ) (cs : List ℕ) → is_plain_character c ≡ true
    → (is_module t ≡ true) ⊎ (is_no_mark c ≡ true) → BeginsGap t (c ∷ cs) → A
no_gap t c cs plain marks g = by_piece (piece_is t g.ended (c ∷ cs) g.found g.here)
  where
    parts : (not (is_white_space c) ≡ true) × ((not (is_line_terminator c) && not (c == 47)) ≡ true)
    parts = and_parts (not (is_white_space c)) (not (is_line_terminator c) && not (c == 47)) plain

    later : (not (is_line_terminator c) ≡ true) × (not (c == 47) ≡ true)
    later = and_parts (not (is_line_terminator c)) (not (c == 47)) parts.1

    by_piece : {A : Type 0} → PieceIs g.ended (c ∷ cs) g.found → A
    by_piece (white d ds here is x) =
        true_is_not_false (is_white_space c)
        (ap is_white_space (let first : c ≡ d = cc in first) ∙ is) (not_true (is_white_space c) parts.0)
    by_piece (line d ds here no_white is x) =
        true_is_not_false (is_line_terminator c)
        (ap is_line_terminator (let first : c ≡ d = cc in first) ∙ is) (not_true (is_line_terminator c) later.0)
    by_piece (a_comment is) =
        elim marks [
          | inl module_is ↦ (
              let at = module_begins t g.ended (c ∷ cs) g.found is.kind module_is g.here is.is in
              let first : c ≡ 47 = (let whole = at.1 in cc) in
              true_is_not_false (c == 47) (ap (λ d. d == 47) first) (not_true (c == 47) later.1))
          | inr no_mark ↦
              true_is_not_false (begins_comment c) (comment_begins t g.ended (c ∷ cs) g.found is.kind g.here is.is)
              (not_true (begins_comment c) no_mark)
        ]

-- Characters with none of which a gap begins stay, and what follows them does.
pub record Unshifted (t : SourceType) (is_word : Bool) (last : ℕ) (m ys zs : List ℕ) : Type 0 where
  pub left : List ℕ
  pub whole : zs ≡ m ++ left
  pub here : m ≡ [] → Follows t is_word last ys left
  pub behind : m ≢ [] → Follows t false (last_character m) ys left

unshift : (t : SourceType) (is_word : Bool) (last : ℕ) (m ys zs : List ℕ) → list_all is_plain_character m ≡ true
    → (is_module t ≡ true) ⊎ (list_all is_no_mark m ≡ true) → Follows t is_word last (m ++ ys) zs
    → Unshifted t is_word last m ys zs
unshift t is_word last [] ys zs plain marks w =
    record { left = zs; whole = refl; here = λ _. w; behind = λ some. absurd (some refl) }
unshift t is_word last (c ∷ m) ys zs plain marks same =
    record { left = ys; whole = refl; here = λ none. absurd (cc); behind = λ _. same }
unshift t is_word last (c ∷ m) ys zs plain marks (kept word d {zs = zs'} w) =
    let plains = and_parts (is_plain_character c) (list_all is_plain_character m) plain in
    let later =
    unshift t word c m ys zs' plains.1
    (elim marks [
      | inl module_is ↦ inl module_is
      | inr all ↦ inr (and_parts (is_no_mark c) (list_all is_no_mark m) all).1
    ])
    w in
    record {
      left = later.left;
      whole = ap (λ z. c ∷ z) later.whole;
      here = λ none. absurd (cc);
      behind = λ _. by_text m later.here later.behind;
    }
  where
    by_text : {left : List ℕ} (m : List ℕ) → (m ≡ [] → Follows t word c ys left)
        → (m ≢ [] → Follows t false (last_character m) ys left) → Follows t false (last_character (c ∷ m)) ys left
    by_text {left = left} [] here behind = as_no_word t word c ys left (here refl)
    by_text (x ∷ m) here behind = behind (λ no. absurd (cc))
unshift t is_word last (c ∷ m) ys zs plain marks (line_end g) =
    no_gap t c (m ++ ys) (and_parts (is_plain_character c) (list_all is_plain_character m) plain).0
    (elim marks [
      | inl module_is ↦ inl module_is
      | inr all ↦ inr (and_parts (is_no_mark c) (list_all is_no_mark m) all).0
    ]) g
unshift t is_word last (c ∷ m) ys zs plain marks (space g f) =
    no_gap t c (m ++ ys) (and_parts (is_plain_character c) (list_all is_plain_character m) plain).0
    (elim marks [
      | inl module_is ↦ inl module_is
      | inr all ↦ inr (and_parts (is_no_mark c) (list_all is_no_mark m) all).0
    ]) g
unshift t is_word last (c ∷ m) ys zs plain marks (joined d g f apart) =
    no_gap t c (m ++ ys) (and_parts (is_plain_character c) (list_all is_plain_character m) plain).0
    (elim marks [
      | inl module_is ↦ inl module_is
      | inr all ↦ inr (and_parts (is_no_mark c) (list_all is_no_mark m) all).0
    ]) g
unshift t is_word last (c ∷ m) ys zs plain marks (nothing_left g f) =
    no_gap t c (m ++ ys) (and_parts (is_plain_character c) (list_all is_plain_character m) plain).0
    (elim marks [
      | inl module_is ↦ inl module_is
      | inr all ↦ inr (and_parts (is_no_mark c) (list_all is_no_mark m) all).0
    ]) g

-- The token goes on: what was read of it has more characters, or the same.
longer_future : (text : List ℕ) (t : SourceType) (token : TokenParts) (row : Row) (rows : List Row) (m : List ℕ)
    → first_reads row ≡ false → characters text row.token ≡ characters text token ++ m
    → from_place text token.end ≡ m ++ from_place text row.token.end
    → (m ≡ [] → ends_as_word token.kind (last_character (characters text token)) ≡ false)
    → (characters text row.token ≡ [] → ⊥) → Future text t row.token rows → Future text t token (row ∷ rows)
longer_future text t token row rows m again whole behind no_word some f = record {
  zs = m ++ f.zs;
  whole =
      rw again
      (f.whole ∙ ap (λ z. z ++ f.zs) whole ∙ append_assoc (characters text token) m f.zs);
  follows =
      subst (λ h. FollowsToken t token.kind (characters text token) h (m ++ f.zs)) (sym behind)
      (by_text m whole no_word);
  final_some = rw again (λ none. absurd (some (f.final_some none)));
}
  where
    ys : List ℕ
    ys = from_place text row.token.end

    by_text : (m : List ℕ) → characters text row.token ≡ characters text token ++ m
        → (m ≡ [] → ends_as_word token.kind (last_character (characters text token)) ≡ false)
        → FollowsToken t token.kind (characters text token) (m ++ ys) (m ++ f.zs)
    by_text [] e none =
        let last = last_character (characters text token) in
        let one : characters text row.token ≡ characters text token = e ∙ append-nil (characters text token) in
        subst (λ b. Follows t b last ys f.zs) (sym (none refl))
        (as_no_word t (ends_as_word row.token.kind last) last ys f.zs
        (subst (λ z. FollowsToken t row.token.kind z ys f.zs) one f.follows))
    by_text (x ∷ m) e none =
        let last : last_character (characters text row.token) ≡ last_character (x ∷ m) =
        ap last_character e ∙ last_of_both (characters text token) x m in
        kept_before t (ends_as_word token.kind (last_character (characters text token)))
        (last_character (characters text token)) (x ∷ m) ys f.zs
        (ends_as_word row.token.kind (last_character (x ∷ m))) (λ no. absurd (cc))
        (subst (λ l. Follows t (ends_as_word row.token.kind l) l ys f.zs) last f.follows)

-- The token is cut: what was read of it has fewer characters.
shorter_future : (text : List ℕ) (t : SourceType) (token : TokenParts) (row : Row) (rows : List Row) (c : ℕ) (m : List ℕ)
    → first_reads row ≡ false → characters text token ≡ characters text row.token ++ c ∷ m
    → from_place text row.token.end ≡ (c ∷ m) ++ from_place text token.end
    → ends_as_word token.kind (last_character (characters text token)) ≡ false
    → list_all is_plain_character (c ∷ m) ≡ true → (is_module t ≡ true) ⊎ (list_all is_no_mark (c ∷ m) ≡ true)
    → (characters text row.token ≡ [] → ⊥) → Future text t row.token rows → Future text t token (row ∷ rows)
shorter_future text t token row rows c m again whole behind no_word plain marks some f =
    let last = last_character (characters text row.token) in
    let there =
    unshift t (ends_as_word row.token.kind last) last (c ∷ m) (from_place text token.end) f.zs plain marks
    (subst (λ h. FollowsToken t row.token.kind (characters text row.token) h f.zs) behind f.follows) in
    let same_last : last_character (characters text token) ≡ last_character (c ∷ m) =
    ap last_character whole ∙ last_of_both (characters text row.token) c m in
    record {
      zs = there.left;
      whole =
          rw again
          (f.whole ∙ ap (λ z. characters text row.token ++ z) there.whole
          ∙ sym (append_assoc (characters text row.token) (c ∷ m) there.left) ∙ ap (λ z. z ++ there.left) (sym whole));
      follows =
          subst (λ b. Follows t b (last_character (characters text token)) (from_place text token.end) there.left)
          (sym no_word)
          (subst (λ l. Follows t false l (from_place text token.end) there.left) (sym same_last)
          (there.behind (λ no. absurd (cc))));
      final_some = rw again (λ none. absurd (some (f.final_some none)));
    }

-- What a kind is spelled with: it ends as no word, and behind its first character no gap begins in it.
abbrev has_no_word : Kind → Bool
has_no_word k = not (ends_as_word k (last_character (kind_text k)))

abbrev is_plain_behind : Kind → Bool
is_plain_behind k = list_all is_plain_character (drop 1 (kind_text k))

abbrev has_no_mark_behind : Kind → Bool
has_no_mark_behind k = list_all is_no_mark (drop 1 (kind_text k))

record AreCut (kinds : List Kind) : Type 0 where
  no_word : list_all has_no_word kinds ≡ true
  plain : list_all is_plain_behind kinds ≡ true

cut_kinds : AreCut (again_kinds TemplateTail) × AreCut (again_kinds RegularExpression) × AreCut (again_kinds RightAngle)
    × AreCut (again_kinds TypeScriptLeftAngle) × AreCut (again_kinds TypeScriptRightAngle)
unfolding is_identifier_part is_identifier_name unicode_ident is_white_space is_irregular_whitespace is_line_terminator
cut_kinds = (
  record { no_word = refl; plain = refl },
  record { no_word = refl; plain = refl },
  record { no_word = refl; plain = refl },
  record { no_word = refl; plain = refl },
  record { no_word = refl; plain = refl },
)

behind_front : (p : ℕ → Bool) (xs m : List ℕ) → (xs ≡ [] → ⊥) → list_all p (drop 1 (xs ++ m)) ≡ true
    → list_all p m ≡ true
behind_front p [] m some all = absurd (some refl)
behind_front p (x ∷ xs) m some all = later xs m all
  where
    later : (xs m : List ℕ) → list_all p (xs ++ m) ≡ true → list_all p m ≡ true
    later [] m all = all
    later (x ∷ xs) m all = later xs m (and_parts (p x) (list_all p (xs ++ m)) all).1

-- a token of a stretch is not empty
pub some_characters : (text : List ℕ) (token : TokenParts) → IsUtf8 text → IsOnPlaces text token
    → token.start < token.end → characters text token ≡ [] → ⊥
some_characters text token u lies more none =
    let here : from_place text token.start ≡ characters text token ++ from_place text token.end =
    characters_here text token u lies in
    let far = place_past text token.start token.end (characters text token) u lies.start lies.end here in
    let empty : length (encode_utf8_all (characters text token)) ≡ 0 =
    ap (λ (z : List ℕ). length (encode_utf8_all z)) none in
    omega (arith, more, far, empty)

by_kinds : (text : List ℕ) (t : SourceType) (kinds : List Kind) (token : TokenParts) (row : Row) (rows : List Row)
    → IsUtf8 text → first_reads row ≡ false → AreCut kinds
    → (is_module t ≡ true) ⊎ (list_all has_no_mark_behind kinds ≡ true) → is_one_of kinds token.kind ≡ true
    → characters text token ≡ kind_text token.kind → IsOnPlaces text token → IsOnPlaces text row.token
    → row.token.start ≡ token.start → (characters text row.token ≡ [] → ⊥) → Future text t row.token rows
    → Future text t token (row ∷ rows)
by_kinds text t kinds token row rows u again cut marks is spelled lies row_lies start some f =
    let both : characters text token ++ from_place text token.end
    ≡ characters text row.token ++ from_place text row.token.end =
    sym (characters_here text token u lies) ∙ ap (from_place text) (sym start) ∙ characters_here text row.token u row_lies in
    let no_word : ends_as_word token.kind (last_character (characters text token)) ≡ false =
    ap (λ z. ends_as_word token.kind (last_character z)) spelled
    ∙ not_true (ends_as_word token.kind (last_character (kind_text token.kind)))
    (one_passes has_no_word kinds token.kind cut.no_word is) in
    elim (cut_twice (characters text token) (characters text row.token) (from_place text token.end)
    (from_place text row.token.end) both) [
      | inl longer ↦
          longer_future text t token row rows longer.0 again longer.1 longer.2 (λ _. no_word) some f
      | inr shorter ↦ by_text no_word shorter.0 shorter.1 shorter.2
    ]
  where
    by_text : ends_as_word token.kind (last_character (characters text token)) ≡ false → (m : List ℕ)
        → characters text token ≡ characters text row.token ++ m
        → from_place text row.token.end ≡ m ++ from_place text token.end → Future text t token (row ∷ rows)
    by_text no_word [] whole behind =
        longer_future text t token row rows [] again
        (sym (whole ∙ append-nil (characters text row.token)) ∙ sym (append-nil (characters text token))) (sym behind)
        (λ _. no_word) some f
    by_text no_word (c ∷ m) whole behind =
        let text_is : kind_text token.kind ≡ characters text row.token ++ c ∷ m = sym spelled ∙ whole in
        shorter_future text t token row rows c m again whole behind no_word
        (behind_front is_plain_character (characters text row.token) (c ∷ m) some
        (subst (λ z. list_all is_plain_character (drop 1 z) ≡ true) text_is
        (one_passes is_plain_behind kinds token.kind cut.plain is)))
        (elim marks [
          | inl module_is ↦ inl module_is
          | inr all ↦ inr
              (behind_front is_no_mark (characters text row.token) (c ∷ m) some
              (subst (λ z. list_all is_no_mark (drop 1 z) ≡ true) text_is
              (one_passes has_no_mark_behind kinds token.kind all is)))
        ])
        some f

-- the characters of a name of JSX are those of the name that it goes on with, and more
name_characters : (text : List ℕ) (token : TokenParts) (row : Row) → IsUtf8 text → IsOnPlaces text token
    → IsOnPlaces text row.token → row.token.start ≡ token.start → (read : ReadsJsxName text token (outcome_of row))
    → characters text row.token ≡ characters text token ++ (name_cut text token (outcome_of row) read).0
name_characters text token row u lies row_lies start read =
    let cut = name_cut text token (outcome_of row) read in
    append_cancel_right (characters text row.token) (characters text token ++ cut.0) (from_place text row.token.end)
    (sym (characters_here text row.token u row_lies) ∙ ap (from_place text) start ∙ characters_here text token u lies
    ∙ ap (λ z. characters text token ++ z) cut.1
    ∙ sym (append_assoc (characters text token) cut.0 (from_place text row.token.end)))

-- what is read of a token again is not empty
pub again_some_characters : (text : List ℕ) (t : SourceType) (goal : Goal) (token : TokenParts) (row : Row)
    → IsUtf8 text → is_onward goal ≡ false → IsQuiet row → IsOnPlaces text token → IsOnPlaces text row.token
    → row.token.start ≡ token.start → GoalReads text t goal (Some token) token.start (outcome_of row)
    → characters text row.token ≡ [] → ⊥
again_some_characters text t goal token row u off quiet token_lies lies start read = by_goal goal off read
  where
    spelled : (goal : Goal) → is_onward goal ≡ false → goal ≢ JsxIdentifier
        → GoalReads text t goal (Some token) token.start (outcome_of row) → characters text row.token ≡ [] → ⊥
    spelled goal off no_name read =
        some_characters text row.token u lies
        ((goal_reads_span text t goal (Some token) token.start (outcome_of row) u read).some_text
        (again_some text t goal token token.start (outcome_of row) off no_name read quiet))

    by_goal : (goal : Goal) → is_onward goal ≡ false → GoalReads text t goal (Some token) token.start (outcome_of row)
        → characters text row.token ≡ [] → ⊥
    by_goal First off read none = absurd (cc)
    by_goal Next off read none = absurd (cc)
    by_goal TemplateTail off read none = spelled TemplateTail off (λ no. absurd (cc)) read none
    by_goal RegularExpression off read none = spelled RegularExpression off (λ no. absurd (cc)) read none
    by_goal RightAngle off read none = spelled RightAngle off (λ no. absurd (cc)) read none
    by_goal TypeScriptLeftAngle off read none = spelled TypeScriptLeftAngle off (λ no. absurd (cc)) read none
    by_goal TypeScriptRightAngle off read none = spelled TypeScriptRightAngle off (λ no. absurd (cc)) read none
    by_goal JsxIdentifier off read none =
        let cut = name_cut text token (outcome_of row) read in
        let more = name_goes_on text token (outcome_of row) u read cut.0 cut.1 in
        let whole = name_characters text token row u token_lies lies start read in
        let lengths : length (characters text token ++ cut.0) ≡ 0 = ap length (sym whole ∙ none) in
        omega (arith, more, lengths, length-append (characters text token) cut.0)
    by_goal JsxChild off read none = absurd (cc)
    by_goal JsxAttributeValue off read none = absurd (cc)

-- A row that reads the token again.
pub again_future : (text : List ℕ) (t : SourceType) (goal : Goal) (token : TokenParts) (row : Row) (rows : List Row)
    → IsUtf8 text → is_onward goal ≡ false → (goal ≡ TypeScriptLeftAngle → is_module t ≡ true)
    → first_reads row ≡ false → IsQuiet row → IsOnPlaces text token → IsOnPlaces text row.token → HasSpelling text token
    → fits text goal token ≡ true → row.token.start ≡ token.start
    → GoalReads text t goal (Some token) token.start (outcome_of row) → Future text t row.token rows
    → Future text t token (row ∷ rows)
again_future text t goal token row rows u off in_module again quiet lies row_lies spelled fit start read f =
    by_goal goal off in_module fit read (again_some_characters text t goal token row u off quiet lies row_lies start read)
  where
    by_spelling : (goal : Goal) → is_one_of (again_kinds goal) token.kind ≡ true → AreCut (again_kinds goal)
        → (is_module t ≡ true) ⊎ (list_all has_no_mark_behind (again_kinds goal) ≡ true)
        → (characters text row.token ≡ [] → ⊥) → Future text t token (row ∷ rows)
    by_spelling goal is cut marks some =
        by_kinds text t (again_kinds goal) token row rows u again cut marks is
        (append_cancel_right (characters text token) (kind_text token.kind) (from_place text token.end)
        (sym (characters_here text token u lies) ∙ spelled (again_is_re_lexed goal token.kind is)))
        lies row_lies start some f

    by_goal : (goal : Goal) → is_onward goal ≡ false → (goal ≡ TypeScriptLeftAngle → is_module t ≡ true)
        → fits text goal token ≡ true → GoalReads text t goal (Some token) token.start (outcome_of row)
        → (characters text row.token ≡ [] → ⊥) → Future text t token (row ∷ rows)
    by_goal First off in_module fit read some = absurd (cc)
    by_goal Next off in_module fit read some = absurd (cc)
    by_goal TemplateTail off in_module fit read some = by_spelling TemplateTail fit cut_kinds.0 (inr refl) some
    by_goal RegularExpression off in_module fit read some =
        by_spelling RegularExpression fit cut_kinds.1 (inr refl) some
    by_goal RightAngle off in_module fit read some = by_spelling RightAngle fit cut_kinds.2 (inr refl) some
    by_goal TypeScriptLeftAngle off in_module fit read some =
        by_spelling TypeScriptLeftAngle fit cut_kinds.3 (inl (in_module refl)) some
    by_goal TypeScriptRightAngle off in_module fit read some =
        by_spelling TypeScriptRightAngle fit cut_kinds.4 (inr refl) some
    by_goal JsxIdentifier off in_module fit read some =
        let cut = name_cut text token (outcome_of row) read in
        let more = name_goes_on text token (outcome_of row) u read cut.0 cut.1 in
        let whole = name_characters text token row u lies row_lies start read in
        longer_future text t token row rows cut.0 again whole cut.1
        (λ none. absurd (let empty : length cut.0 ≡ 0 = ap length none in omega (arith, more, empty))) some f
    by_goal JsxChild off in_module fit read some = absurd (cc)
    by_goal JsxAttributeValue off in_module fit read some = absurd (cc)
