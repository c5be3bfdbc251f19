-- The rows of a session over a text, and of one over another text in which the same characters are read.
use Rattle.std.proofs.Common.{◌≡◌, ◌≢◌, ℕ, ◌<◌, Bool, true, false, ◌&&◌, List, [], ◌∷◌, ◌++◌, length}
use Rattle.std.proofs.Common.{refl, sym, ◌∙◌, ap, subst, arith, append_assoc, Option, Some, None}
use Rattle.std.specs.Prelude.{◌==◌, ◌||◌, MatchBool}
use Rattle.std.specs.Option.{option_map}
use Rattle.std.specs.Str.{IsCharBoundary, IsUtf8, encode_utf8_all}
use Rattle.std.proofs.lemmas.Bool.{and_parts, eqb-true}
use Rattle.std.proofs.lemmas.List.{append_cancel_right}
use Rattle.std.proofs.lemmas.Str.{encodes-append}
use Rattle.js_text.specs.Ascii.{full_stop, hyphen_minus}
use Rattle.js_text.specs.Characters.{begins, from_place, is_identifier_part}
use Rattle.js_text.specs.declared.reg_exp_flags.RegexInfo.{RegexInfo}
use Rattle.js_text.specs.declared.source_type.SourceType.{SourceType}
use Rattle.js_text.specs.declared.value.RowValue.TheVariants.{Nothing}
use Rattle.js_text.proofs.TextLemmas.{rest_bytes}
use Rattle.js_kind.specs.Kinds.{is_identifier_name, is_one_of}
use Rattle.js_kind.specs.TokenParts.{TokenParts}
use Rattle.js_kind.specs.declared.kind.Kind.{Kind}
use Rattle.js_kind.specs.declared.kind.Kind.TheVariants.{PrivateIdentifier, RegExp}
use Rattle.js_grammar.specs.Goals.{GoalReads}
use Rattle.js_grammar.specs.Outcome.{Outcome}
use Rattle.js_grammar.specs.ReLexed.{again_kinds, fits}
use Rattle.js_grammar.specs.Reading.{moved_regex, moved_value}
use Rattle.js_grammar.specs.Reads.{is_onward}
use Rattle.js_grammar.specs.Values.{IsValueOf}
use Rattle.js_grammar.specs.declared.goal.Goal.{Goal}
use Rattle.js_grammar.specs.declared.goal.Goal.TheVariants.{First, Next, TemplateTail, RegularExpression, RightAngle}
use Rattle.js_grammar.specs.declared.goal.Goal.TheVariants.{TypeScriptLeftAngle, TypeScriptRightAngle, JsxIdentifier}
use Rattle.js_grammar.specs.declared.goal.Goal.TheVariants.{JsxChild, JsxAttributeValue}
use Rattle.js_grammar.proofs.GoalWays.{goal_reads_places}
use Rattle.js_grammar.proofs.Texts.{goal_reads_text}
use Rattle.js_grammar.proofs.Unique.{goal_reads_unique}
use Rattle.js_grammar.proofs.Values.{goal_reads_value}
use Rattle.js_lexer.specs.Lexer.{IsOnPlaces, token_or_default}
use Rattle.js_session.specs.SameRows.{SameRow, SameValue}
use Rattle.js_session.specs.declared.row.Row.{Row}
use Rattle.js_session.specs.declared.command.Effect.{Effect}
use Rattle.js_session.specs.declared.command.Effect.TheVariants.{Reads, ReLexes}
use Rattle.js_session.specs.Live.{State, after_row, last_live, outcome_of, place_behind_last}
use Rattle.js_session.specs.Report.{IsNotTaken, IsOfEffect, IsReLexed, IsRead}
use Rattle.js_rewrite.specs.Space.{begins_as_word, ends_as_word, is_operator}
use Rattle.js_rewrite.proofs.Following.{Follows, FollowsToken, Meets, begins_here, last_character}
use Rattle.js_rewrite.proofs.GoalsAlike.{GapsFor, GoalAlike, again_alike, append_cancel_left, name_cut}
use Rattle.js_rewrite.proofs.GoalsAlike.{name_goes_on, onward_alike}
use Rattle.js_rewrite.proofs.LastTokens.{IsLast, IsQuiet, Rewrites, again_starts, last_behind}
use Rattle.js_rewrite.proofs.ReadAlike.{ReadAlike, StandsAlike}
use Rattle.js_rewrite.proofs.SameValues.{SameBytes, same_value}

-- The bytes of a token that was read alike.
bytes_alike : (text other : List ℕ) (zs : List ℕ) (o p : Outcome) → IsUtf8 text → IsUtf8 other
    → IsCharBoundary text o.token.start → IsCharBoundary text o.token.end → IsCharBoundary other p.token.start
    → IsCharBoundary other p.token.end → (h : ReadAlike text other zs o p) → SameBytes text other o.token p.token
bytes_alike text other zs o p u v b d b' d' h =
    let xs = h.reading.taken in
    record {
      bytes = encode_utf8_all xs;
      rest = encode_utf8_all (from_place text o.token.end);
      left = encode_utf8_all (from_place other p.token.end);
      here =
          sym (rest_bytes text o.token.start u b) ∙ ap encode_utf8_all h.part
          ∙ encodes-append xs (from_place text o.token.end);
      there =
          sym (rest_bytes other p.token.start v b') ∙ ap encode_utf8_all h.other_part
          ∙ encodes-append xs (from_place other p.token.end);
      end = ap (λ (x : TokenParts). x.end) h.token_is;
      other_end = ap (λ (x : TokenParts). x.end) h.other_token;
    }

flags_moved : (p q : ℕ) (info : Option RegexInfo)
    → option_map (λ (i : RegexInfo). i.flags) (option_map (moved_regex p) info)
    ≡ option_map (λ (i : RegexInfo). i.flags) (option_map (moved_regex q) info)
flags_moved p q None = refl
flags_moved p q (Some info) = refl

-- Rows of outcomes that were read alike are the same.
pub rows_alike : (text other : List ℕ) (t : SourceType) (goal other_goal : Goal) (before there : Option TokenParts)
    (place q : ℕ) (zs : List ℕ) (a b : Row) → IsUtf8 text → IsUtf8 other → a.command ≡ b.command
    → a.taken ≡ b.taken → GoalReads text t goal before place (outcome_of a)
    → GoalReads other t other_goal there q (outcome_of b) → ReadAlike text other zs (outcome_of a) (outcome_of b)
    → SameRow text other a b
rows_alike text other t goal other_goal before there place q zs a b u v command taken is_read other_read h =
    let o = outcome_of a in
    let p = outcome_of b in
    let places = goal_reads_places text t goal before place o u is_read in
    let other_places = goal_reads_places other t other_goal there q p v other_read in
    let bytes =
    bytes_alike text other zs o p u v places.0 places.1 other_places.0 other_places.1 h in
    let kind : a.token.kind ≡ b.token.kind =
    ap (λ (x : TokenParts). x.kind) h.token_is ∙ sym (ap (λ (x : TokenParts). x.kind) h.other_token) in
    let escaped : a.token.escaped ≡ b.token.escaped =
    ap (λ (x : TokenParts). x.escaped) h.token_is ∙ sym (ap (λ (x : TokenParts). x.escaped) h.other_token) in
    let value =
    same_value text other a.token b.token h.reading.value bytes kind escaped
    (goal_reads_text text t goal before place o u is_read) (goal_reads_text other t other_goal there q p v other_read)
    (subst (IsValueOf text a.token) h.value_is (goal_reads_value text t goal before place o u is_read))
    (subst (IsValueOf other b.token) h.other_value (goal_reads_value other t other_goal there q p v other_read)) in
    record {
      command = command;
      taken = taken;
      kind = kind;
      is_on_new_line =
          ap (λ (x : TokenParts). x.is_on_new_line) h.token_is
          ∙ sym (ap (λ (x : TokenParts). x.is_on_new_line) h.other_token);
      escaped = escaped;
      has_separator =
          ap (λ (x : TokenParts). x.has_separator) h.token_is
          ∙ sym (ap (λ (x : TokenParts). x.has_separator) h.other_token);
      flags =
          ap (option_map (λ (i : RegexInfo). i.flags)) h.regex_is
          ∙ flags_moved a.token.start b.token.start h.reading.regex
          ∙ sym (ap (option_map (λ (i : RegexInfo). i.flags)) h.other_regex);
      value =
          subst (λ x. SameValue text other x b.value) (sym h.value_is)
          (subst (SameValue text other (moved_value a.token.start h.reading.value)) (sym h.other_value) value);
    }

-- The last live tokens of a session over a text, and of one over another text, where these characters are left behind it.
pub record Beside (text other : List ℕ) (t : SourceType) (s q : State) (token there : TokenParts) (zs : List ℕ) : Type 0
  where
    pub last : IsLast text s token
    pub other_last : IsLast other q there
    pub kind : token.kind ≡ there.kind
    pub is_on_new_line : token.is_on_new_line ≡ there.is_on_new_line
    pub escaped : token.escaped ≡ there.escaped
    pub has_separator : token.has_separator ≡ there.has_separator
    pub characters : List ℕ
    pub here : from_place text token.start ≡ characters ++ from_place text token.end
    pub there_is : from_place other there.start ≡ characters ++ from_place other there.end
    pub behind : from_place other there.end ≡ zs
    pub follows : FollowsToken t token.kind characters (from_place text token.end) zs

-- A row of each, which are the same, and what is behind them.
pub record StepAlike (text other : List ℕ) (t : SourceType) (effect : Effect) (s q : State) (a b : Row) (zs : List ℕ)
    : Type 0 where
  pub same : SameRow text other a b
  pub no_diagnostic : b.diagnostics ≡ []
  pub no_comment : b.comments ≡ []
  pub next : Beside text other t (after_row effect a s) (after_row effect b q) a.token b.token zs

-- where rows were read alike
stepped : (text other : List ℕ) (t : SourceType) (effect : Effect) (s q : State) (goal : Goal)
    (before there : Option TokenParts) (place p : ℕ) (a b : Row) (zs : List ℕ) → IsUtf8 text
    → IsUtf8 other → a.command ≡ b.command → a.taken ≡ b.taken → IsLast text (after_row effect a s) a.token
    → IsLast other (after_row effect b q) b.token → GoalReads text t goal before place (outcome_of a)
    → GoalReads other t goal there p (outcome_of b) → ReadAlike text other zs (outcome_of a) (outcome_of b)
    → (xs : List ℕ) → from_place text a.token.start ≡ xs ++ from_place text a.token.end
    → FollowsToken t a.token.kind xs (from_place text a.token.end) zs
    → StepAlike text other t effect s q a b zs
stepped text other t effect s q goal before there place p a b zs u v command taken last other_last is_read other_read h
    xs cut follows =
    let same =
    rows_alike text other t goal goal before there place p zs a b u v command taken is_read other_read h in
    let front : xs ≡ h.reading.taken =
    append_cancel_right xs h.reading.taken (from_place text a.token.end) (sym cut ∙ h.part) in
    record {
      same = same;
      no_diagnostic = h.no_diagnostic;
      no_comment = h.no_comment;
      next = record {
        last = last;
        other_last = other_last;
        kind = same.kind;
        is_on_new_line = same.is_on_new_line;
        escaped = same.escaped;
        has_separator = same.has_separator;
        characters = h.reading.taken;
        here = h.part;
        there_is = h.other_part;
        behind = h.behind;
        follows = subst (λ x. FollowsToken t a.token.kind x (from_place text a.token.end) zs) front follows;
      };
    }

-- a token fits a goal in the other text where it does not depend on what follows
fits_kind : (text other : List ℕ) (goal : Goal) (token there : TokenParts) → goal ≢ JsxIdentifier
    → token.kind ≡ there.kind → fits text goal token ≡ fits other goal there
fits_kind text other First token there no_name kind = ap (is_one_of (again_kinds First)) kind
fits_kind text other Next token there no_name kind = ap (is_one_of (again_kinds Next)) kind
fits_kind text other TemplateTail token there no_name kind = ap (is_one_of (again_kinds TemplateTail)) kind
fits_kind text other RegularExpression token there no_name kind = ap (is_one_of (again_kinds RegularExpression)) kind
fits_kind text other RightAngle token there no_name kind = ap (is_one_of (again_kinds RightAngle)) kind
fits_kind text other TypeScriptLeftAngle token there no_name kind = ap (is_one_of (again_kinds TypeScriptLeftAngle)) kind
fits_kind text other TypeScriptRightAngle token there no_name kind = ap (is_one_of (again_kinds TypeScriptRightAngle)) kind
fits_kind text other JsxIdentifier token there no_name kind = absurd (no_name refl)
fits_kind text other JsxChild token there no_name kind = ap (is_one_of (again_kinds JsxChild)) kind
fits_kind text other JsxAttributeValue token there no_name kind = ap (is_one_of (again_kinds JsxAttributeValue)) kind

-- a name that does not go on does not in the other text
no_hyphen : (text other : List ℕ) (t : SourceType) (s q : State) (token there : TokenParts) (zs : List ℕ)
    → Beside text other t s q token there zs → fits text JsxIdentifier token ≡ false
    → fits other JsxIdentifier there ≡ false
no_hyphen text other t s q token there zs h e =
    with_flag (is_identifier_name token.kind) (is_identifier_name there.kind)
    (begins (λ c. c == hyphen_minus) (from_place text token.end))
    (begins (λ c. c == hyphen_minus) (from_place other there.end)) (ap is_identifier_name h.kind)
    (λ name on.
    let last = last_character h.characters in
    begins_here (λ c. c == hyphen_minus) t true last (from_place text token.end) (from_place other there.end)
    (hyphen_meets last)
    (subst (Follows t true last (from_place text token.end)) (sym h.behind)
    (subst (λ b. Follows t b last (from_place text token.end) zs) (name_word token.kind last name) h.follows))
    on) e
  where
    name_word : (kind : Kind) (last : ℕ) → is_identifier_name kind ≡ true → ends_as_word kind last ≡ true
    name_word kind last e = by_part (is_identifier_part last) e
      where
        by_part : (b : Bool) → is_identifier_name kind ≡ true
            → (b || (is_identifier_name kind || is_one_of (PrivateIdentifier ∷ RegExp ∷ []) kind)) ≡ true
        by_part true f = refl
        by_part false f = rw f refl

    hyphen_meets : (last : ℕ) → Meets (λ c. c == hyphen_minus) true last
    hyphen_meets last = record {
      no_blank = (refl, refl);
      meet = λ c e. rw (eqb-true c hyphen_minus e)
          (any (begins_as_word hyphen_minus) (is_operator last && is_operator hyphen_minus)
          ((last == full_stop) && begins_as_word hyphen_minus));
    }
      where
        any : (a b f : Bool) → (a || (b || (true || f))) ≡ true
        any true b f = refl
        any false true f = refl
        any false false f = refl

    with_flag : (a b c d : Bool) → a ≡ b → (a ≡ true → d ≡ true → c ≡ true) → (a && c) ≡ false → (b && d) ≡ false
    with_flag true b true d same h e = absurd (cc)
    with_flag true b false true same h e = absurd (let no = h refl refl in cc)
    with_flag true b false false same h e = rw (sym same) refl
    with_flag false b c d same h e = rw (sym same) refl

-- and one that goes on does
a_hyphen : (text other : List ℕ) (t : SourceType) (s q : State) (token there : TokenParts) (place : ℕ) (o : Outcome)
    (zs left : List ℕ) → IsUtf8 text → Beside text other t s q token there left
    → GoalReads text t JsxIdentifier (Some token) place o
    → StandsAlike text other t o.token.kind token.start o.token.end there.start zs
    → fits text JsxIdentifier token ≡ true → fits other JsxIdentifier there ≡ true
a_hyphen text other t s q token there place o zs left u h is_read stands fit =
    let hyphen = λ (c : ℕ). c == hyphen_minus in
    let both = and_parts (is_identifier_name token.kind) (begins hyphen (from_place text token.end)) fit in
    let cut = name_cut text token o is_read in
    let m = cut.0 in
    let ys = from_place text o.token.end in
    let whole : stands.characters ≡ h.characters ++ m =
    append_cancel_right stands.characters (h.characters ++ m) ys
    (sym stands.here ∙ h.here ∙ ap (λ z. h.characters ++ z) cut.1 ∙ sym (append_assoc h.characters m ys)) in
    let there_is : from_place other there.end ≡ m ++ zs =
    append_cancel_left h.characters (from_place other there.end) (m ++ zs)
    (sym h.there_is ∙ stands.there_is ∙ ap (λ z. z ++ zs) whole ∙ append_assoc h.characters m zs) in
    rw (sym (ap is_identifier_name h.kind) ∙ both.0)
    (ap (begins hyphen) there_is
    ∙ begins_same hyphen m ys zs (name_goes_on text token o u is_read m cut.1)
    (sym (ap (begins hyphen) cut.1) ∙ both.1))
  where
    begins_same : (p : ℕ → Bool) (xs ys zs : List ℕ) → 0 < length xs → begins p (xs ++ ys) ≡ true
        → begins p (xs ++ zs) ≡ true
    begins_same p [] ys zs some e = absurd (omega (arith, some))
    begins_same p (x ∷ xs) ys zs some e = e

-- A step of each session.
pub read_step : (text other : List ℕ) (t : SourceType) (goal : Goal) (s q : State) (token there : TokenParts) (a b : Row)
    (left zs : List ℕ) → IsUtf8 text → IsUtf8 other → Rewrites t (Reads goal) → a.command ≡ b.command
    → Beside text other t s q token there left → IsQuiet a → a.place ≡ place_behind_last s.now
    → b.place ≡ place_behind_last q.now → IsOnPlaces text a.token → IsOnPlaces other b.token
    → IsRead text t s.now goal a → IsRead other t q.now goal b
    → GapsFor text other t (Some token) (Some there) token.end there.end (outcome_of a) zs
    → (goal ≡ JsxChild → StandsAlike text other t a.token.kind token.end a.token.end there.end zs)
    → (xs : List ℕ) → from_place text a.token.start ≡ xs ++ from_place text a.token.end
    → FollowsToken t a.token.kind xs (from_place text a.token.end) zs
    → StepAlike text other t (Reads goal) s q a b zs
read_step text other t goal s q token there a b left zs u v on command h quiet at other_at lies other_lies is other_is
    gaps stands xs cut follows =
    let place : a.place ≡ token.end = at ∙ ap (λ l. (token_or_default l).end) h.last.last_is in
    let other_place : b.place ≡ there.end = other_at ∙ ap (λ l. (token_or_default l).end) h.other_last.last_is in
    let read : GoalReads text t goal (Some token) token.end (outcome_of a) =
    subst (λ p. GoalReads text t goal (Some token) p (outcome_of a)) place
    (subst (λ l. GoalReads text t goal l a.place (outcome_of a)) h.last.last_is is.reads) in
    let other_read : GoalReads other t goal (Some there) there.end (outcome_of b) =
    subst (λ p. GoalReads other t goal (Some there) p (outcome_of b)) other_place
    (subst (λ l. GoalReads other t goal l b.place (outcome_of b)) h.other_last.last_is other_is.reads) in
    let g : GoalAlike text other zs t goal (Some there) there.end (outcome_of a) =
    onward_alike text other zs t goal token there token.end there.end (outcome_of a) v h.other_last.lies.end on.0 on.1
    on.2 read quiet gaps stands in
    let one : g.outcome ≡ outcome_of b =
    goal_reads_unique other t goal (Some there) there.end g.outcome (outcome_of b) v g.reads other_read in
    stepped text other t (Reads goal) s q goal (Some token) (Some there) token.end there.end a b zs u v command
    (is.taken ∙ sym other_is.taken)
    (last_behind text t (Reads goal) a s token on h.last lies is)
    (last_behind other t (Reads goal) b q there on h.other_last other_lies other_is) read other_read
    (subst (ReadAlike text other zs (outcome_of a)) one g.alike) xs cut follows

re_lexed_step : (text other : List ℕ) (t : SourceType) (goal : Goal) (s q : State) (token there : TokenParts)
    (a b : Row) (left zs : List ℕ) → IsUtf8 text → IsUtf8 other → Rewrites t (ReLexes goal)
    → a.command ≡ b.command → Beside text other t s q token there left → IsQuiet a
    → IsLast text (after_row (ReLexes goal) a s) a.token → IsLast other (after_row (ReLexes goal) b q) b.token
    → StandsAlike text other t a.token.kind token.start a.token.end there.start zs
    → IsReLexed text t s.now goal a → IsReLexed other t q.now goal b
    → StepAlike text other t (ReLexes goal) s q a b zs
re_lexed_step text other t goal s q token there a b left zs u v on command h quiet last other_last stands is other_is =
    let read : GoalReads text t goal (Some token) token.start (outcome_of a) =
    subst (λ l. GoalReads text t goal l (token_or_default l).start (outcome_of a)) h.last.last_is is.reads in
    let other_read : GoalReads other t goal (Some there) there.start (outcome_of b) =
    subst (λ l. GoalReads other t goal l (token_or_default l).start (outcome_of b)) h.other_last.last_is
    other_is.reads in
    let starts = again_starts text t goal token token.start (outcome_of a) on.0 read in
    let g : GoalAlike text other zs t goal (Some there) there.start (outcome_of a) =
    again_alike text other zs t goal token there token.start there.start (outcome_of a) v on.0
    (record {
      start = h.other_last.lies.start;
      end = h.other_last.lies.end;
      ordered = h.other_last.lies.ordered;
      characters = h.characters;
      here = h.here;
      behind = h.there_is;
    })
    read quiet stands in
    let one : g.outcome ≡ outcome_of b =
    goal_reads_unique other t goal (Some there) there.start g.outcome (outcome_of b) v g.reads other_read in
    stepped text other t (ReLexes goal) s q goal (Some token) (Some there) token.start there.start a b zs u v
    command (is.taken ∙ sym other_is.taken) last other_last read other_read
    (subst (ReadAlike text other zs (outcome_of a)) one g.alike) stands.characters
    (ap (from_place text) starts.start_is ∙ stands.here) stands.follows

not_taken_step : (text other : List ℕ) (t : SourceType) (goal : Goal) (s q : State) (token there : TokenParts)
    (a b : Row) (zs : List ℕ) → a.command ≡ b.command → Beside text other t s q token there zs
    → IsLast text (after_row (ReLexes goal) a s) a.token → IsLast other (after_row (ReLexes goal) b q) b.token
    → IsNotTaken s.now a → IsNotTaken q.now b → StepAlike text other t (ReLexes goal) s q a b zs
not_taken_step text other t goal s q token there a b zs command h last other_last is other_is =
    let same : a.token ≡ token = is.token ∙ ap token_or_default h.last.last_is in
    let other_same : b.token ≡ there = other_is.token ∙ ap token_or_default h.other_last.last_is in
    let kind : a.token.kind ≡ b.token.kind =
    ap (λ (x : TokenParts). x.kind) same ∙ h.kind ∙ sym (ap (λ (x : TokenParts). x.kind) other_same) in
    let line : a.token.is_on_new_line ≡ b.token.is_on_new_line =
    ap (λ (x : TokenParts). x.is_on_new_line) same ∙ h.is_on_new_line
    ∙ sym (ap (λ (x : TokenParts). x.is_on_new_line) other_same) in
    let escaped : a.token.escaped ≡ b.token.escaped =
    ap (λ (x : TokenParts). x.escaped) same ∙ h.escaped
    ∙ sym (ap (λ (x : TokenParts). x.escaped) other_same) in
    let separator : a.token.has_separator ≡ b.token.has_separator =
    ap (λ (x : TokenParts). x.has_separator) same ∙ h.has_separator
    ∙ sym (ap (λ (x : TokenParts). x.has_separator) other_same) in
    record {
      same = record {
        command = command;
        taken = is.taken ∙ sym other_is.taken;
        kind = kind;
        is_on_new_line = line;
        escaped = escaped;
        has_separator = separator;
        flags =
            ap (option_map (λ (i : RegexInfo). i.flags)) is.regex
            ∙ sym (ap (option_map (λ (i : RegexInfo). i.flags)) other_is.regex);
        value =
            subst (λ x. SameValue text other x b.value) (sym is.value)
            (subst (SameValue text other Nothing) (sym other_is.value) (record { bad = refl; units = refl }));
      };
      no_diagnostic = ap (λ f. f.diagnostics) other_is.findings;
      no_comment = ap (λ f. f.comments) other_is.findings;
      next = record {
        last = last;
        other_last = other_last;
        kind = kind;
        is_on_new_line = line;
        escaped = escaped;
        has_separator = separator;
        characters = h.characters;
        here =
            subst
            (λ (x : TokenParts). from_place text x.start ≡ h.characters ++ from_place text x.end) (sym same) h.here;
        there_is =
            subst
            (λ (x : TokenParts). from_place other x.start ≡ h.characters ++ from_place other x.end) (sym other_same)
            h.there_is;
        behind = ap (λ (x : TokenParts). from_place other x.end) other_same ∙ h.behind;
        follows =
            subst (λ (x : TokenParts). FollowsToken t x.kind h.characters (from_place text x.end) zs) (sym same)
            h.follows;
      };
    }

-- Whether the token fits is the same in both texts.
record Fitting (text other : List ℕ) (t : SourceType) (goal : Goal) (s q : State) (token there : TokenParts) (a : Row)
    (left : List ℕ) (fit : Bool) : Type 0 where
  beside : Beside text other t s q token there left
  fits_here : fits text goal token ≡ fit
  read : fit ≡ true → GoalReads text t goal (Some token) token.start (outcome_of a)
  zs : List ℕ
  stands : fit ≡ true → StandsAlike text other t a.token.kind token.start a.token.end there.start zs

by_kind_alone : (text other : List ℕ) (t : SourceType) (goal : Goal) (s q : State) (token there : TokenParts) (a : Row)
    (left : List ℕ) (fit : Bool) → goal ≢ JsxIdentifier
    → Fitting text other t goal s q token there a left fit → fits other goal there ≡ fit
by_kind_alone text other t goal s q token there a left fit no_name f =
    sym (fits_kind text other goal token there no_name f.beside.kind) ∙ f.fits_here

fits_alike : (text other : List ℕ) (t : SourceType) (goal : Goal) (s q : State) (token there : TokenParts) (a : Row)
    (left : List ℕ) (fit : Bool) → IsUtf8 text → is_onward goal ≡ false
    → Fitting text other t goal s q token there a left fit → fits other goal there ≡ fit
fits_alike text other t First s q token there a left fit u off f = absurd (cc)
fits_alike text other t Next s q token there a left fit u off f = absurd (cc)
fits_alike text other t TemplateTail s q token there a left fit u off f =
    by_kind_alone text other t TemplateTail s q token there a left fit (λ no. absurd (cc)) f
fits_alike text other t RegularExpression s q token there a left fit u off f =
    by_kind_alone text other t RegularExpression s q token there a left fit (λ no. absurd (cc)) f
fits_alike text other t RightAngle s q token there a left fit u off f =
    by_kind_alone text other t RightAngle s q token there a left fit (λ no. absurd (cc)) f
fits_alike text other t TypeScriptLeftAngle s q token there a left fit u off f =
    by_kind_alone text other t TypeScriptLeftAngle s q token there a left fit (λ no. absurd (cc)) f
fits_alike text other t TypeScriptRightAngle s q token there a left fit u off f =
    by_kind_alone text other t TypeScriptRightAngle s q token there a left fit (λ no. absurd (cc)) f
fits_alike text other t JsxIdentifier s q token there a left true u off f =
    a_hyphen text other t s q token there token.start (outcome_of a) f.zs left u f.beside (f.read refl) (f.stands refl)
    f.fits_here
fits_alike text other t JsxIdentifier s q token there a left false u off f =
    no_hyphen text other t s q token there left f.beside f.fits_here
fits_alike text other t JsxChild s q token there a left fit u off f = absurd (cc)
fits_alike text other t JsxAttributeValue s q token there a left fit u off f = absurd (cc)

pub re_lex_step : (text other : List ℕ) (t : SourceType) (goal : Goal) (s q : State) (token there : TokenParts)
    (a b : Row) (left zs : List ℕ) → IsUtf8 text → IsUtf8 other → Rewrites t (ReLexes goal)
    → a.command ≡ b.command → Beside text other t s q token there left → IsQuiet a
    → IsLast text (after_row (ReLexes goal) a s) a.token → IsLast other (after_row (ReLexes goal) b q) b.token
    → (a.taken ≡ true → StandsAlike text other t a.token.kind token.start a.token.end there.start zs)
    → (a.taken ≡ false → left ≡ zs)
    → IsOfEffect text t s.now (ReLexes goal) a → IsOfEffect other t q.now (ReLexes goal) b
    → StepAlike text other t (ReLexes goal) s q a b zs
re_lex_step text other t goal s q token there a b left zs u v on command h quiet last other_last stands same_left is
    other_is =
    by_flag (fits text goal (token_or_default (last_live s.now))) refl is
  where
    there_fits : (fit : Bool) → fits text goal (token_or_default (last_live s.now)) ≡ fit
        → (fit ≡ true → GoalReads text t goal (Some token) token.start (outcome_of a))
        → (fit ≡ true → a.taken ≡ true)
        → MatchBool fit (IsReLexed other t q.now goal b) (IsNotTaken q.now b)
    there_fits fit e read taken =
        let here : fits text goal token ≡ fit =
        ap (λ x. fits text goal (token_or_default x)) (sym h.last.last_is) ∙ e in
        let same =
        fits_alike text other t goal s q token there a left fit u on.0
        (record { beside = h; fits_here = here; read = read; zs = zs; stands = λ f. stands (taken f) }) in
        subst (λ f. MatchBool f (IsReLexed other t q.now goal b) (IsNotTaken q.now b))
        (ap (λ x. fits other goal (token_or_default x)) h.other_last.last_is ∙ same) other_is

    by_flag : (fit : Bool) → fits text goal (token_or_default (last_live s.now)) ≡ fit
        → MatchBool fit (IsReLexed text t s.now goal a) (IsNotTaken s.now a)
        → StepAlike text other t (ReLexes goal) s q a b zs
    by_flag true e here =
        re_lexed_step text other t goal s q token there a b left zs u v on command h quiet last other_last
        (stands here.taken) here
        (there_fits true e
        (λ _. subst (λ l. GoalReads text t goal l (token_or_default l).start (outcome_of a)) h.last.last_is here.reads)
        (λ _. here.taken))
    by_flag false e here =
        not_taken_step text other t goal s q token there a b zs command
        (subst (Beside text other t s q token there) (same_left here.taken) h) last other_last here
        (there_fits false e (λ no. absurd (cc)) (λ no. absurd (cc)))
