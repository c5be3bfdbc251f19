-- What is read of regular expressions, angles and parts of JSX.
use Rattle.std.proofs.Common.{◌≡◌, ℕ, ◌+◌, ◌-◌, ◌<◌, ◌≤◌, Bool, true, false, ◌==◌, List, [], ◌∷◌, ◌++◌, drop}
use Rattle.std.proofs.Common.{refl, sym, ◌∙◌, ap, subst, append-nil, arith, Option, Some, None, inl, inr}
use Rattle.std.specs.Prelude.{IfSome, take}
use Rattle.std.specs.List.{list_all}
use Rattle.std.specs.Str.{IsCharBoundary, IsUtf8, chars}
use Rattle.std.proofs.lemmas.Str.{IsUtf8-between, chars-append}
use Rattle.js_text.specs.Ascii.{greater_than_sign, hyphen_minus, less_than_sign, slash}
use Rattle.js_text.specs.Characters.{begins, from_place}
use Rattle.js_text.specs.declared.diagnostic.Diagnostic.{Diagnostic}
use Rattle.js_text.specs.declared.reg_exp_flags.RegexInfo.{RegexInfo}
use Rattle.js_kind.specs.TokenParts.{TokenParts}
use Rattle.js_kind.specs.declared.kind.Kind.{Kind}
use Rattle.js_kind.specs.declared.kind.Kind.TheVariants.{Ident, LAngle, RAngle, RegExp}
use Rattle.js_grammar.specs.Angle.{angle_reading, first_left_angle, first_right_angle, right_angles}
use Rattle.js_grammar.specs.Goals.{GoalReads, ReadsAngle, ReadsFrom, line_has_ended_behind, with_warnings}
use Rattle.js_grammar.specs.Goals.{ReadsExpression as ExpressionReads}
use Rattle.js_grammar.specs.Jsx.{jsx_child_reading, jsx_name_reading, jsx_name_up_to, jsx_child_warnings}
use Rattle.js_grammar.specs.Outcome.{Outcome, no_findings, outcome_at}
use Rattle.js_grammar.specs.Reading.{Reading, read_up_to, reported_at, size_of}
use Rattle.js_grammar.specs.RegularExpression.{behind_body, regular_expression, regular_expression_reading}
use Rattle.js_grammar.specs.declared.goal.Goal.{Goal}
use Rattle.js_grammar.specs.declared.goal.Goal.TheVariants.{JsxChild, JsxIdentifier, RegularExpression, RightAngle}
use Rattle.js_grammar.specs.declared.goal.Goal.TheVariants.{TypeScriptLeftAngle, TypeScriptRightAngle}
use Rattle.js_grammar.proofs.GoalReadings.{IsRead, angle_is_read, angles, child_is_read, expression_read}
use Rattle.js_grammar.proofs.GoalReadings.{expression_terminated, expression_unterminated, is_angle, jsx_name_is_read}
use Rattle.js_grammar.proofs.GoalWays.{found_is_read, from_takes}
use Rattle.js_grammar.proofs.Marks.{one_byte}
use Rattle.js_grammar.proofs.NumberItems.{true_or_false}
use Rattle.js_grammar.proofs.NumberSound.{first_is}
use Rattle.js_grammar.proofs.Spans.{taken_end}
use Rattle.js_source.proofs.Places.{cut_between, at_boundary}
use Rattle.js_source.specs.Source.{At, rest, StepsFrom}
use Rattle.js_spell.specs.Goals.{SpellsAngle, SpellsJsxName}
use Rattle.js_spell.specs.RegularExpression.{SpellsExpression}
use Rattle.js_spell.specs.Spells.{ReadsAs}
use Rattle.js_spell.proofs.NumericSteps.{leads_to}
use Rattle.js_reader.specs.Goals.{ReadsExpression, ReadsNameOn}
use Rattle.js_reader.specs.Reader.{ReadsGoal, ReadsSilently, ReadsWithoutGap, read_token, ReadsWithGap}
use Rattle.js_reader.specs.declared.reader.Reader.{Reader}
use Rattle.js_text.specs.declared.span.Span.{Span}
use Rattle.js_reader.specs.Found.{Grows, lists_added}
use Rattle.js_reader.specs.declared.findings_builder.FindingsBuilder.{FindingsBuilder}
use Rattle.js_reader.proofs.TriviaSteps.{lists_none}

-- This was read of a token from the start on, without a flag, and the source stands behind it.
pub record ReadTo (text : List ℕ) (start : ℕ) (read : Option Reading) (found : Reading) (new : At) : Type 0 where
  pub same : new.text ≡ text
  pub boundary : IsCharBoundary text start
  pub read_is : read ≡ Some found
  pub left : found.rest ≡ rest new
  pub all : IfSome read (IsRead (from_place text start))

-- what is known of it
pub is_read : {text : List ℕ} {start : ℕ} {read : Option Reading} {found : Reading} {new : At}
    → ReadTo text start read found new → IsRead (from_place text start) found
is_read {text} {start} {read} {found} r = found_is_read (from_place text start) read found r.read_is r.all

-- the place of the source is where the token ends
pub ends_there : {text : List ℕ} {start : ℕ} {read : Option Reading} {found : Reading} {new : At}
    → ReadTo text start read found new → new.place ≡ start + size_of found
ends_there {text} {start} {found} {new} r =
    taken_end text start new.place found (subst IsUtf8 r.same new.placed.utf8) r.boundary
    (subst (λ (u : List ℕ). IsCharBoundary u new.place) r.same new.placed.boundary)
    (r.left ∙ ap (λ u. from_place u new.place) r.same) (is_read r).taken

-- and not before its start
pub goes_on : {text : List ℕ} {start : ℕ} {read : Option Reading} {found : Reading} {new : At}
    → ReadTo text start read found new → start ≤ new.place
goes_on r = omega (arith, ends_there r)

pub read_from : {text : List ℕ} {start : ℕ} {read : Option Reading} {found : Reading} {new : At}
    (line_has_ended : Bool) → ReadTo text start read found new
    → ReadsFrom text line_has_ended start read (outcome_at line_has_ended start found)
read_from {text} {start} {found} {new} line_has_ended r = record {
  begins = r.boundary;
  found = found;
  read_is = r.read_is;
  end =
      subst (IsCharBoundary text) (ends_there r)
      (subst (λ (u : List ℕ). IsCharBoundary u new.place) r.same new.placed.boundary);
  rest = r.left ∙ ap (λ u. from_place u new.place) r.same ∙ ap (from_place text) (ends_there r);
  outcome_is = refl;
}

-- the token of what was read
pub token_of : {text : List ℕ} {start : ℕ} {read : Option Reading} {found : Reading} {new : At}
    (line_has_ended : Bool) (kind : Kind) → ReadTo text start read found new → found.kind ≡ kind
    → read_token line_has_ended start new.place kind ≡ (outcome_at line_has_ended start found).token
token_of line_has_ended kind r kind_is =
    let is = is_read r in rw (ends_there r, is.line, is.escaped, is.separator, kind_is) refl

-- a reading of a goal, by what was read
abbrev pub goal_read : {read : Option Reading} {start : ℕ} {found : Reading} {told later : List Diagnostic}
    (goal : Goal) (before : Option TokenParts)
    (old new : Reader) (line_has_ended : Bool) (kind : Kind) (token : TokenParts)
    → ReadTo old.source.text start read found new.source
    → new.source_type ≡ old.source_type → token ≡ read_token line_has_ended start new.source.place kind
    → found.kind ≡ kind → later ≡ told ++ reported_at start found
    → GoalReads old.source.text old.source_type goal before old.source.place (outcome_at line_has_ended start found)
    → ReadsWithoutGap goal before old told token new later
goal_read {start} {found} goal before old new line_has_ended kind token to source_type is kind_is errors reads =
    record {
      read = record {
        text = to.same;
        source_type = source_type;
        end = sym (ap (λ t. t.end) is);
        outcome = outcome_at line_has_ended start found;
        token_is = is ∙ token_of line_has_ended kind to kind_is;
        reads = reads;
      };
      findings = refl;
      errors = errors;
    }

-- The source stands behind a mark with which a token starts.
pub record IsBehindMark (mark start : ℕ) (old : Reader) (mid : At) : Type 0 where
  pub boundary : IsCharBoundary old.source.text start
  pub same : mid.text ≡ old.source.text
  pub here : from_place old.source.text start ≡ mark ∷ rest mid

pub behind_mark : (mark start : ℕ) (old : Reader) (mid : At) → IsCharBoundary old.source.text start
    → begins (λ c. c == mark) (from_place old.source.text start) ≡ true
    → StepsFrom old.source.text start mid → IsBehindMark mark start old mid
behind_mark mark start old mid boundary begun past =
    let here = first_is mark (from_place old.source.text start) begun in
    let step = past mark (drop 1 (from_place old.source.text start)) here in
    record {
      boundary = boundary;
      same = step.0;
      here = here ∙ ap (λ t. mark ∷ t) (sym step.1);
    }

-- which is one byte
pub mark_passed : (mark start : ℕ) (old : Reader) (mid : At) → mark < 128 → IsBehindMark mark start old mid
    → start + 1 ≡ mid.place
mark_passed mark start old mid low behind =
    sym (leads_to (at_boundary old.source start behind.boundary) mid (mark ∷ [])
    behind.same
    behind.here
    ∙ ap (λ n. start + n) (one_byte mark low))

expression_kind : (behind : List ℕ) → (regular_expression behind).kind ≡ RegExp
expression_kind behind =
    elim (true_or_false (begins (λ c. c == slash) (behind_body behind))) [
      | inl e ↦ ap (λ r. r.kind) (expression_terminated (slash ∷ behind) (behind_body behind) e)
      | inr e ↦ ap (λ r. r.kind) (expression_unterminated (slash ∷ behind) (behind_body behind) e)
    ]

-- a regular expression
expression_to : {told later : List Diagnostic} (start : ℕ) (old new : Reader) (mid : At) (info : RegexInfo)
    → IsBehindMark slash start old mid
    → SpellsExpression (regular_expression (rest mid)) start mid new.source told later info
    → ReadTo old.source.text start (regular_expression_reading (from_place old.source.text start))
    (regular_expression (rest mid)) new.source
expression_to start old new mid info behind spells = record {
  same = spells.text ∙ behind.same;
  boundary = behind.boundary;
  read_is = ap regular_expression_reading behind.here;
  left = spells.left;
  all = expression_read (from_place old.source.text start);
}

pub expression_ordered : {told later : List Diagnostic} (start : ℕ) (old new : Reader) (mid : At) (info : RegexInfo)
    → IsBehindMark slash start old mid → SpellsExpression (regular_expression (rest mid)) start mid new.source told
    later info
    → start ≤ new.source.place
expression_ordered start old new mid info behind spells =
    goes_on (expression_to start old new mid info behind spells)

pub expression_goal : {told later : List Diagnostic} (start : ℕ) (old new : Reader) (mid : At) (info : RegexInfo)
    (token : TokenParts)
    → IsBehindMark slash start old mid → SpellsExpression (regular_expression (rest mid)) start mid new.source told
    later info
    → new.source_type ≡ old.source_type → token ≡ read_token false start new.source.place RegExp
    → (before : TokenParts) → before.start ≡ start
    → ReadsExpression before old told
    (record {
      token = token;
      pattern_end = info.pattern_end;
      flags = info.flags;
      flags_error = info.flags_error;
    })
    new later
expression_goal start old new mid info token behind spells source_type is before at =
    let to = expression_to start old new mid info behind spells in
    record {
      reads =
          goal_read RegularExpression (Some before) old new false RegExp token to source_type is
          (expression_kind (rest mid)) spells.reports
          (subst (λ (n : ℕ). ExpressionReads old.source.text n
          (outcome_at false start (regular_expression (rest mid)))) (sym at) (read_from false to));
      info = spells.info_is;
    }

-- angles
angle_to : (mark start : ℕ) (kinds : List Kind) (kind : Kind) (old new : Reader) (mid : At)
    → list_all is_angle kinds ≡ true → IsBehindMark mark start old mid → new.source.text ≡ mid.text
    → angle_reading kinds (mark ∷ rest mid) ≡ Some (read_up_to kind (mark ∷ rest mid) (rest new.source))
    → ReadTo old.source.text start (angle_reading kinds (from_place old.source.text start))
    (read_up_to kind (mark ∷ rest mid) (rest new.source)) new.source
angle_to mark start kinds kind old new mid are behind text read = record {
  same = text ∙ behind.same;
  boundary = behind.boundary;
  read_is = ap (angle_reading kinds) behind.here ∙ read;
  left = refl;
  all = angle_is_read kinds (from_place old.source.text start) are;
}

-- an angle that is read again
angle_read : (goal : Goal) (mark start : ℕ) (kinds : List Kind) (kind : Kind) (old new : Reader) (mid : At)
    (token before : TokenParts)
    → ReadTo old.source.text start (angle_reading kinds (from_place old.source.text start))
    (read_up_to kind (mark ∷ rest mid) (rest new.source)) new.source
    → new.source_type ≡ old.source_type
    → token ≡ read_token false start new.source.place kind → before.start ≡ start
    → ((o : Outcome) → ReadsAngle old.source.text kinds before.start o
    → GoalReads old.source.text old.source_type goal (Some before) old.source.place o)
    → ReadsSilently goal (Some before) old token new
angle_read goal mark start kinds kind old new mid token before to source_type is at reads told =
    let found = read_up_to kind (mark ∷ rest mid) (rest new.source) in
    goal_read goal (Some before) old new false kind token to source_type is refl (sym (append-nil told))
    (reads (outcome_at false start found)
    (subst (λ (n : ℕ). ReadsAngle old.source.text kinds n (outcome_at false start found)) (sym at)
    (read_from false to)))

pub angle_ordered : (start : ℕ) (old new : Reader) (mid : At) (kind : Kind)
    → IsBehindMark greater_than_sign start old mid → SpellsAngle mid new.source kind
    → start ≤ new.source.place
angle_ordered start old new mid kind behind spells =
    goes_on (angle_to greater_than_sign start right_angles kind old new mid angles.longest behind spells.text
    spells.read)

pub angle_goal : (start : ℕ) (old new : Reader) (mid : At) (kind : Kind) (token : TokenParts)
    → IsBehindMark greater_than_sign start old mid → SpellsAngle mid new.source kind
    → new.source_type ≡ old.source_type
    → token ≡ read_token false start new.source.place kind → (before : TokenParts) → before.start ≡ start
    → ReadsSilently RightAngle (Some before) old token new
angle_goal start old new mid kind token behind spells source_type is before at =
    angle_read RightAngle greater_than_sign start right_angles kind old new mid token before
    (angle_to greater_than_sign start right_angles kind old new mid angles.longest behind spells.text
    spells.read)
    source_type is at (λ o r. r)

pub left_angle_goal : (start : ℕ) (old new : Reader) (token : TokenParts)
    → IsBehindMark less_than_sign start old new.source → new.source_type ≡ old.source_type
    → token ≡ read_token false start new.source.place LAngle → (before : TokenParts) → before.start ≡ start
    → ReadsSilently TypeScriptLeftAngle (Some before) old token new
left_angle_goal start old new token behind source_type is before at =
    angle_read TypeScriptLeftAngle less_than_sign start first_left_angle LAngle old new new.source token before
    (angle_to less_than_sign start first_left_angle LAngle old new new.source angles.left behind refl refl)
    source_type is at (λ o r. r)

pub right_angle_goal : (start : ℕ) (old new : Reader) (token : TokenParts)
    → IsBehindMark greater_than_sign start old new.source → new.source_type ≡ old.source_type
    → token ≡ read_token false start new.source.place RAngle → (before : TokenParts) → before.start ≡ start
    → ReadsSilently TypeScriptRightAngle (Some before) old token new
right_angle_goal start old new token behind source_type is before at =
    angle_read TypeScriptRightAngle greater_than_sign start first_right_angle RAngle old new new.source token before
    (angle_to greater_than_sign start first_right_angle RAngle old new new.source angles.right behind refl
    refl) source_type is at (λ o r. r)

-- the characters between two places
between : (text : List ℕ) (start end : ℕ) → IsUtf8 text → IsCharBoundary text start → IsCharBoundary text end
    → start ≤ end → (part : List ℕ) × (from_place text start ≡ part ++ from_place text end)
between text start end utf8 first last ordered = (
  chars (take (end - start) (drop start text)),
  ap chars (sym (cut_between text start end ordered))
      ∙ chars-append (take (end - start) (drop start text)) (drop end text)
      (IsUtf8-between text start end utf8 ordered first last),
)

-- a name of JSX
name_to : (start : ℕ) (part : List ℕ) (old : Reader) (new : At) (end : ℕ) → IsCharBoundary old.source.text start
    → from_place old.source.text start ≡ part ++ from_place old.source.text end
    → end ≡ old.source.place → SpellsJsxName old.source new true
    → ReadTo old.source.text start (jsx_name_reading part (from_place old.source.text end))
    (jsx_name_up_to part (rest old.source) (rest new)) new
name_to start part old new end boundary here at spells = record {
  same = spells.0;
  boundary = boundary;
  read_is = ap (λ n. jsx_name_reading part (from_place old.source.text n)) at ∙ spells.1 part;
  left = refl;
  all =
      subst (λ h. IfSome (jsx_name_reading part (from_place old.source.text end)) (IsRead h)) (sym here)
      (jsx_name_is_read part (from_place old.source.text end));
}

pub name_ordered : (start : ℕ) (old : Reader) (new : At) → IsCharBoundary old.source.text start
    → start ≤ old.source.place → SpellsJsxName old.source new true
    → start ≤ new.place
name_ordered start old new boundary ordered spells =
    let part = between old.source.text start old.source.place old.source.placed.utf8 boundary
    old.source.placed.boundary ordered in
    goes_on (name_to start part.0 old new old.source.place boundary part.1 refl spells)

hyphen_there : (part text : List ℕ) (found : Reading) → jsx_name_reading part text ≡ Some found
    → begins (λ c. c == hyphen_minus) text ≡ true
hyphen_there part text found e =
    elim (true_or_false (begins (λ c. c == hyphen_minus) text)) [
      | inl is ↦ is
      | inr none ↦ absurd (let no : None ≡ Some found = sym (missing text none) ∙ e in cc)
    ]
  where
    missing : (text : List ℕ) → begins (λ c. c == hyphen_minus) text ≡ false → jsx_name_reading part text ≡ None
    missing text none = rw none refl

-- where no `-` is next, no name goes on
pub no_hyphen : (text : List ℕ) → jsx_name_reading [] text ≡ None → begins (λ c. c == hyphen_minus) text ≡ false
no_hyphen text none =
    elim (true_or_false (begins (λ c. c == hyphen_minus) text)) [
      | inl is ↦ absurd (let no = rw is at none in cc)
      | inr other ↦ other
    ]

pub name_goal : (start : ℕ) (old new : Reader) (token : TokenParts) → IsCharBoundary old.source.text start
    → start ≤ old.source.place → SpellsJsxName old.source new.source true
    → new.source_type ≡ old.source_type
    → token ≡ read_token false start new.source.place Ident → ReadsNameOn start old (Some token) new
name_goal start old new token boundary ordered spells source_type is = (
  hyphen_there [] (rest old.source) (jsx_name_up_to [] (rest old.source) (rest new.source)) (spells.1 []),
  λ before at end told.
      let part = between old.source.text start before.end old.source.placed.utf8 boundary (there before end) (far
      before end) in
      let to = name_to start part.0 old new.source before.end boundary part.1 end spells in
      goal_read JsxIdentifier (Some before) old new false Ident token to source_type is refl
      (sym (append-nil told))
      (record {
        ordered = subst (λ (n : ℕ). n ≤ before.end) (sym at) (far before end);
        name_end = there before end;
        part = part.0;
        here = ap (from_place old.source.text) at ∙ part.1;
        reads =
            subst (λ (n : ℕ). ReadsFrom old.source.text false n
            (jsx_name_reading part.0 (from_place old.source.text before.end))
            (outcome_at false start (jsx_name_up_to part.0 (rest old.source) (rest new.source)))) (sym at)
            (read_from false to);
      }),
)
  where
    there : (before : TokenParts) → before.end ≡ old.source.place → IsCharBoundary old.source.text before.end
    there before end = subst (IsCharBoundary old.source.text) (sym end) old.source.placed.boundary

    far : (before : TokenParts) → before.end ≡ old.source.place → start ≤ before.end
    far before end = subst (λ (n : ℕ). start ≤ n) (sym end) ordered

-- what stands between two tags
child_to : {told later : List Diagnostic} (old new : Reader) (kind : Kind)
    → ReadsAs (jsx_child_reading (rest old.source)) old.source.place old.source new.source told later kind
    → ReadTo old.source.text old.source.place (Some (jsx_child_reading (rest old.source)))
    (jsx_child_reading (rest old.source)) new.source
child_to old new kind spells = record {
  same = spells.text;
  boundary = old.source.placed.boundary;
  read_is = refl;
  left = spells.left;
  all = child_is_read (rest old.source);
}

pub child_ordered : {told later : List Diagnostic} (old new : Reader) (kind : Kind)
    → ReadsAs (jsx_child_reading (rest old.source)) old.source.place old.source new.source told later kind
    → old.source.place ≤ new.source.place
child_ordered old new kind spells = goes_on (child_to old new kind spells)

-- what is found there
child_added : (found : FindingsBuilder) (later : List Diagnostic) (warned : List Span) (errors : List Diagnostic)
    (warnings : List Span) → later ≡ found.errors ++ errors → warned ≡ found.warnings ++ warnings
    → record found { errors = later; warnings = warned }
    ≡ lists_added (record no_findings { diagnostics = errors; warnings = warnings }) found
child_added found later warned errors warnings reports warns =
    rw (reports, warns)
    (ap (λ (f : FindingsBuilder).
    record f { errors = found.errors ++ errors; warnings = found.warnings ++ warnings }) (lists_none found))

pub child_grows : (found : FindingsBuilder) (later : List Diagnostic) (warned : List Span) (errors : List Diagnostic)
    (warnings : List Span) → later ≡ found.errors ++ errors → warned ≡ found.warnings ++ warnings
    → Grows found (record found { errors = later; warnings = warned })
child_grows found later warned errors warnings reports warns = record {
  more = record no_findings { diagnostics = errors; warnings = warnings };
  items = [];
  added = child_added found later warned errors warnings reports warns;
}

pub child_goal : (old new : Reader) (found : FindingsBuilder) (later : List Diagnostic) (warned : List Span)
    (kind : Kind) (token : TokenParts) → ReadsAs (jsx_child_reading (rest old.source)) old.source.place old.source
    new.source found.errors later kind
    → warned ≡ found.warnings ++ jsx_child_warnings old.source.place (rest old.source)
    → new.source_type ≡ old.source_type
    → token ≡ read_token old.line_has_ended old.source.place new.source.place kind
    → (before : Option TokenParts) → line_has_ended_behind before ≡ old.line_has_ended
    → ReadsWithGap JsxChild before old found token new (record found { errors = later; warnings = warned })
child_goal old new found later warned kind token spells warns source_type is before same =
    let read = jsx_child_reading (rest old.source) in
    let to = child_to old new kind spells in
    let child = outcome_at old.line_has_ended old.source.place read in
    record {
      read = record {
        text = to.same;
        source_type = source_type;
        end = sym (ap (λ t. t.end) is);
        outcome = with_warnings (jsx_child_warnings old.source.place (rest old.source)) child;
        token_is = is ∙ token_of old.line_has_ended kind to spells.kind_is;
        reads = record {
          child = child;
          reads =
              subst (λ b. ReadsFrom old.source.text b old.source.place (Some read) child) (sym same)
              (read_from old.line_has_ended to);
          outcome_is = refl;
        };
      };
      gap = record {
        pieces = [];
        have_bytes = tt;
        up_to = omega arith;
        comments = refl;
        irregular = refl;
        added =
            child_added found later warned (reported_at old.source.place read)
            (jsx_child_warnings old.source.place (rest old.source)) spells.reports warns;
      };
    }

-- which has no escape
pub child_unescaped : (before : Option TokenParts) (old new : Reader) (token : TokenParts)
    → ReadsGoal JsxChild before old token new → token.escaped ≡ false
child_unescaped before old new token r =
    let here = rest old.source in
    ap (λ t. t.escaped) r.token_is ∙ ap (λ o. o.token.escaped) r.reads.outcome_is
    ∙ (from_takes old.source.text (line_has_ended_behind before) old.source.place (Some (jsx_child_reading here))
    r.reads.child (child_is_read here) r.reads.reads).escaped
