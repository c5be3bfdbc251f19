-- The rows of a source and of the squeezed source are the same.
use Rattle.std.proofs.Common.{◌≡◌, ℕ, Bool, true, false, List, [], ◌∷◌, ◌++◌}
use Rattle.std.proofs.Common.{refl, sym, ◌∙◌, ap, subst, Some}
use Rattle.std.specs.List.{AllByRecursion, AllZip, list_all}
use Rattle.std.specs.Str.{IsUtf8}
use Rattle.std.proofs.lemmas.Bool.{and_parts, eq-eqb}
use Rattle.std.proofs.lemmas.List.{append_cancel_right}
use Rattle.js_text.specs.Characters.{from_place}
use Rattle.js_text.specs.declared.source_type.SourceType.{SourceType}
use Rattle.js_kind.specs.TokenParts.{TokenParts}
use Rattle.js_kind.specs.declared.kind.Kind.{Kind}
use Rattle.js_grammar.specs.Gap.{Piece, WholeGap}
use Rattle.js_grammar.specs.Goals.{GoalReads, line_has_ended_behind}
use Rattle.js_grammar.specs.Outcome.{gap_diagnostics}
use Rattle.js_grammar.specs.declared.goal.Goal.{Goal}
use Rattle.js_grammar.specs.declared.goal.Goal.TheVariants.{JsxChild}
use Rattle.js_lexer.specs.Lexer.{IsOnPlaces, token_or_default}
use Rattle.js_session.specs.SameRows.{SameRow}
use Rattle.js_session.specs.declared.command.Command.{Command}
use Rattle.js_session.specs.declared.row.Row.{Row}
use Rattle.js_session.specs.Effects.{effect_of, row_effect}
use Rattle.js_session.specs.declared.command.Effect.{Effect}
use Rattle.js_session.specs.declared.command.Effect.TheVariants.{Reads, Peeks, ReLexes, Opens, Rewinds, Commits}
use Rattle.js_session.specs.Live.{State, after_row, last_live, outcome_of, place_behind_last}
use Rattle.js_session.specs.Report.{IsOfEffect, Run}
use Rattle.js_session.proofs.LastingRuns.{lasting_steps}
use Rattle.js_rewrite.specs.Faults.{may_rewrite}
use Rattle.js_rewrite.proofs.BareRows.{IsBare}
use Rattle.js_rewrite.proofs.BlankGaps.{line_end_gap, no_gap, space_gap}
use Rattle.js_rewrite.proofs.GapsBefore.{child_starts, no_pieces}
use Rattle.js_rewrite.proofs.GoalsAlike.{GapsFor, append_cancel_left}
use Rattle.js_rewrite.proofs.LastTokens.{IsLast, IsQuiet, Rewrites, last_behind, lasting_of, not_taken_is, rewrites}
use Rattle.js_rewrite.proofs.LastTokens.{taken_starts}
use Rattle.js_rewrite.proofs.ReadAlike.{BlankGap, StandsAlike}
use Rattle.js_rewrite.proofs.RowsAlike.{Beside, StepAlike, re_lex_step, read_step}
use Rattle.js_squeeze.specs.SqueezeText.{first_reads, reads_on, separator_behind}
use Rattle.js_squeeze.proofs.Future.{EndsText, Future, IsSeparator, separator_is}
use Rattle.js_squeeze.proofs.Future.IsSeparator.{adjacent, a_line_end, a_space, nothing}
use Rattle.js_squeeze.proofs.Futures.{onward, row_ends_text}
use Rattle.js_squeeze.proofs.Written.{characters, characters_here, final, written}

-- The gap of the squeezed text before a token.
squeezed_gap : (text other : List ℕ) (t : SourceType) (there : TokenParts) (place q : ℕ) (row : Row)
    (pieces : List Piece) (has : Bool) (rest sep xs next : List ℕ) (kind : Kind)
    → WholeGap t false (from_place text place) pieces has (from_place text row.token.start)
    → gap_diagnostics place pieces ≡ [] → row.token.is_on_new_line ≡ has → row.place ≡ place
    → IsSeparator t row kind xs next sep → from_place other q ≡ sep ++ rest → BlankGap other t (Some there) q has rest
squeezed_gap text other t there place q row pieces has rest sep xs next kind gap quiet flag at (adjacent here) begun =
    no_gap other t (Some there) q has rest begun
    (no_pieces text t false place pieces has row.token.start gap.pieces_are quiet (here ∙ at))
squeezed_gap text other t there place q row pieces has rest sep xs next kind gap quiet flag at (a_line_end on) begun =
    line_end_gap other t (Some there) q has rest begun (sym flag ∙ on)
squeezed_gap text other t there place q row pieces has rest sep xs next kind gap quiet flag at (a_space off) begun =
    space_gap other t (Some there) q has rest begun (sym flag ∙ off)
squeezed_gap text other t there place q row pieces has rest sep xs next kind gap quiet flag at (nothing off none) begun =
    no_gap other t (Some there) q has rest begun (sym flag ∙ off)

-- the characters of a token are those that a session has of it
same_characters : (text other : List ℕ) (t : SourceType) (s q : State) (token there : TokenParts) (zs : List ℕ)
    → IsUtf8 text → (h : Beside text other t s q token there zs) → h.characters ≡ characters text token
same_characters text other t s q token there zs u h =
    append_cancel_right h.characters (characters text token) (from_place text token.end)
    (sym h.here ∙ characters_here text token u h.last.lies)

-- A row that reads one token more, in each session.
reads_alike : (text other : List ℕ) (t : SourceType) (goal : Goal) (s q : State) (token there : TokenParts) (a b : Row)
    (rows : List Row) (zs : List ℕ) → IsUtf8 text → IsUtf8 other → Rewrites t (Reads goal) → a.command ≡ b.command
    → first_reads a ≡ true → Beside text other t s q token there zs → IsQuiet a → a.place ≡ place_behind_last s.now
    → b.place ≡ place_behind_last q.now → IsOnPlaces text a.token → IsOnPlaces other b.token
    → IsOfEffect text t s.now (Reads goal) a → IsOfEffect other t q.now (Reads goal) b
    → written text token (a ∷ rows) ≡ characters text token ++ zs → (f : Future text t a.token rows)
    → StepAlike text other t (Reads goal) s q a b f.zs
reads_alike text other t goal s q token there a b rows zs u v on command first h quiet at other_at lies other_lies is
    other_is whole f =
    let sep = separator_behind text token a (final a.token rows) in
    let xs = characters text a.token in
    let place : a.place ≡ token.end = at ∙ ap (λ l. (token_or_default l).end) h.last.last_is in
    let zs_is : zs ≡ sep ++ (xs ++ f.zs) =
    append_cancel_left (characters text token) zs (sep ++ (xs ++ f.zs))
    (sym whole ∙ (rw first refl) ∙ ap (λ z. characters text token ++ (sep ++ z)) f.whole) in
    let begun : from_place other there.end ≡ sep ++ (xs ++ f.zs) = h.behind ∙ zs_is in
    let cut : from_place text a.token.start ≡ xs ++ from_place text a.token.end = characters_here text a.token u lies in
    let gaps : GapsFor text other t (Some token) (Some there) token.end there.end (outcome_of a) f.zs =
    λ pieces has gap none flag. record {
      characters = xs;
      here = cut;
      follows = f.follows;
      gap =
          squeezed_gap text other t there token.end there.end a pieces has (xs ++ f.zs) sep (characters text token)
          (characters text (final a.token rows)) token.kind gap none flag place
          (separator_is text t token a (final a.token rows)) begun;
    } in
    read_step text other t goal s q token there a b zs f.zs u v on command h quiet at other_at lies other_lies is
    other_is gaps (child place) xs cut f.follows
  where
    child : a.place ≡ token.end → goal ≡ JsxChild
        → StandsAlike text other t a.token.kind token.end a.token.end there.end f.zs
    child place is_child =
        let xs = characters text a.token in
        let sep = separator_behind text token a (final a.token rows) in
        let read : GoalReads text t JsxChild (last_live s.now) a.place (outcome_of a) =
        subst (λ g. GoalReads text t g (last_live s.now) a.place (outcome_of a)) is_child is.reads in
        let start : a.token.start ≡ a.place =
        child_starts text (line_has_ended_behind (last_live s.now)) a.place (outcome_of a) read in
        let none : sep ≡ [] = rw (eq-eqb a.token.start a.place start) refl in
        let zs_is : zs ≡ xs ++ f.zs =
        append_cancel_left (characters text token) zs (xs ++ f.zs)
        (sym whole ∙ (rw first refl) ∙ ap (λ z. characters text token ++ (sep ++ z)) f.whole
        ∙ ap (λ z. characters text token ++ (z ++ (xs ++ f.zs))) none) in
        record {
          characters = xs;
          here = ap (from_place text) (sym (start ∙ place)) ∙ characters_here text a.token u lies;
          there_is = h.behind ∙ zs_is;
          follows = f.follows;
        }

-- A row that reads the last token again, in each session.
again_alike : (text other : List ℕ) (t : SourceType) (goal : Goal) (s q : State) (token there : TokenParts) (a b : Row)
    (rows : List Row) (zs : List ℕ) → IsUtf8 text → IsUtf8 other → Rewrites t (ReLexes goal) → a.command ≡ b.command
    → first_reads a ≡ false → Beside text other t s q token there zs → IsQuiet a → IsOnPlaces text a.token
    → IsLast text (after_row (ReLexes goal) a s) a.token → IsLast other (after_row (ReLexes goal) b q) b.token
    → IsOfEffect text t s.now (ReLexes goal) a → IsOfEffect other t q.now (ReLexes goal) b
    → written text token (a ∷ rows) ≡ characters text token ++ zs → (f : Future text t a.token rows)
    → StepAlike text other t (ReLexes goal) s q a b f.zs
again_alike text other t goal s q token there a b rows zs u v on command again h quiet lies last other_last is other_is
    whole f =
    let xs = characters text a.token in
    let both : characters text token ++ zs ≡ xs ++ f.zs = sym whole ∙ (rw again refl) ∙ f.whole in
    re_lex_step text other t goal s q token there a b zs f.zs u v on command h quiet last other_last
    (λ taken.
    let start = (taken_starts text t goal s token a on.0 h.last.last_is is taken).start_is in
    record {
      characters = xs;
      here = ap (from_place text) (sym start) ∙ characters_here text a.token u lies;
      there_is =
          h.there_is ∙ ap (λ z. z ++ from_place other there.end) (same_characters text other t s q token there zs u h)
          ∙ ap (λ z. characters text token ++ z) h.behind ∙ both;
      follows = f.follows;
    })
    (λ not_taken.
    let same : a.token ≡ token = (not_taken_is text t goal s a is not_taken).token ∙ ap token_or_default h.last.last_is in
    append_cancel_left (characters text token) zs f.zs
    (both ∙ ap (λ x. characters text x ++ f.zs) same))
    is other_is

effect_alike : (text other : List ℕ) (t : SourceType) (effect : Effect) (s q : State) (token there : TokenParts)
    (a b : Row) (rows : List Row) (zs : List ℕ) → IsUtf8 text → IsUtf8 other → Rewrites t effect
    → a.command ≡ b.command → first_reads a ≡ reads_on effect → Beside text other t s q token there zs → IsQuiet a
    → a.place ≡ place_behind_last s.now → b.place ≡ place_behind_last q.now → IsOnPlaces text a.token
    → IsOnPlaces other b.token → IsOfEffect text t s.now effect a → IsOfEffect other t q.now effect b
    → written text token (a ∷ rows) ≡ characters text token ++ zs → (f : Future text t a.token rows)
    → StepAlike text other t effect s q a b f.zs
effect_alike text other t (Reads goal) s q token there a b rows zs u v on command first h quiet at other_at lies
    other_lies is other_is whole f =
    reads_alike text other t goal s q token there a b rows zs u v on command first h quiet at other_at lies other_lies
    is other_is whole f
effect_alike text other t (Peeks goal) s q token there a b rows zs u v on command first h quiet at other_at lies
    other_lies is other_is whole f = absurd on
effect_alike text other t (ReLexes goal) s q token there a b rows zs u v on command first h quiet at other_at lies
    other_lies is other_is whole f =
    again_alike text other t goal s q token there a b rows zs u v on command first h quiet lies
    (last_behind text t (ReLexes goal) a s token on h.last lies is)
    (last_behind other t (ReLexes goal) b q there on h.other_last other_lies other_is) is other_is whole f
effect_alike text other t Opens s q token there a b rows zs u v on command first h quiet at other_at lies other_lies is
    other_is whole f = absurd on
effect_alike text other t Rewinds s q token there a b rows zs u v on command first h quiet at other_at lies other_lies
    is other_is whole f = absurd on
effect_alike text other t Commits s q token there a b rows zs u v on command first h quiet at other_at lies other_lies
    is other_is whole f = absurd on

-- The rows of the two runs are the same, and in those of the other nothing is reported, and no comment is found.
pub runs_alike : (text other : List ℕ) (t : SourceType) (s q : State) (commands : List Command) (xs ys : List Row)
    (token there : TokenParts) (zs : List ℕ) → IsUtf8 text → IsUtf8 other → list_all (may_rewrite t) commands ≡ true
    → AllByRecursion IsQuiet xs → Beside text other t s q token there zs → EndsText text token
    → written text token xs ≡ characters text token ++ zs → Run text t s commands xs → Run other t q commands ys
    → AllZip (SameRow text other) xs ys × AllByRecursion IsBare ys
runs_alike text other t s q [] xs ys token there zs u v may quiet h ends whole run other_run =
    rw (run, other_run) (tt, tt)
runs_alike text other t s q (c ∷ cs) [] ys token there zs u v may quiet h ends whole run other_run =
    absurd
    (let step = lasting_steps c (lasting_of t c (and_parts (may_rewrite t c) (list_all (may_rewrite t) cs) may).0) in
    rw step at run)
runs_alike text other t s q (c ∷ cs) (a ∷ xs) [] token there zs u v may quiet h ends whole run other_run =
    absurd
    (let step = lasting_steps c (lasting_of t c (and_parts (may_rewrite t c) (list_all (may_rewrite t) cs) may).0) in
    rw step at other_run)
runs_alike text other t s q (c ∷ cs) (a ∷ xs) (b ∷ ys) token there zs u v may quiet h ends whole run other_run =
    let both = and_parts (may_rewrite t c) (list_all (may_rewrite t) cs) may in
    let step = lasting_steps c (lasting_of t c both.0) in
    let here = rw step at run in
    let other_here = rw step at other_run in
    let on = rewrites t c both.0 in
    let row = here.0 in
    let other_row = other_here.0 in
    let last = last_behind text t (effect_of c) a s token on h.last row.places.token row.gives in
    let first = ap (λ o. reads_on (row_effect o)) row.command_is in
    let row_ends = row_ends_text text t (effect_of c) s token a u on h.last ends row.places.token row.place row.gives
    quiet.0 in
    let f = (onward text t (after_row (effect_of c) a s) cs xs a.token u both.1 quiet.1 last row_ends here.1).future in
    let alike =
    effect_alike text other t (effect_of c) s q token there a b xs zs u v on (row.command_is ∙ sym other_row.command_is)
    first h quiet.0 row.place other_row.place row.places.token other_row.places.token row.gives other_row.gives whole f in
    let more =
    runs_alike text other t (after_row (effect_of c) a s) (after_row (effect_of c) b q) cs xs ys a.token b.token f.zs u v
    both.1 quiet.1 alike.next row_ends f.whole here.1 other_here.1 in
    ((alike.same, more.0), ((alike.no_diagnostic, alike.no_comment), more.1))
