-- Rows that are shifted twice.
use Rattle.std.proofs.Common.{◌≡◌, ℕ, ◌+◌, ◌≤◌, List, [], ◌∷◌, map, refl, ap, ◌∙◌, arith, Option, None, Some}
use Rattle.std.proofs.lemmas.List.Elements.{All-cons, All-head, All-nil, All-tail}
use Rattle.std.specs.List.{All}
use Rattle.std.specs.Option.{option_map}
use Rattle.js_text.specs.declared.comment.Comment.{Comment}
use Rattle.js_text.specs.declared.diagnostic.Diagnostic.{Diagnostic}
use Rattle.js_text.specs.declared.diagnostic.Diagnostic.TheVariants.{InvalidCharacter, UnexpectedEnd}
use Rattle.js_text.specs.declared.diagnostic.Diagnostic.TheVariants.{FileAppearsToBeBinary, InvalidNumberEnd}
use Rattle.js_text.specs.declared.diagnostic.Diagnostic.TheVariants.{UnterminatedString, UnterminatedMultiLineComment}
use Rattle.js_text.specs.declared.diagnostic.Diagnostic.TheVariants.{UnterminatedRegExp, UnicodeEscapeSequence}
use Rattle.js_text.specs.declared.diagnostic.Diagnostic.TheVariants.{InvalidEscapeSequence, RegExpFlag, RegExpFlagTwice}
use Rattle.js_text.specs.declared.diagnostic.Diagnostic.TheVariants.{UnexpectedJsxEnd, HtmlCommentInModule}
use Rattle.js_text.specs.declared.reg_exp_flags.RegexInfo.{RegexInfo}
use Rattle.js_text.specs.declared.span.Span.{Span}
use Rattle.js_text.specs.declared.value.RowValue.{RowValue}
use Rattle.js_text.specs.declared.value.RowValue.TheVariants.{Nothing, Slice, Units, Bad}
use Rattle.js_kind.specs.TokenParts.{TokenParts}
use Rattle.js_session.specs.declared.row.Row.{Row}
use Rattle.js_session.specs.Shifted.{shifted, shifted_comment, shifted_diagnostic, shifted_regex, shifted_row}
use Rattle.js_session.specs.Shifted.{shifted_span, shifted_token, shifted_value}
use Rattle.js_session.specs.Shifted.{OfComment, OfDiagnostic, OfEachPlace, OfRegex, OfSpan, OfValue}

-- What is padded and comes back is what it was.
module _ (pad : ℕ) where
  place_back : (place : ℕ) → shifted pad 0 (shifted 0 pad place) ≡ place
  place_back place = omega arith

  span_back : (span : Span) → shifted_span pad 0 (shifted_span 0 pad span) ≡ span
  span_back span = λ j. record { start = place_back span.start j; end = place_back span.end j }

  diagnostic_back : (d : Diagnostic) → shifted_diagnostic pad 0 (shifted_diagnostic 0 pad d) ≡ d
  diagnostic_back (InvalidCharacter c s) = ap (InvalidCharacter c) (span_back s)
  diagnostic_back (UnexpectedEnd s) = ap UnexpectedEnd (span_back s)
  diagnostic_back FileAppearsToBeBinary = refl
  diagnostic_back (InvalidNumberEnd s) = ap InvalidNumberEnd (span_back s)
  diagnostic_back (UnterminatedString s) = ap UnterminatedString (span_back s)
  diagnostic_back (UnterminatedMultiLineComment s) = ap UnterminatedMultiLineComment (span_back s)
  diagnostic_back (UnterminatedRegExp s) = ap UnterminatedRegExp (span_back s)
  diagnostic_back (UnicodeEscapeSequence s) = ap UnicodeEscapeSequence (span_back s)
  diagnostic_back (InvalidEscapeSequence s) = ap InvalidEscapeSequence (span_back s)
  diagnostic_back (RegExpFlag c s) = ap (RegExpFlag c) (span_back s)
  diagnostic_back (RegExpFlagTwice c s) = ap (RegExpFlagTwice c) (span_back s)
  diagnostic_back (UnexpectedJsxEnd c s) = ap (UnexpectedJsxEnd c) (span_back s)
  diagnostic_back (HtmlCommentInModule s) = ap HtmlCommentInModule (span_back s)

  comment_back : (c : Comment) → shifted_comment pad 0 (shifted_comment 0 pad c) ≡ c
  comment_back c = λ j. record c { span = span_back c.span j; attached_to = place_back c.attached_to j }

  value_back : (v : RowValue) → shifted_value pad 0 (shifted_value 0 pad v) ≡ v
  value_back Nothing = refl
  value_back (Slice span) = ap Slice (span_back span)
  value_back (Units units) = refl
  value_back Bad = refl

  regex_back : (r : Option RegexInfo)
      → option_map (shifted_regex pad 0) (option_map (shifted_regex 0 pad) r) ≡ r
  regex_back None = refl
  regex_back (Some info) = ap (λ p. Some (record info { pattern_end = p })) (place_back info.pattern_end)

  pub token_back : (token : TokenParts) → shifted_token pad 0 (shifted_token 0 pad token) ≡ token
  token_back token = λ j. record token { start = place_back token.start j; end = place_back token.end j }

  each_back : {A : Type 0} (f g : A → A) → ((x : A) → f (g x) ≡ x) → (xs : List A) → map f (map g xs) ≡ xs
  each_back f g e [] = refl
  each_back f g e (x ∷ xs) = λ j. e x j ∷ each_back f g e xs j

  pub row_back : (row : Row) → shifted_row pad 0 (shifted_row 0 pad row) ≡ row
  row_back row = λ j. record row {
    place = place_back row.place j;
    token = token_back row.token j;
    value = value_back row.value j;
    regex = regex_back row.regex j;
    diagnostics = each_back (shifted_diagnostic pad 0) (shifted_diagnostic 0 pad) diagnostic_back row.diagnostics j;
    deferred = each_back (shifted_diagnostic pad 0) (shifted_diagnostic 0 pad) diagnostic_back row.deferred j;
    comments = each_back (shifted_comment pad 0) (shifted_comment 0 pad) comment_back row.comments j;
    irregular = each_back (shifted_span pad 0) (shifted_span 0 pad) span_back row.irregular j;
    warnings = each_back (shifted_span pad 0) (shifted_span 0 pad) span_back row.warnings j;
  }

-- Places that are shifted twice, where each of them comes to where one shift brings it.
module _ (P : ℕ → Type 0) (low high from to start end : ℕ)
    (place_both : (place : ℕ) → P place → shifted low high place ≡ shifted start end (shifted from to place)) where
  span_twice : (span : Span) → OfSpan P span
      → shifted_span low high span ≡ shifted_span start end (shifted_span from to span)
  span_twice span h = λ j. record { start = place_both span.start h.start j; end = place_both span.end h.end j }

  diagnostic_twice : (d : Diagnostic) → OfDiagnostic P d
      → shifted_diagnostic low high d ≡ shifted_diagnostic start end (shifted_diagnostic from to d)
  diagnostic_twice (InvalidCharacter c s) h = ap (InvalidCharacter c) (span_twice s h)
  diagnostic_twice (UnexpectedEnd s) h = ap UnexpectedEnd (span_twice s h)
  diagnostic_twice FileAppearsToBeBinary h = refl
  diagnostic_twice (InvalidNumberEnd s) h = ap InvalidNumberEnd (span_twice s h)
  diagnostic_twice (UnterminatedString s) h = ap UnterminatedString (span_twice s h)
  diagnostic_twice (UnterminatedMultiLineComment s) h = ap UnterminatedMultiLineComment (span_twice s h)
  diagnostic_twice (UnterminatedRegExp s) h = ap UnterminatedRegExp (span_twice s h)
  diagnostic_twice (UnicodeEscapeSequence s) h = ap UnicodeEscapeSequence (span_twice s h)
  diagnostic_twice (InvalidEscapeSequence s) h = ap InvalidEscapeSequence (span_twice s h)
  diagnostic_twice (RegExpFlag c s) h = ap (RegExpFlag c) (span_twice s h)
  diagnostic_twice (RegExpFlagTwice c s) h = ap (RegExpFlagTwice c) (span_twice s h)
  diagnostic_twice (UnexpectedJsxEnd c s) h = ap (UnexpectedJsxEnd c) (span_twice s h)
  diagnostic_twice (HtmlCommentInModule s) h = ap HtmlCommentInModule (span_twice s h)

  comment_twice : (c : Comment) → OfComment P c
      → shifted_comment low high c ≡ shifted_comment start end (shifted_comment from to c)
  comment_twice c h = λ j. record c {
    span = span_twice c.span h.span j;
    attached_to = place_both c.attached_to h.attached_to j;
  }

  value_twice : (v : RowValue) → OfValue P v
      → shifted_value low high v ≡ shifted_value start end (shifted_value from to v)
  value_twice Nothing h = refl
  value_twice (Slice span) h = ap Slice (span_twice span h)
  value_twice (Units units) h = refl
  value_twice Bad h = refl

  regex_twice : (r : Option RegexInfo) → OfRegex P r
      → option_map (shifted_regex low high) r
      ≡ option_map (shifted_regex start end) (option_map (shifted_regex from to) r)
  regex_twice None h = refl
  regex_twice (Some info) h = ap (λ p. Some (record info { pattern_end = p })) (place_both info.pattern_end h)

  token_twice : (token : TokenParts) → P token.start → P token.end
      → shifted_token low high token ≡ shifted_token start end (shifted_token from to token)
  token_twice token s e = λ j. record token { start = place_both token.start s j; end = place_both token.end e j }

  each_twice : {A : Type 0} (Q : A → Type 0) (f g h : A → A) → ((x : A) → Q x → f x ≡ g (h x)) → (xs : List A)
      → All Q xs → map f xs ≡ map g (map h xs)
  each_twice Q f g h e [] all = refl
  each_twice Q f g h e (x ∷ xs) all =
      λ j. e x (All-head Q x xs all) j ∷ each_twice Q f g h e xs (All-tail Q x xs all) j

  pub row_composed : (row : Row) → OfEachPlace P row
      → shifted_row low high row ≡ shifted_row start end (shifted_row from to row)
  row_composed row h = λ j. record row {
    place = place_both row.place h.place j;
    token = token_twice row.token h.start h.end j;
    value = value_twice row.value h.value j;
    regex = regex_twice row.regex h.regex j;
    diagnostics =
        each_twice (OfDiagnostic P) (shifted_diagnostic low high) (shifted_diagnostic start end)
        (shifted_diagnostic from to) diagnostic_twice row.diagnostics h.found.diagnostics j;
    deferred =
        each_twice (OfDiagnostic P) (shifted_diagnostic low high) (shifted_diagnostic start end)
        (shifted_diagnostic from to) diagnostic_twice row.deferred h.found.deferred j;
    comments =
        each_twice (OfComment P) (shifted_comment low high) (shifted_comment start end) (shifted_comment from to)
        comment_twice row.comments h.found.comments j;
    irregular =
        each_twice (OfSpan P) (shifted_span low high) (shifted_span start end) (shifted_span from to) span_twice
        row.irregular h.found.irregular j;
    warnings =
        each_twice (OfSpan P) (shifted_span low high) (shifted_span start end) (shifted_span from to) span_twice
        row.warnings h.found.warnings j;
  }

-- Padded places, that a text of another length reads by another pad: they are shifted as what stands behind the edit.
pub row_twice : (pad other from to : ℕ) → other + to ≡ pad + from → (row : Row)
    → OfEachPlace (λ place. from + pad ≤ place) row
    → shifted_row other 0 row ≡ shifted_row from to (shifted_row pad 0 row)
row_twice pad other from to pads =
    row_composed (λ place. from + pad ≤ place) other 0 pad 0 from to (λ place behind. omega (arith, behind, pads))

-- a row that is shifted by nothing stays as it is
pub row_still : (row : Row) → OfEachPlace (λ place. 0 ≤ place) row → shifted_row 0 0 row ≡ row
row_still row h =
    row_composed (λ place. 0 ≤ place) 0 0 0 0 0 0 (λ place _. omega arith) row h ∙ row_back 0 row

-- What holds of each place once it is shifted, told of the places before.
module _ (P : ℕ → Type 0) (from to : ℕ) where
  abbrev Shifted : ℕ → Type 0
  Shifted place = P (shifted from to place)

  span_of : (span : Span) → OfSpan P (shifted_span from to span) → OfSpan Shifted span
  span_of span h = record { start = h.start; end = h.end }

  diagnostic_of : (d : Diagnostic) → OfDiagnostic P (shifted_diagnostic from to d) → OfDiagnostic Shifted d
  diagnostic_of (InvalidCharacter c s) h = span_of s h
  diagnostic_of (UnexpectedEnd s) h = span_of s h
  diagnostic_of FileAppearsToBeBinary h = tt
  diagnostic_of (InvalidNumberEnd s) h = span_of s h
  diagnostic_of (UnterminatedString s) h = span_of s h
  diagnostic_of (UnterminatedMultiLineComment s) h = span_of s h
  diagnostic_of (UnterminatedRegExp s) h = span_of s h
  diagnostic_of (UnicodeEscapeSequence s) h = span_of s h
  diagnostic_of (InvalidEscapeSequence s) h = span_of s h
  diagnostic_of (RegExpFlag c s) h = span_of s h
  diagnostic_of (RegExpFlagTwice c s) h = span_of s h
  diagnostic_of (UnexpectedJsxEnd c s) h = span_of s h
  diagnostic_of (HtmlCommentInModule s) h = span_of s h

  comment_of : (c : Comment) → OfComment P (shifted_comment from to c) → OfComment Shifted c
  comment_of c h = record { span = span_of c.span h.span; attached_to = h.attached_to }

  value_of : (v : RowValue) → OfValue P (shifted_value from to v) → OfValue Shifted v
  value_of Nothing h = tt
  value_of (Slice span) h = span_of span h
  value_of (Units units) h = tt
  value_of Bad h = tt

  regex_of : (r : Option RegexInfo) → OfRegex P (option_map (shifted_regex from to) r) → OfRegex Shifted r
  regex_of None h = tt
  regex_of (Some info) h = h

  each_of : {A : Type 0} (Q R : A → Type 0) (f : A → A) → ((x : A) → Q (f x) → R x) → (xs : List A)
      → All Q (map f xs) → All R xs
  each_of Q R f e [] all = All-nil R
  each_of Q R f e (x ∷ xs) all =
      All-cons R x xs (e x (All-head Q (f x) (map f xs) all))
      (each_of Q R f e xs (All-tail Q (f x) (map f xs) all))

  pub row_of_shifted : (row : Row) → OfEachPlace P (shifted_row from to row) → OfEachPlace Shifted row
  row_of_shifted row h = record {
    place = h.place;
    start = h.start;
    end = h.end;
    value = value_of row.value h.value;
    regex = regex_of row.regex h.regex;
    found = record {
      diagnostics =
          each_of (OfDiagnostic P) (OfDiagnostic Shifted) (shifted_diagnostic from to) diagnostic_of row.diagnostics
          h.found.diagnostics;
      deferred =
          each_of (OfDiagnostic P) (OfDiagnostic Shifted) (shifted_diagnostic from to) diagnostic_of row.deferred
          h.found.deferred;
      comments =
          each_of (OfComment P) (OfComment Shifted) (shifted_comment from to) comment_of row.comments h.found.comments;
      irregular = each_of (OfSpan P) (OfSpan Shifted) (shifted_span from to) span_of row.irregular h.found.irregular;
      warnings = each_of (OfSpan P) (OfSpan Shifted) (shifted_span from to) span_of row.warnings h.found.warnings;
    };
  }

  span_to : (span : Span) → OfSpan Shifted span → OfSpan P (shifted_span from to span)
  span_to span h = record { start = h.start; end = h.end }

  diagnostic_to : (d : Diagnostic) → OfDiagnostic Shifted d → OfDiagnostic P (shifted_diagnostic from to d)
  diagnostic_to (InvalidCharacter c s) h = span_to s h
  diagnostic_to (UnexpectedEnd s) h = span_to s h
  diagnostic_to FileAppearsToBeBinary h = tt
  diagnostic_to (InvalidNumberEnd s) h = span_to s h
  diagnostic_to (UnterminatedString s) h = span_to s h
  diagnostic_to (UnterminatedMultiLineComment s) h = span_to s h
  diagnostic_to (UnterminatedRegExp s) h = span_to s h
  diagnostic_to (UnicodeEscapeSequence s) h = span_to s h
  diagnostic_to (InvalidEscapeSequence s) h = span_to s h
  diagnostic_to (RegExpFlag c s) h = span_to s h
  diagnostic_to (RegExpFlagTwice c s) h = span_to s h
  diagnostic_to (UnexpectedJsxEnd c s) h = span_to s h
  diagnostic_to (HtmlCommentInModule s) h = span_to s h

  comment_to : (c : Comment) → OfComment Shifted c → OfComment P (shifted_comment from to c)
  comment_to c h = record { span = span_to c.span h.span; attached_to = h.attached_to }

  value_to : (v : RowValue) → OfValue Shifted v → OfValue P (shifted_value from to v)
  value_to Nothing h = tt
  value_to (Slice span) h = span_to span h
  value_to (Units units) h = tt
  value_to Bad h = tt

  regex_to : (r : Option RegexInfo) → OfRegex Shifted r → OfRegex P (option_map (shifted_regex from to) r)
  regex_to None h = tt
  regex_to (Some info) h = h

  each_to : {A : Type 0} (Q R : A → Type 0) (f : A → A) → ((x : A) → Q x → R (f x)) → (xs : List A) → All Q xs
      → All R (map f xs)
  each_to Q R f e [] all = All-nil R
  each_to Q R f e (x ∷ xs) all =
      All-cons R (f x) (map f xs) (e x (All-head Q x xs all)) (each_to Q R f e xs (All-tail Q x xs all))

  -- and the other way round
  pub row_to_shifted : (row : Row) → OfEachPlace Shifted row → OfEachPlace P (shifted_row from to row)
  row_to_shifted row h = record {
    place = h.place;
    start = h.start;
    end = h.end;
    value = value_to row.value h.value;
    regex = regex_to row.regex h.regex;
    found = record {
      diagnostics =
          each_to (OfDiagnostic Shifted) (OfDiagnostic P) (shifted_diagnostic from to) diagnostic_to row.diagnostics
          h.found.diagnostics;
      deferred =
          each_to (OfDiagnostic Shifted) (OfDiagnostic P) (shifted_diagnostic from to) diagnostic_to row.deferred
          h.found.deferred;
      comments =
          each_to (OfComment Shifted) (OfComment P) (shifted_comment from to) comment_to row.comments h.found.comments;
      irregular = each_to (OfSpan Shifted) (OfSpan P) (shifted_span from to) span_to row.irregular h.found.irregular;
      warnings = each_to (OfSpan Shifted) (OfSpan P) (shifted_span from to) span_to row.warnings h.found.warnings;
    };
  }

-- Two properties of each place.
module _ (P Q : ℕ → Type 0) where
  abbrev Both : ℕ → Type 0
  Both place = P place × Q place

  span_both : (span : Span) → OfSpan P span → OfSpan Q span → OfSpan Both span
  span_both span h k = record { start = (h.start, k.start); end = (h.end, k.end) }

  diagnostic_both : (d : Diagnostic) → OfDiagnostic P d → OfDiagnostic Q d → OfDiagnostic Both d
  diagnostic_both (InvalidCharacter c s) h k = span_both s h k
  diagnostic_both (UnexpectedEnd s) h k = span_both s h k
  diagnostic_both FileAppearsToBeBinary h k = tt
  diagnostic_both (InvalidNumberEnd s) h k = span_both s h k
  diagnostic_both (UnterminatedString s) h k = span_both s h k
  diagnostic_both (UnterminatedMultiLineComment s) h k = span_both s h k
  diagnostic_both (UnterminatedRegExp s) h k = span_both s h k
  diagnostic_both (UnicodeEscapeSequence s) h k = span_both s h k
  diagnostic_both (InvalidEscapeSequence s) h k = span_both s h k
  diagnostic_both (RegExpFlag c s) h k = span_both s h k
  diagnostic_both (RegExpFlagTwice c s) h k = span_both s h k
  diagnostic_both (UnexpectedJsxEnd c s) h k = span_both s h k
  diagnostic_both (HtmlCommentInModule s) h k = span_both s h k

  comment_both : (c : Comment) → OfComment P c → OfComment Q c → OfComment Both c
  comment_both c h k =
      record { span = span_both c.span h.span k.span; attached_to = (h.attached_to, k.attached_to) }

  value_both : (v : RowValue) → OfValue P v → OfValue Q v → OfValue Both v
  value_both Nothing h k = tt
  value_both (Slice span) h k = span_both span h k
  value_both (Units units) h k = tt
  value_both Bad h k = tt

  regex_both : (r : Option RegexInfo) → OfRegex P r → OfRegex Q r → OfRegex Both r
  regex_both None h k = tt
  regex_both (Some info) h k = (h, k)

  each_both : {A : Type 0} (S T U : A → Type 0) → ((x : A) → S x → T x → U x) → (xs : List A) → All S xs → All T xs
      → All U xs
  each_both S T U e [] h k = All-nil U
  each_both S T U e (x ∷ xs) h k =
      All-cons U x xs (e x (All-head S x xs h) (All-head T x xs k))
      (each_both S T U e xs (All-tail S x xs h) (All-tail T x xs k))

  pub row_both : (row : Row) → OfEachPlace P row → OfEachPlace Q row → OfEachPlace Both row
  row_both row h k = record {
    place = (h.place, k.place);
    start = (h.start, k.start);
    end = (h.end, k.end);
    value = value_both row.value h.value k.value;
    regex = regex_both row.regex h.regex k.regex;
    found = record {
      diagnostics =
          each_both (OfDiagnostic P) (OfDiagnostic Q) (OfDiagnostic Both) diagnostic_both row.diagnostics
          h.found.diagnostics k.found.diagnostics;
      deferred =
          each_both (OfDiagnostic P) (OfDiagnostic Q) (OfDiagnostic Both) diagnostic_both row.deferred h.found.deferred
          k.found.deferred;
      comments =
          each_both (OfComment P) (OfComment Q) (OfComment Both) comment_both row.comments h.found.comments
          k.found.comments;
      irregular =
          each_both (OfSpan P) (OfSpan Q) (OfSpan Both) span_both row.irregular h.found.irregular k.found.irregular;
      warnings =
          each_both (OfSpan P) (OfSpan Q) (OfSpan Both) span_both row.warnings h.found.warnings k.found.warnings;
    };
  }
