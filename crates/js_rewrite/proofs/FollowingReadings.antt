-- What is read without a fault where a gap has ended is read the same where another text follows it.
use Rattle.std.proofs.Common.{◌≡◌, ℕ, ◌<◌, ◌≤◌, Bool, true, false, not, ◌||◌, ◌&&◌, ◌==◌, List, [], ◌∷◌, ◌++◌, length}
use Rattle.std.proofs.Common.{drop, refl, sym, ◌∙◌, ap, subst, arith, Some, inl, inr, ◌⊎◌}
use Rattle.std.specs.Prelude.{codes, nat_eq, nat_le}
use Rattle.std.specs.Char.{is_ascii_digit}
use Rattle.std.specs.List.{list_all}
use Rattle.std.proofs.Math.Seq.{drop-append_seam}
use Rattle.std.proofs.lemmas.Bool.{and_parts, eqb-true}
use Rattle.std.proofs.lemmas.List.{append_cancel_right}
use Rattle.std.proofs.lemmas.Bool.Decides.{nat_tests}
use Rattle.unicode_ident.proofs.Computing.{unicode_ident}
use Rattle.js_text.specs.Ascii.{asterisk, full_stop, grave_accent, number_sign}
use Rattle.js_text.specs.Characters.{begins, is_identifier_part, is_identifier_start, is_irregular_whitespace}
use Rattle.js_text.specs.Characters.{is_line_terminator, is_white_space}
use Rattle.js_text.specs.SourceType.{is_module}
use Rattle.js_text.specs.declared.source_type.SourceType.{SourceType}
use Rattle.js_kind.specs.Digits.{is_digit_of}
use Rattle.js_kind.specs.Kinds.{is_identifier_name, is_one_of}
use Rattle.js_kind.specs.declared.kind.Kind.{Kind}
use Rattle.js_kind.specs.declared.kind.Kind.TheVariants.{Decimal, NoSubstitutionTemplate, PrivateIdentifier, RegExp}
use Rattle.js_kind.specs.declared.kind.Kind.TheVariants.{TemplateHead}
use Rattle.js_kind.proofs.NameKinds.{name_kind-is_identifier_name}
use Rattle.js_grammar.specs.Gap.{is_prefix}
use Rattle.js_grammar.specs.Goals.{ReadsHere}
use Rattle.js_grammar.specs.Goals.ReadsHere.{spelled, recovers}
use Rattle.js_grammar.specs.Name.{IsName, continues_name, name_reading, private_reading}
use Rattle.js_grammar.specs.Number.{IsNumber, excluded_after, may_not_follow_number}
use Rattle.js_grammar.specs.NumberReads.{number_reading}
use Rattle.js_grammar.specs.Punctuators.{Exclusion, IsIn, LongestPunctuator, Punctuator, excludes, is_excluded}
use Rattle.js_grammar.specs.Punctuators.{is_spelled, punctuators}
use Rattle.js_grammar.specs.Punctuators.Exclusion.{excludes_nothing, excludes_digits, excludes_asterisk}
use Rattle.js_grammar.specs.Punctuators.Exclusion.{excludes_reported_comment}
use Rattle.js_grammar.specs.Quoted.{quoted_reading}
use Rattle.js_grammar.specs.Reading.{Reading}
use Rattle.js_grammar.specs.Readings.{read_punctuator}
use Rattle.js_grammar.specs.Spelling.{LongestSpelling, Spelling}
use Rattle.js_grammar.specs.Spelling.Spelling.{name, private_name, punctuator, number, string, template, end_of_source}
use Rattle.js_grammar.specs.StringItems.{IsString, string_reading, string_text}
use Rattle.js_grammar.specs.Template.{IsPart, IsTemplatePart}
use Rattle.js_grammar.specs.Template.IsTemplatePart.{no_substitution, head}
use Rattle.js_grammar.proofs.Ahead.{BeginAlike}
use Rattle.js_grammar.proofs.Clean.{recovery_reports}
use Rattle.js_grammar.proofs.CleanReadings.{StaysRead}
use Rattle.js_grammar.proofs.GoalsAhead.{punctuator_same}
use Rattle.js_grammar.proofs.HereReadings.{IsLongest, punctuator_reads_here}
use Rattle.js_grammar.proofs.NameLaws.{good_private_name, name_is_read, private_name_is_read}
use Rattle.js_grammar.proofs.NameReadings.{name_reads_here, private_reads_here}
use Rattle.js_grammar.proofs.NumberBegins.{number_begins}
use Rattle.js_grammar.proofs.NumberClasses.{all_below, below, or_true}
use Rattle.js_grammar.proofs.NumberLaws.{number_is_read}
use Rattle.js_grammar.proofs.NumberReadings.{number_reads_here}
use Rattle.js_grammar.proofs.PunctuatorLemmas.{passes_at, some_text, spelled_at}
use Rattle.js_grammar.proofs.QuotedAnywhere.{part_anywhere, string_anywhere}
use Rattle.js_grammar.proofs.QuotedReadings.{quoted_reads_here}
use Rattle.js_grammar.proofs.Starts.{name_begins}
use Rattle.js_grammar.proofs.StringBegins.{string_begins_quoted, template_begins_quoted}
use Rattle.js_grammar.proofs.StringLaws.{good_string, string_here, string_is_read}
use Rattle.js_grammar.proofs.TemplateLaws.{good_part, part_here, substitution_is_read, tail_is_read}
use Rattle.js_grammar.proofs.Tests.{and_true, prefix_is, prefix_of}
use Rattle.js_grammar.proofs.Unique.{reading_unique}
use Rattle.js_grammar.proofs.Without.{FailsBlanks, begins_comment, no_close, true_is_not_false}
use Rattle.js_rewrite.specs.Space.{begins_as_word, ends_as_word, is_operator, meets}
use Rattle.js_rewrite.proofs.Following.{BeginsGap, FailsGaps, Follows, FollowsToken, Meets, are_operators}
use Rattle.js_rewrite.proofs.Following.{begins_here, begins_there, gap_fails, kept_before, last_character}
use Rattle.js_rewrite.proofs.Following.{mark_here, none_begin, nothing_behind, operators_meet}
use Rattle.js_rewrite.proofs.Following.Follows.{same, kept, line_end, space, joined, nothing_left}
use Rattle.js_rewrite.proofs.NumberEnds.{excluded_is_part, number_ends}

implies : (a b : Bool) → (not a || b) ≡ true → a ≡ true → b ≡ true
implies true b e h = e
implies false b e h = absurd (cc)

-- what is read by a function in both texts, which gives the same but for what is left
by_function : (t : SourceType) (ended : Bool) (xs ys zs : List ℕ) (r here there : Reading)
    → ReadsHere t ended (xs ++ ys) r → ReadsHere t ended (xs ++ ys) here → ReadsHere t ended (xs ++ zs) there
    → there ≡ record here { rest = zs } → StaysRead t ended xs zs r
by_function t ended xs ys zs r here there reads reads_here reads_there same_read =
    let one : r ≡ here = reading_unique t ended (xs ++ ys) r here reads reads_here in
    subst (ReadsHere t ended (xs ++ zs)) (same_read ∙ ap (λ (x : Reading). record x { rest = zs }) (sym one)) reads_there

-- A word meets a word behind it, and so does a point.
words_meet : (is_word : Bool) (last c : ℕ) → (is_word ≡ true) ⊎ (last ≡ full_stop) → begins_as_word c ≡ true
    → meets is_word last c ≡ true
words_meet true last c word e = rw e refl
words_meet false last c (inl word) e = absurd (cc)
words_meet false last c (inr point) e = rw e (by_parts (is_operator last && is_operator c) (last == full_stop)
    (ap (λ l. l == full_stop) point))
  where
    by_parts : (a b : Bool) → b ≡ true → (a || (b && true)) ≡ true
    by_parts true b e = refl
    by_parts false b e = rw e refl

part_begins : (c : ℕ) → is_identifier_part c ≡ true → begins_as_word c ≡ true
part_begins c e = rw e refl

continues_no_blank : FailsBlanks begins_as_word
unfolding is_identifier_part unicode_ident
continues_no_blank = (refl, refl)

follows_no_blank : FailsBlanks may_not_follow_number
unfolding may_not_follow_number is_identifier_start is_digit_of unicode_ident
follows_no_blank = (refl, refl)

-- what goes on with a name
name_meets : (last : ℕ) → Meets begins_as_word true last
name_meets last = record { no_blank = continues_no_blank; meet = λ c e. words_meet true last c (inl refl) e }

name_stays : (t : SourceType) (is_word ended : Bool) (last : ℕ) (xs ys zs : List ℕ) (r : Reading) → is_word ≡ true
    → Follows t is_word last ys zs → IsName xs → continues_name ys ≡ false → ReadsHere t ended (xs ++ ys) r
    → StaysRead t ended xs zs r
name_stays t is_word ended last xs ys zs r word w is follows reads =
    let other : continues_name zs ≡ false =
    none_begin begins_as_word t true last ys zs (name_meets last) (subst (λ b. Follows t b last ys zs) word w) follows in
    let here = name_is_read xs ys is follows in
    let there = name_is_read xs zs is other in
    by_function t ended xs ys zs r (name_reading (xs ++ ys)) (name_reading (xs ++ zs)) reads
    (name_reads_here t ended (xs ++ ys) (name_begins xs ys is))
    (name_reads_here t ended (xs ++ zs) (name_begins xs zs is))
    (there ∙ ap (λ (x : Reading). record x { rest = zs }) (sym here))

private_read : (xs ys : List ℕ) → IsName xs → continues_name ys ≡ false
    → private_reading (number_sign ∷ (xs ++ ys)) ≡ good_private_name xs ys
private_read xs ys is follows = rw (name_begins xs ys is) (private_name_is_read xs ys is follows)

private_stays : (t : SourceType) (is_word ended : Bool) (last : ℕ) (xs ys zs : List ℕ) (r : Reading)
    → is_word ≡ true → Follows t is_word last ys zs → IsName xs → continues_name ys ≡ false
    → ReadsHere t ended (number_sign ∷ (xs ++ ys)) r → StaysRead t ended (number_sign ∷ xs) zs r
private_stays t is_word ended last xs ys zs r word w is follows reads =
    let other : continues_name zs ≡ false =
    none_begin begins_as_word t true last ys zs (name_meets last) (subst (λ b. Follows t b last ys zs) word w) follows in
    by_function t ended (number_sign ∷ xs) ys zs r (private_reading (number_sign ∷ (xs ++ ys)))
    (private_reading (number_sign ∷ (xs ++ zs))) reads (private_reads_here t ended (xs ++ ys))
    (private_reads_here t ended (xs ++ zs))
    (private_read xs zs is other ∙ ap (λ (x : Reading). record x { rest = zs }) (sym (private_read xs ys is follows)))

-- what may not follow a number
number_meets : (is_word : Bool) (last : ℕ) → (is_word ≡ true) ⊎ (last ≡ full_stop)
    → Meets may_not_follow_number is_word last
number_meets is_word last ends = record {
  no_blank = follows_no_blank;
  meet = λ c e. words_meet is_word last c ends (part_begins c (excluded_is_part c e));
}

point_meets : (is_word : Bool) (last : ℕ) → (is_word ≡ true) ⊎ (last ≡ full_stop)
    → Meets (λ c. c == full_stop) is_word last
point_meets is_word last ends =
    record { no_blank = (refl, refl); meet = λ c e. rw (eqb-true c full_stop e) (at_point is_word ends) }
  where
    at_point : (word : Bool) → (word ≡ true) ⊎ (last ≡ full_stop) → meets word last full_stop ≡ true
    at_point false (inl word) = absurd (cc)
    at_point false (inr point) = operators_meet false last full_stop (ap is_operator point) refl
    at_point true ends = behind (begins_as_word full_stop) (is_operator last && is_operator full_stop)
      where
        behind : (a b : Bool) → (a || (b || true)) ≡ true
        behind true b = refl
        behind false true = refl
        behind false false = refl

excluded_stays : (t : SourceType) (is_word : Bool) (last : ℕ) (ys zs : List ℕ) → Follows t is_word last ys zs
    → (is_word ≡ true) ⊎ (last ≡ full_stop) → (kind : Kind) → excluded_after kind ys ≡ false
    → excluded_after kind zs ≡ false
excluded_stays t is_word last ys zs w ends Decimal e =
    both (begins may_not_follow_number ys) (begins (λ c. c == full_stop) ys) (begins may_not_follow_number zs)
    (begins (λ c. c == full_stop) zs)
    (none_begin may_not_follow_number t is_word last ys zs (number_meets is_word last ends) w)
    (none_begin (λ c. c == full_stop) t is_word last ys zs (point_meets is_word last ends) w) e
  where
    both : (a b c d : Bool) → (a ≡ false → c ≡ false) → (b ≡ false → d ≡ false) → (a || b) ≡ false → (c || d) ≡ false
    both true b c d h g e = absurd (cc)
    both false true c d h g e = absurd (cc)
    both false false c d h g e = rw (h refl, g refl) refl
excluded_stays t is_word last ys zs w ends kind e =
    none_begin may_not_follow_number t is_word last ys zs (number_meets is_word last ends) w e

number_word : (kind : Kind) (xs : List ℕ) → IsNumber xs kind
    → (ends_as_word kind (last_character xs) ≡ true) ⊎ (last_character xs ≡ full_stop)
number_word kind xs is =
    elim (number_ends xs kind is) [ inl part ↦ inl (rw part refl) | inr point ↦ inr point ]

number_stays : (t : SourceType) (ended : Bool) (xs ys zs : List ℕ) (kind : Kind) (r : Reading)
    → FollowsToken t kind xs ys zs → IsNumber xs kind → excluded_after kind ys ≡ false
    → ReadsHere t ended (xs ++ ys) r → StaysRead t ended xs zs r
number_stays t ended xs ys zs kind r w is follows reads =
    let last = last_character xs in
    let here = number_is_read xs ys kind is follows in
    let there =
    number_is_read xs zs kind is
    (excluded_stays t (ends_as_word kind last) last ys zs w (number_word kind xs is) kind follows) in
    by_function t ended xs ys zs r (number_reading (xs ++ ys)) (number_reading (xs ++ zs)) reads
    (number_reads_here t ended (xs ++ ys) (number_begins xs ys kind is))
    (number_reads_here t ended (xs ++ zs) (number_begins xs zs kind is))
    (there ∙ ap (λ (x : Reading). record x { rest = zs }) (sym here))

-- a string, by the function of all that is quoted
string_read : (xs ys : List ℕ) (s : IsString xs ys) → quoted_reading (xs ++ ys) ≡ good_string xs s.items ys
string_read xs ys s =
    ap quoted_reading (string_here xs ys s) ∙ quoted (string_text s.items ++ (s.quote ∷ ys)) ∙ string_is_read xs ys s
  where
    quoted : (behind : List ℕ) → quoted_reading (s.quote ∷ behind) ≡ string_reading s.quote behind
    quoted behind = rw s.is_quote refl

string_stays : (t : SourceType) (ended : Bool) (xs ys zs : List ℕ) (r : Reading) → IsString xs ys
    → ReadsHere t ended (xs ++ ys) r → StaysRead t ended xs zs r
string_stays t ended xs ys zs r s reads =
    let other = string_anywhere xs ys zs s in
    by_function t ended xs ys zs r (quoted_reading (xs ++ ys)) (quoted_reading (xs ++ zs)) reads
    (quoted_reads_here t ended (xs ++ ys) (string_begins_quoted xs ys s))
    (quoted_reads_here t ended (xs ++ zs) (string_begins_quoted xs zs other.string))
    (string_read xs zs other.string ∙ other.read
    ∙ ap (λ (x : Reading). record x { rest = zs }) (sym (string_read xs ys s)))

-- a part of a template, by that function
tail_read : (xs ys : List ℕ) (p : IsPart grave_accent (codes "`") xs ys)
    → quoted_reading (xs ++ ys) ≡ good_part NoSubstitutionTemplate xs p.items ys
tail_read xs ys p =
    ap quoted_reading (part_here grave_accent (codes "`") xs ys p)
    ∙ tail_is_read TemplateHead NoSubstitutionTemplate grave_accent xs ys p

head_read : (xs ys : List ℕ) (p : IsPart grave_accent (codes "${") xs ys)
    → quoted_reading (xs ++ ys) ≡ good_part TemplateHead xs p.items ys
head_read xs ys p =
    ap quoted_reading (part_here grave_accent (codes "${") xs ys p)
    ∙ substitution_is_read TemplateHead NoSubstitutionTemplate grave_accent xs ys p

template_stays : (t : SourceType) (ended : Bool) (xs ys zs : List ℕ) (kind : Kind) (r : Reading)
    → IsTemplatePart xs ys kind → ReadsHere t ended (xs ++ ys) r → StaysRead t ended xs zs r
template_stays t ended xs ys zs kind r (no_substitution p e) reads =
    let alike : BeginAlike (codes "`" ++ ys) (codes "`" ++ zs) =
    record { first = grave_accent; rest = ys; other = zs; here = refl; there = refl } in
    let other = part_anywhere grave_accent (codes "`") xs ys zs NoSubstitutionTemplate p alike refl in
    by_function t ended xs ys zs r (quoted_reading (xs ++ ys)) (quoted_reading (xs ++ zs)) reads
    (quoted_reads_here t ended (xs ++ ys) (template_begins_quoted xs ys kind (no_substitution p e)))
    (quoted_reads_here t ended (xs ++ zs) (template_begins_quoted xs zs kind (no_substitution other.part e)))
    (tail_read xs zs other.part ∙ other.read
    ∙ ap (λ (x : Reading). record x { rest = zs }) (sym (tail_read xs ys p)))
template_stays t ended xs ys zs kind r (head p e) reads =
    let alike : BeginAlike (codes "${" ++ ys) (codes "${" ++ zs) =
    record { first = 36; rest = 123 ∷ ys; other = 123 ∷ zs; here = refl; there = refl } in
    let other = part_anywhere grave_accent (codes "${") xs ys zs TemplateHead p alike refl in
    by_function t ended xs ys zs r (quoted_reading (xs ++ ys)) (quoted_reading (xs ++ zs)) reads
    (quoted_reads_here t ended (xs ++ ys) (template_begins_quoted xs ys kind (head p e)))
    (quoted_reads_here t ended (xs ++ zs) (template_begins_quoted xs zs kind (head other.part e)))
    (head_read xs zs other.part ∙ other.read
    ∙ ap (λ (x : Reading). record x { rest = zs }) (sym (head_read xs ys p)))

-- What may not follow a punctuator.
abbrev is_no_gap : ℕ → Bool
is_no_gap c = not (is_white_space c) && (not (is_line_terminator c) && not (begins_comment c))

digits_are_no_gaps : all_below (λ c. not (is_ascii_digit c) || is_no_gap c) 128 ≡ true
unfolding is_white_space is_irregular_whitespace is_line_terminator
digits_are_no_gaps = refl

not_true : (b : Bool) → not b ≡ true → b ≡ false
not_true true e = absurd (cc)
not_true false e = refl

digit_fails : FailsGaps is_ascii_digit
digit_fails c e =
    let small = digit_small c e in
    let no =
    implies (is_ascii_digit c) (is_no_gap c) (below (λ c. not (is_ascii_digit c) || is_no_gap c) 128 c digits_are_no_gaps small)
    e in
    let parts = and_parts (not (is_white_space c)) (not (is_line_terminator c) && not (begins_comment c)) no in
    let behind = and_parts (not (is_line_terminator c)) (not (begins_comment c)) parts.1 in
    (not_true (is_white_space c) parts.0, not_true (is_line_terminator c) behind.0, not_true (begins_comment c) behind.1)
  where
    digit_small : (c : ℕ) → is_ascii_digit c ≡ true → c < 128
    digit_small c e = grind (arith, nat_tests)

one_fails : (mark : ℕ) → is_no_gap mark ≡ true → FailsGaps (λ c. c == mark)
one_fails mark is c e =
    let no : is_no_gap c ≡ true = ap is_no_gap (eqb-true c mark e) ∙ is in
    let parts = and_parts (not (is_white_space c)) (not (is_line_terminator c) && not (begins_comment c)) no in
    let behind = and_parts (not (is_line_terminator c)) (not (begins_comment c)) parts.1 in
    (not_true (is_white_space c) parts.0, not_true (is_line_terminator c) behind.0, not_true (begins_comment c) behind.1)

marks_are_no_gaps : (is_no_gap 42 ≡ true) × (is_no_gap 33 ≡ true)
unfolding is_white_space is_irregular_whitespace is_line_terminator
marks_are_no_gaps = (refl, refl)

-- a gap of a module begins with no `-`
hyphen_is_no_gap : {A : Type 0} (t : SourceType) (cs : List ℕ) → is_module t ≡ true → BeginsGap t (45 ∷ cs) → A
hyphen_is_no_gap t cs module_is g = absurd (no_close t g.ended cs g.found module_is g.here)

no_hyphen_gap : {A : Type 0} (t : SourceType) → is_module t ≡ true → (m : ℕ) (n ys : List ℕ) → (m == 45) ≡ true
    → BeginsGap t ys → is_prefix (m ∷ n) ys ≡ true → A
no_hyphen_gap t module_is m n [] hyphen g e = absurd (cc)
no_hyphen_gap t module_is m n (y ∷ ys) hyphen g e =
    let both = and_parts (y == m) (is_prefix n ys) e in
    let same_mark : y ≡ 45 = eqb-true y m both.0 ∙ eqb-true m 45 hyphen in
    hyphen_is_no_gap t ys module_is (subst (λ d. BeginsGap t (d ∷ ys)) same_mark g)

hyphens_there : (t : SourceType) → is_module t ≡ true → (n : List ℕ) → list_all (λ c. c == 45) n ≡ true
    → (is_word : Bool) (last : ℕ) (ys zs : List ℕ) → Follows t is_word last ys zs → is_prefix n ys ≡ true
    → is_prefix n zs ≡ true
hyphens_there t module_is [] all is_word last ys zs w e = refl
hyphens_there t module_is (m ∷ n) all is_word last ys zs same e = e
hyphens_there t module_is (m ∷ n) all is_word last ys zs (kept word c {ys = ys'} {zs = zs'} w) e =
    let both = and_parts (c == m) (is_prefix n ys') e in
    rw both.0
    (hyphens_there t module_is n (and_parts (m == 45) (list_all (λ c. c == 45) n) all).1 word c ys' zs' w both.1)
hyphens_there t module_is (m ∷ n) all is_word last ys zs (line_end g) e =
    no_hyphen_gap t module_is m n ys (and_parts (m == 45) (list_all (λ c. c == 45) n) all).0 g e
hyphens_there t module_is (m ∷ n) all is_word last ys zs (space g f) e =
    no_hyphen_gap t module_is m n ys (and_parts (m == 45) (list_all (λ c. c == 45) n) all).0 g e
hyphens_there t module_is (m ∷ n) all is_word last ys zs (joined c g f apart) e =
    no_hyphen_gap t module_is m n ys (and_parts (m == 45) (list_all (λ c. c == 45) n) all).0 g e
hyphens_there t module_is (m ∷ n) all is_word last ys zs (nothing_left g f) e =
    no_hyphen_gap t module_is m n ys (and_parts (m == 45) (list_all (λ c. c == 45) n) all).0 g e

-- the mark of a reported comment, without its `<`
reported_there : (t : SourceType) → is_module t ≡ true → (is_word : Bool) (last : ℕ) (ys zs : List ℕ)
    → Follows t is_word last ys zs → is_prefix (codes "!--") ys ≡ true → is_prefix (codes "!--") zs ≡ true
reported_there t module_is is_word last [] zs w e = absurd (cc)
reported_there t module_is is_word last (y ∷ ys) zs w e = by_follow zs w
  where
    both : ((y == 33) ≡ true) × (is_prefix (codes "--") ys ≡ true)
    both = and_parts (y == 33) (is_prefix (codes "--") ys) e

    none : {A : Type 0} → BeginsGap t (y ∷ ys) → A
    none g = gap_fails (λ c. c == 33) (one_fails 33 marks_are_no_gaps.1) t (y ∷ ys) g both.0

    by_follow : (zs : List ℕ) → Follows t is_word last (y ∷ ys) zs → is_prefix (codes "!--") zs ≡ true
    by_follow zs same = e
    by_follow zs (kept word c {zs = zs'} w) =
        rw both.0 (hyphens_there t module_is (codes "--") refl word y ys zs' w both.1)
    by_follow zs (line_end g) = none g
    by_follow zs (space g f) = none g
    by_follow zs (joined c g f apart) = none g
    by_follow zs (nothing_left g f) = none g

-- What may not follow a punctuator in the text may not in the other.
excluded_there : (t : SourceType) (has : Bool) (e : Exclusion) (is_word : Bool) (last : ℕ) (ys zs : List ℕ)
    → Follows t is_word last ys zs → excludes e t has ys ≡ true → excludes e t has zs ≡ true
excluded_there t has excludes_nothing is_word last ys zs w is = is
excluded_there t has excludes_digits is_word last ys zs w is =
    begins_there is_ascii_digit digit_fails t is_word last ys zs w is
excluded_there t has excludes_asterisk is_word last ys zs w is =
    begins_there (λ c. c == asterisk) (one_fails asterisk marks_are_no_gaps.0) t is_word last ys zs w is
excluded_there t has excludes_reported_comment is_word last ys zs w is =
    let both = and_parts (is_prefix (codes "!--") ys) (is_module t && has) is in
    let module_is = (and_parts (is_module t) has both.1).0 in
    rw (reported_there t module_is is_word last ys zs w both.0, both.1) refl

-- The last character of a punctuator, behind which something may not stand.
abbrev fits_exclusion : Exclusion → ℕ → Bool
fits_exclusion excludes_nothing last = true
fits_exclusion excludes_digits last = last == full_stop
fits_exclusion excludes_asterisk last = is_operator last
fits_exclusion excludes_reported_comment last = is_operator last

abbrev punctuator_fits : Punctuator → Bool
punctuator_fits p = fits_exclusion p.exclusion (last_character p.text)

punctuators_fit : list_all punctuator_fits punctuators ≡ true
punctuators_fit = refl

ascii_digit_is_part : all_below (λ c. not (is_ascii_digit c) || is_identifier_part c) 128 ≡ true
unfolding is_identifier_part unicode_ident
ascii_digit_is_part = refl

digits_meet : (is_word : Bool) (last : ℕ) → last ≡ full_stop → Meets is_ascii_digit is_word last
digits_meet is_word last point = record {
  no_blank = (refl, refl);
  meet = λ c e. words_meet is_word last c (inr point)
      (part_begins c
      (implies (is_ascii_digit c) (is_identifier_part c)
      (below (λ c. not (is_ascii_digit c) || is_identifier_part c) 128 c ascii_digit_is_part (digit_small c e)) e));
}
  where
    digit_small : (c : ℕ) → is_ascii_digit c ≡ true → c < 128
    digit_small c e = grind (arith, nat_tests)

-- What may not follow it in the other text may not in the text.
excluded_here : (t : SourceType) (has : Bool) (e : Exclusion) (is_word : Bool) (last : ℕ) (ys zs : List ℕ)
    → fits_exclusion e last ≡ true → Follows t is_word last ys zs → excludes e t has zs ≡ true
    → excludes e t has ys ≡ true
excluded_here t has excludes_nothing is_word last ys zs fits w is = is
excluded_here t has excludes_digits is_word last ys zs fits w is =
    begins_here is_ascii_digit t is_word last ys zs (digits_meet is_word last (eqb-true last full_stop fits)) w is
excluded_here t has excludes_asterisk is_word last ys zs fits w is =
    begins_here (λ c. c == asterisk) t is_word last ys zs
    (record {
      no_blank = (refl, refl);
      meet = λ c e. operators_meet is_word last c fits (ap is_operator (eqb-true c asterisk e));
    })
    w is
excluded_here t has excludes_reported_comment is_word last ys zs fits w is =
    let both = and_parts (is_prefix (codes "!--") zs) (is_module t && has) is in
    rw ((mark_here t (codes "!--") is_word last ys zs refl fits w both.0).here, both.1) refl

-- A punctuator is of operator characters, or is one character that anything may follow.
abbrev is_nothing : Exclusion → Bool
is_nothing excludes_nothing = true
is_nothing excludes_digits = false
is_nothing excludes_asterisk = false
is_nothing excludes_reported_comment = false

abbrev is_simple : Punctuator → Bool
is_simple p = are_operators p.text || (nat_eq (length p.text) 1 && is_nothing p.exclusion)

punctuators_are_simple : list_all is_simple punctuators ≡ true
punctuators_are_simple = refl

-- A punctuator that is spelled in the other text is spelled in the text.
spelled_here : (t : SourceType) (has : Bool) (p : Punctuator) → is_simple p ≡ true → (is_word : Bool) (c : ℕ)
    (ys zs : List ℕ) → Follows t is_word c ys zs → is_spelled t has (c ∷ zs) p ≡ true
    → is_spelled t has (c ∷ ys) p ≡ true
spelled_here t has p simple is_word c ys zs w is =
    elim (or_true (are_operators p.text) (nat_eq (length p.text) 1 && is_nothing p.exclusion) simple) [
      | inl operators ↦ (
          let both =
          and_parts (is_prefix p.text (c ∷ zs)) (not (is_excluded p t has (drop (length p.text) (c ∷ zs)))) is in
          let begun = mark_here t p.text false 33 (c ∷ ys) (c ∷ zs) operators refl (kept is_word c w) both.0 in
          rw begun.here
          (not_excluded (is_excluded p t has (drop (length p.text) (c ∷ ys)))
          (is_excluded p t has (drop (length p.text) (c ∷ zs)))
          (excluded_there t has p.exclusion begun.is_word begun.last (drop (length p.text) (c ∷ ys))
          (drop (length p.text) (c ∷ zs)) begun.behind) both.1))
      | inr one ↦ (
          let both = and_parts (nat_eq (length p.text) 1) (is_nothing p.exclusion) one in
          one_character p.text p.exclusion both.0 both.1 is)
    ]
  where
    not_excluded : (a b : Bool) → (a ≡ true → b ≡ true) → not b ≡ true → not a ≡ true
    not_excluded true b h e = true_is_not_false (not b) e (ap not (h refl))
    not_excluded false b h e = refl

    one_character : (text : List ℕ) (e : Exclusion) → nat_eq (length text) 1 ≡ true → is_nothing e ≡ true
        → (is_prefix text (c ∷ zs) && not (excludes e t has (drop (length text) (c ∷ zs)))) ≡ true
        → (is_prefix text (c ∷ ys) && not (excludes e t has (drop (length text) (c ∷ ys)))) ≡ true
    one_character [] e short nothing is = absurd (cc)
    one_character (m ∷ []) excludes_nothing short nothing is = is
    one_character (m ∷ []) excludes_digits short nothing is = absurd (cc)
    one_character (m ∷ []) excludes_asterisk short nothing is = absurd (cc)
    one_character (m ∷ []) excludes_reported_comment short nothing is = absurd (cc)
    one_character (m ∷ n ∷ text) e short nothing is = absurd (omega (arith, eqb-true (length (m ∷ n ∷ text)) 1 short))

none_longer : (t : SourceType) (has is_word : Bool) (c : ℕ) (ys zs : List ℕ) → Follows t is_word c ys zs → (n : ℕ)
    (ps : List Punctuator) → list_all is_simple ps ≡ true
    → list_all (λ q. not (is_spelled t has (c ∷ ys) q) || nat_le (length q.text) n) ps ≡ true
    → list_all (λ q. not (is_spelled t has (c ∷ zs) q) || nat_le (length q.text) n) ps ≡ true
none_longer t has is_word c ys zs w n [] simple e = refl
none_longer t has is_word c ys zs w n (p ∷ ps) simple e =
    let all = and_parts (is_simple p) (list_all is_simple ps) simple in
    let both = and_true (not (is_spelled t has (c ∷ ys) p) || nat_le (length p.text) n) _ e in
    rw (one (is_spelled t has (c ∷ ys) p) (is_spelled t has (c ∷ zs) p) (spelled_here t has p all.0 is_word c ys zs w)
    both.0)
    (none_longer t has is_word c ys zs w n ps all.1 both.1)
  where
    one : (a b : Bool) → (b ≡ true → a ≡ true) → (not a || nat_le (length p.text) n) ≡ true
        → (not b || nat_le (length p.text) n) ≡ true
    one true b h e = late b e
      where
        late : (b : Bool) → nat_le (length p.text) n ≡ true → (not b || nat_le (length p.text) n) ≡ true
        late true e = e
        late false e = refl
    one false true h e = absurd (let no = h refl in cc)
    one false false h e = refl

-- The longest punctuator before what is left of the text is the longest before what is left of the other.
abbrev longest_there : (t : SourceType) (has is_word : Bool) (ys zs : List ℕ) (k : Kind) (text : List ℕ)
    → (l : LongestPunctuator t has text ys k) → Follows t is_word (last_character l.it.text) ys zs
    → LongestPunctuator t has (l.it.text ++ zs) zs k
longest_there t has is_word ys zs k text l w = record {
  it = l.it;
  in_table = l.in_table;
  here = refl;
  allowed =
      false_from (is_excluded l.it t has ys) (is_excluded l.it t has zs)
      (excluded_here t has l.it.exclusion is_word (last_character l.it.text) ys zs
      (passes_at punctuator_fits l.it punctuators l.in_table punctuators_fit) w)
      l.allowed;
  kind = l.kind;
  longest =
      by_text l.it.text (some_text l.it l.in_table) w
      (subst
      (λ h. list_all (λ q. not (is_spelled t has h q) || nat_le (length q.text) (length l.it.text)) punctuators ≡ true)
      l.here l.longest);
}
  where
    false_from : (a b : Bool) → (b ≡ true → a ≡ true) → a ≡ false → b ≡ false
    false_from a true h e = true_is_not_false a (h refl) e
    false_from a false h e = refl

    first_kept : (x : ℕ) (xs : List ℕ) → Follows t is_word (last_character (x ∷ xs)) ys zs
        → (word : Bool) × Follows t word x (xs ++ ys) (xs ++ zs)
    first_kept x [] w = (is_word, w)
    first_kept x (y ∷ xs) w = (false, kept_before t false x (y ∷ xs) ys zs is_word (λ no. absurd (cc)) w)

    by_text : (xs : List ℕ) → (xs ≡ [] → ⊥) → Follows t is_word (last_character xs) ys zs
        → list_all (λ q. not (is_spelled t has (xs ++ ys) q) || nat_le (length q.text) (length xs)) punctuators ≡ true
        → list_all (λ q. not (is_spelled t has (xs ++ zs) q) || nat_le (length q.text) (length xs)) punctuators ≡ true
    by_text [] some w e = absurd (some refl)
    by_text (x ∷ xs) some w e =
        let first = first_kept x xs w in
        none_longer t has first.0 x (xs ++ ys) (xs ++ zs) first.1 (length (x ∷ xs)) punctuators punctuators_are_simple e

-- The longest spelling, a punctuator, is the longest punctuator.
no_longer : (t : SourceType) (has : Bool) (here xs ys : List ℕ) (kind : Kind)
    → LongestSpelling t has here xs ys kind → (ps : List Punctuator)
    → ((q : Punctuator) → IsIn q ps → IsIn q punctuators)
    → list_all (λ q. not (is_spelled t has here q) || nat_le (length q.text) (length xs)) ps ≡ true
no_longer t has here xs ys kind l [] in_table = refl
no_longer t has here xs ys kind l (q ∷ ps) in_table =
    rw (one (is_spelled t has here q) refl) (no_longer t has here xs ys kind l ps (λ p i. in_table p (inr i)))
  where
    one : (b : Bool) → is_spelled t has here q ≡ b → (not b || nat_le (length q.text) (length xs)) ≡ true
    one false e = refl
    one true e =
        let both =
        and_parts (is_prefix q.text here) (not (is_excluded q t has (drop (length q.text) here))) e in
        let text : here ≡ q.text ++ drop (length q.text) here = prefix_is q.text here both.0 in
        let short : length q.text ≤ length xs =
        l.longest q.text (drop (length q.text) here) q.kind text
        (punctuator q (in_table q (inl refl)) refl (not_true _ both.1) refl) in
        grind (arith, nat_tests)

abbrev longest_punctuator : (t : SourceType) (has : Bool) (here xs ys : List ℕ) (kind : Kind) (p : Punctuator)
    → LongestSpelling t has here xs ys kind → IsIn p punctuators → xs ≡ p.text
    → is_excluded p t has ys ≡ false → kind ≡ p.kind → LongestPunctuator t has here ys kind
longest_punctuator t has here xs ys kind p l i is allowed kind_is = record {
  it = p;
  in_table = i;
  here = l.here ∙ ap (λ z. z ++ ys) is;
  allowed = allowed;
  kind = kind_is;
  longest =
      subst
      (λ n. list_all (λ q. not (is_spelled t has here q) || nat_le (length q.text) n) punctuators ≡ true)
      (ap length is) (no_longer t has here xs ys kind l punctuators (λ q j. j));
}

is_longest : (t : SourceType) (has : Bool) (here ys : List ℕ) (kind : Kind)
    → (l : LongestPunctuator t has here ys kind) → IsLongest t has here punctuators (Some l.it)
is_longest t has here ys kind l = (
  l.in_table,
  subst (λ h. is_spelled t has h l.it ≡ true) (sym l.here) (spelled_at t has l.it ys l.allowed),
  l.longest,
)

punctuator_stays : (t : SourceType) (has is_word : Bool) (xs ys zs : List ℕ) (kind : Kind) (r : Reading)
    → Follows t is_word (last_character xs) ys zs → (l : LongestPunctuator t has (xs ++ ys) ys kind)
    → xs ≡ l.it.text → ReadsHere t has (xs ++ ys) r → StaysRead t has xs zs r
punctuator_stays t has is_word xs ys zs kind r w l is reads =
    let there = punctuator_reads_here t has (l.it.text ++ zs) l.it
    (is_longest t has (l.it.text ++ zs) zs kind
    (longest_there t has is_word ys zs kind (xs ++ ys) l
    (subst (λ z. Follows t is_word (last_character z) ys zs) is w))) in
    by_function t has xs ys zs r (read_punctuator (xs ++ ys) l.it) (read_punctuator (xs ++ zs) l.it) reads
    (punctuator_reads_here t has (xs ++ ys) l.it (is_longest t has (xs ++ ys) ys kind l))
    (subst (λ z. ReadsHere t has (z ++ zs) (read_punctuator (z ++ zs) l.it)) (sym is) there)
    (punctuator_same l.it.text l.it.kind xs ys zs
    (ap (λ z. is_prefix l.it.text (z ++ ys)) is ∙ prefix_of l.it.text ys)
    (ap (λ z. drop (length l.it.text) (z ++ ys)) is ∙ drop-append_seam l.it.text ys))

-- names end as words
name_word : (kind : Kind) (last : ℕ) → is_identifier_name kind ≡ true → ends_as_word kind last ≡ true
name_word kind last e = by_part (is_identifier_part last)
  where
    by_part : (b : Bool) → (b || (is_identifier_name kind || is_one_of (PrivateIdentifier ∷ RegExp ∷ []) kind)) ≡ true
    by_part true = refl
    by_part false = rw e refl

private_is_listed : is_one_of (PrivateIdentifier ∷ RegExp ∷ []) PrivateIdentifier ≡ true
private_is_listed = refl

private_word : (kind : Kind) (last : ℕ) → kind ≡ PrivateIdentifier → ends_as_word kind last ≡ true
private_word kind last e =
    by_parts (is_identifier_part last) (is_identifier_name kind) (is_one_of (PrivateIdentifier ∷ RegExp ∷ []) kind)
    (ap (is_one_of (PrivateIdentifier ∷ RegExp ∷ [])) e ∙ private_is_listed)
  where
    by_parts : (a b c : Bool) → c ≡ true → (a || (b || c)) ≡ true
    by_parts true b c f = refl
    by_parts false true c f = refl
    by_parts false false c f = f

-- By its row: what is spelled is read the same.
spelled_stays : (t : SourceType) (has : Bool) (xs ys zs : List ℕ) (kind : Kind) (r : Reading)
    → FollowsToken t kind xs ys zs → LongestSpelling t has (xs ++ ys) xs ys kind → Spelling t has xs ys kind
    → ReadsHere t has (xs ++ ys) r → r.rest ≡ ys → StaysRead t has xs zs r
spelled_stays t has xs ys zs kind r w l (name is follows kind_is) reads left =
    name_stays t (ends_as_word kind (last_character xs)) has (last_character xs) xs ys zs r
    (name_word kind (last_character xs)
    (ap is_identifier_name kind_is ∙ name_kind-is_identifier_name _)) w is follows reads
spelled_stays t has xs ys zs kind r w l (private_name named is follows here kind_is) reads left =
    subst (λ z. StaysRead t has z zs r) (sym here)
    (private_stays t (ends_as_word kind (last_character xs)) has (last_character xs) named ys zs r
    (private_word kind (last_character xs) kind_is) w is follows
    (subst (λ z. ReadsHere t has (z ++ ys) r) here reads))
spelled_stays t has xs ys zs kind r w l (punctuator p i is allowed kind_is) reads left =
    punctuator_stays t has (ends_as_word kind (last_character xs)) xs ys zs kind r w
    (longest_punctuator t has (xs ++ ys) xs ys kind p l i is allowed kind_is) is reads
spelled_stays t has xs ys zs kind r w l (number is follows) reads left =
    number_stays t has xs ys zs kind r w is follows reads
spelled_stays t has xs ys zs kind r w l (string is kind_is) reads left =
    string_stays t has xs ys zs r is reads
spelled_stays t has xs ys zs kind r w l (template is) reads left =
    template_stays t has xs ys zs kind r is reads
spelled_stays t has xs ys zs kind r w l (end_of_source none nothing kind_is) reads left =
    let empty : zs ≡ ys =
    nothing_behind t (ends_as_word kind (last_character xs)) (last_character xs) ys zs nothing w ∙ sym nothing in
    subst (λ h. ReadsHere t has (xs ++ h) (record r { rest = h })) (sym empty)
    (subst (λ h. ReadsHere t has (xs ++ ys) (record r { rest = h })) left reads)

-- What is read without a fault, and ends before these characters, is read the same before others that follow it.
pub clean_follows : (t : SourceType) (has : Bool) (here xs ys zs : List ℕ) (r : Reading) → here ≡ xs ++ ys
    → FollowsToken t r.kind xs ys zs → ReadsHere t has here r → r.diagnostics ≡ [] → r.rest ≡ ys
    → StaysRead t has xs zs r
clean_follows t has here xs ys zs r cut w (spelled us l is) clean left =
    let text : here ≡ us ++ ys = l.here ∙ ap (λ z. us ++ z) left in
    let front : us ≡ xs = append_cancel_right us xs ys (sym text ∙ cut) in
    let reads : ReadsHere t has (us ++ ys) r =
    subst (λ h. ReadsHere t has h r) text (spelled us l is) in
    let longest : LongestSpelling t has (us ++ ys) us ys r.kind =
    subst (λ h. LongestSpelling t has h us ys r.kind) text
    (subst (λ z. LongestSpelling t has here us z r.kind) left l) in
    subst (λ z. StaysRead t has z zs r) front
    (spelled_stays t has us ys zs r.kind r (subst (λ z. FollowsToken t r.kind z ys zs) (sym front) w) longest
    longest.spelling reads left)
clean_follows t has here xs ys zs r cut w (recovers nothing found) clean left =
    absurd (recovery_reports t has here r nothing found clean)
