-- What is read of regular expressions, angles and parts of JSX: characters that the text begins with, and of which
-- kinds.
use Rattle.std.proofs.Common.{◌≡◌, ◌≢◌, ℕ, zero, suc, ◌<◌, ◌≤◌, Bool, true, false, not, ◌&&◌, ◌||◌, ◌==◌, List, []}
use Rattle.std.proofs.Common.{◌∷◌, ◌++◌, length, drop, refl, sym, ◌∙◌, ap, subst, arith, append_assoc, length-append}
use Rattle.std.proofs.Common.{◌⊎◌}
use Rattle.std.proofs.Common.{inl, inr, Option, None, Some, append-nil}
use Rattle.std.specs.Prelude.{IfSome, if◌then◌else◌, take}
use Rattle.std.specs.List.{list_all}
use Rattle.std.proofs.lemmas.Bool.{eqb-true}
use Rattle.std.proofs.lemmas.List.{take-append-drop}
use Rattle.js_text.specs.Ascii.{backslash, slash, hyphen_minus, less_than_sign}
use Rattle.js_text.specs.Characters.{begins, before_first, from_first, is_identifier_part}
use Rattle.js_text.specs.Characters.{is_line_terminator}
use Rattle.js_text.proofs.TextLemmas.{before_from, from_first-cons, from_first-found}
use Rattle.js_kind.specs.Kinds.{is_identifier_name, is_string_kind, is_template_kind, kind_text}
use Rattle.js_text.specs.declared.value.RowValue.TheVariants.{Nothing}
use Rattle.js_kind.specs.declared.kind.Kind.{Kind}
use Rattle.js_kind.specs.declared.kind.Kind.TheVariants.{Eof, Ident, JSXText, LAngle, LCurly, RegExp, Str}
use Rattle.js_grammar.specs.Angle.{angle_reading, punctuator_reading, right_angles, first_left_angle, first_right_angle}
use Rattle.js_grammar.specs.Gap.{is_prefix}
use Rattle.js_grammar.specs.Reading.{Reading, before_rest, read_up_to, size_of}
use Rattle.js_grammar.specs.Jsx.{begins_child, ends_jsx_name, ends_jsx_text, jsx_child_reading, jsx_name_reading}
use Rattle.js_grammar.specs.Jsx.{jsx_name_up_to, jsx_string_before, jsx_string_reading, jsx_text_before}
use Rattle.js_grammar.specs.ReLexed.{is_re_lexed}
use Rattle.js_grammar.specs.RegularExpression.{behind_all, behind_body, behind_body_character}
use Rattle.js_grammar.specs.RegularExpression.{behind_class, behind_class_character, behind_non_terminator}
use Rattle.js_grammar.specs.RegularExpression.{behind_up_to}
use Rattle.js_grammar.specs.RegularExpression.{ends_flags, expression_of_body, left_square_bracket, regular_expression}
use Rattle.js_grammar.specs.RegularExpression.{regular_expression_reading, right_square_bracket}
use Rattle.js_grammar.specs.RegularExpression.{unterminated_expression}
use Rattle.js_grammar.specs.RegularExpression.{with_flags_behind}
use Rattle.js_grammar.specs.TokenText.{is_private_name, is_quoted, is_valued, unescaped_value}
use Rattle.js_grammar.specs.StringItems.{is_quote}
use Rattle.js_grammar.specs.UnicodeEscape.{left_curly_bracket}
use Rattle.js_grammar.proofs.NumberItems.{true_or_false}
use Rattle.js_grammar.proofs.StringSpans.{TakesCharacters}
use Rattle.js_grammar.proofs.StringSteps.{none_or_some}
use Rattle.js_grammar.proofs.Flags.{none_of_them}
use Rattle.js_grammar.proofs.ReadingLemmas.{IsTaken, is_taken, taken_is, by_choice}
use Rattle.js_grammar.proofs.Tests.{and_true, prefix_is}

-- the text is some characters, and then this
abbrev pub Leaves : List ℕ → List ℕ → Type 0
Leaves text rest = (xs : List ℕ) × (text ≡ xs ++ rest)

leaves_all : (text : List ℕ) → Leaves text text
leaves_all text = ([], refl)

pub leaves_then : (text mid rest : List ℕ) → Leaves text mid → Leaves mid rest → Leaves text rest
leaves_then text mid rest a b =
    (a.0 ++ b.0, a.1 ∙ ap (λ t. a.0 ++ t) b.1 ∙ sym (append_assoc a.0 b.0 rest))

pub leaves_from_first : (p : ℕ → Bool) (cs : List ℕ) → Leaves cs (from_first p cs)
leaves_from_first p cs = (before_first p cs, sym (before_from p cs))

pub leaves_dropped : (n : ℕ) (cs : List ℕ) → Leaves cs (drop n cs)
leaves_dropped n cs = (take n cs, sym (take-append-drop n cs))

takes_behind : (c : ℕ) (cs rest : List ℕ) → Leaves cs rest → TakesCharacters (c ∷ cs) rest
takes_behind c cs rest l = record {
  characters = c ∷ l.0;
  some = λ none. cc;
  here = ap (λ t. c ∷ t) l.1;
}

takes_leaves : (text rest : List ℕ) → TakesCharacters text rest → Leaves text rest
takes_leaves text rest t = (t.characters, t.here)

-- a test of two outcomes, for each of which it is known
by_test : (P : List ℕ → Type 0) (b : Bool) (x y : Option (List ℕ)) → (b ≡ true → IfSome x P) → (b ≡ false → IfSome y P)
    → IfSome (if b then x else y) P
by_test P true x y h k = h refl
by_test P false x y h k = k refl

-- a part of a regular expression is characters that its text begins with
abbrev pub FindsParts : (List ℕ → Option (List ℕ)) → Type 0
FindsParts part = (text : List ℕ) → IfSome (part text) (TakesCharacters text)

pub part_takes : (part : List ℕ → Option (List ℕ)) → FindsParts part → (text rest : List ℕ) → part text ≡ Some rest
    → TakesCharacters text rest
part_takes part finds text rest e = subst (λ found. IfSome found (TakesCharacters text)) e (finds text)

pub part_shorter : (part : List ℕ → Option (List ℕ)) → FindsParts part → (text rest : List ℕ) → part text ≡ Some rest
    → length rest < length text
part_shorter part finds text rest e =
    let taken = part_takes part finds text rest e in
    omega (arith, ap length taken.here, length-append taken.characters rest, some_length taken.characters taken.some)
  where
    some_length : (xs : List ℕ) → xs ≢ [] → 0 < length xs
    some_length [] some = absurd (some refl)
    some_length (x ∷ xs) some = omega arith

pub behind_up_to_leaves : (part : List ℕ → Option (List ℕ)) → FindsParts part → (most : ℕ) (text : List ℕ)
    → Leaves text (behind_up_to part most text)
behind_up_to_leaves part finds zero text = leaves_all text
behind_up_to_leaves part finds (suc most) text =
    elim (none_or_some (part text)) [
      | inl e ↦ rw e (leaves_all text)
      | inr (rest, e) ↦ rw e
          (leaves_then text rest (behind_up_to part most rest)
          (takes_leaves text rest (part_takes part finds text rest e)) (behind_up_to_leaves part finds most rest))
    ]

-- where there is room for all parts, more room changes nothing
enough_room : (part : List ℕ → Option (List ℕ)) → FindsParts part → (n m : ℕ) (text : List ℕ) → length text ≤ n
    → length text ≤ m → behind_up_to part n text ≡ behind_up_to part m text
enough_room part finds zero zero text h k = refl
enough_room part finds zero (suc m) text h k =
    elim (none_or_some (part text)) [
      | inl e ↦ rw e refl
      | inr (rest, e) ↦ (let less = part_shorter part finds text rest e in absurd (omega arith))
    ]
enough_room part finds (suc n) zero text h k =
    elim (none_or_some (part text)) [
      | inl e ↦ rw e refl
      | inr (rest, e) ↦ (let less = part_shorter part finds text rest e in absurd (omega arith))
    ]
enough_room part finds (suc n) (suc m) text h k =
    elim (none_or_some (part text)) [
      | inl e ↦ rw e refl
      | inr (rest, e) ↦ (
          let less = part_shorter part finds text rest e in
          rw e (enough_room part finds n m rest (omega arith) (omega arith)))
    ]

-- behind a part stand those that are behind it
pub one_part : (part : List ℕ → Option (List ℕ)) → FindsParts part → (text rest : List ℕ) → part text ≡ Some rest
    → behind_all part text ≡ behind_all part rest
one_part part finds [] rest e = absurd (let less = part_shorter part finds [] rest e in omega arith)
one_part part finds (c ∷ cs) rest e =
    let less = part_shorter part finds (c ∷ cs) rest e in
    rw e (enough_room part finds (length cs) (length rest) rest (omega arith) (omega arith))

-- where none is, all is left
pub no_part : (part : List ℕ → Option (List ℕ)) → (text : List ℕ) → part text ≡ None → behind_all part text ≡ text
no_part part [] e = refl
no_part part (c ∷ cs) e = rw e refl

pub finds_non_terminators : FindsParts behind_non_terminator
finds_non_terminators [] = tt
finds_non_terminators (c ∷ cs) =
    by_test (TakesCharacters (c ∷ cs)) (is_line_terminator c) None (Some cs) (λ _. tt)
    (λ _. takes_behind c cs cs (leaves_all cs))

-- a character, and a part behind it
part_behind : (c : ℕ) (cs : List ℕ) (found : Option (List ℕ)) → IfSome found (Leaves cs)
    → IfSome found (TakesCharacters (c ∷ cs))
part_behind c cs None l = tt
part_behind c cs (Some rest) l = takes_behind c cs rest l

part_leaves : (cs : List ℕ) (found : Option (List ℕ)) → IfSome found (TakesCharacters cs) → IfSome found (Leaves cs)
part_leaves cs None t = tt
part_leaves cs (Some rest) t = takes_leaves cs rest t

escaped_behind : (c : ℕ) (cs : List ℕ) → IfSome (behind_non_terminator cs) (TakesCharacters (c ∷ cs))
escaped_behind c cs =
    part_behind c cs (behind_non_terminator cs) (part_leaves cs (behind_non_terminator cs) (finds_non_terminators cs))

pub finds_class_characters : FindsParts behind_class_character
finds_class_characters [] = tt
finds_class_characters (c ∷ cs) =
    by_test (TakesCharacters (c ∷ cs)) (c == backslash) _ _ (λ _. escaped_behind c cs)
    (λ _. by_test (TakesCharacters (c ∷ cs)) (c == right_square_bracket) None _ (λ _. tt)
    (λ _. finds_non_terminators (c ∷ cs)))

class_leaves : (text : List ℕ) → IfSome (behind_class text) (Leaves text)
class_leaves text =
    let left = behind_all behind_class_character text in
    by_test (Leaves text) (begins (λ c. c == right_square_bracket) left) (Some (drop 1 left)) None
    (λ _. leaves_then text left (drop 1 left)
    (behind_up_to_leaves behind_class_character finds_class_characters (length text) text) (leaves_dropped 1 left))
    (λ _. tt)

pub finds_body_characters : FindsParts behind_body_character
finds_body_characters [] = tt
finds_body_characters (c ∷ cs) =
    by_test (TakesCharacters (c ∷ cs)) (c == backslash) _ _ (λ _. escaped_behind c cs)
    (λ _. by_test (TakesCharacters (c ∷ cs)) (c == left_square_bracket) _ _
    (λ _. part_behind c cs (behind_class cs) (class_leaves cs))
    (λ _. by_test (TakesCharacters (c ∷ cs)) (c == slash) None _ (λ _. tt) (λ _. finds_non_terminators (c ∷ cs))))

pub body_leaves : (text : List ℕ) → Leaves text (behind_body text)
body_leaves text = behind_up_to_leaves behind_body_character finds_body_characters (length text) text

-- by what is left behind its body a regular expression is good or at fault
pub expression_terminated : (text left : List ℕ) → begins (λ c. c == slash) left ≡ true
    → expression_of_body text left ≡ with_flags_behind text left
unfolding expression_of_body
expression_terminated text left e = rw e refl

pub expression_unterminated : (text left : List ℕ) → begins (λ c. c == slash) left ≡ false
    → expression_of_body text left ≡ unterminated_expression text
unfolding expression_of_body
expression_unterminated text left e = rw e refl

-- a string between two quotes
pub record IsBetweenQuotes (text rest : List ℕ) (kind : Kind) : Type 0 where
  pub quote : ℕ
  pub is_quote : is_quote quote ≡ true
  pub inner : List ℕ
  pub here : text ≡ quote ∷ (inner ++ (quote ∷ rest))
  pub kind_is : kind ≡ Str

-- What is known of what is read without an escape and a separator: its characters, its value, the spelling of a kind
-- that may be read again, and the quotes of a string.
pub record IsRead (text : List ℕ) (read : Reading) : Type 0 where
  pub taken : IsTaken text read
  pub line : read.line_ended ≡ false
  pub escaped : read.escaped ≡ false
  pub separator : read.has_separator ≡ false
  pub value : read.value ≡ unescaped_value read.kind 0 (size_of read)
  pub no_private : is_private_name read.kind ≡ false
  pub spelling : is_re_lexed read.kind ≡ true → read.taken ≡ kind_text read.kind
  pub quotes : is_quoted read.kind ≡ true → IsBetweenQuotes text read.rest read.kind

pub never : {A : Type 0} (b : Bool) → b ≡ false → b ≡ true → A
never b e f = absurd (let no : true ≡ false = sym f ∙ e in cc)

-- kinds of no names, strings and templates, that are not read again
pub record IsBare (kind : Kind) : Type 0 where
  pub no_private : is_private_name kind ≡ false
  pub read_once : is_re_lexed kind ≡ false
  pub no_quotes : is_quoted kind ≡ false

pub record AreBare : Type 0 where
  pub end : IsBare Eof
  pub expression : IsBare RegExp
  pub name : IsBare Ident
  pub text : IsBare JSXText
  pub angle : IsBare LAngle
  pub bracket : IsBare LCurly

pub bare : AreBare
unfolding is_private_name is_re_lexed is_string_kind is_template_kind
bare = record {
  end = record { no_private = refl; read_once = refl; no_quotes = refl };
  expression = record { no_private = refl; read_once = refl; no_quotes = refl };
  name = record { no_private = refl; read_once = refl; no_quotes = refl };
  text = record { no_private = refl; read_once = refl; no_quotes = refl };
  angle = record { no_private = refl; read_once = refl; no_quotes = refl };
  bracket = record { no_private = refl; read_once = refl; no_quotes = refl };
}

-- of these kinds no token has a value
pub record AreValueless : Type 0 where
  pub end : is_valued Eof ≡ false
  pub expression : is_valued RegExp ≡ false
  pub text : is_valued JSXText ≡ false
  pub angle : is_valued LAngle ≡ false
  pub bracket : is_valued LCurly ≡ false

pub valueless : AreValueless
unfolding is_identifier_name is_private_name is_string_kind is_template_kind
valueless = record { end = refl; expression = refl; text = refl; angle = refl; bracket = refl }

-- nothing is said of a token beside its kind, what is reported, and what is known of a regular expression
pub record IsPlain (text : List ℕ) (read : Reading) : Type 0 where
  pub taken : read.taken ≡ before_rest text read.rest
  pub line : read.line_ended ≡ false
  pub escaped : read.escaped ≡ false
  pub separator : read.has_separator ≡ false

of_kind : (text : List ℕ) (read : Reading) → IsBare read.kind → IsPlain text read
    → read.value ≡ unescaped_value read.kind 0 (size_of read) → IsTaken text read → IsRead text read
of_kind text read is plain value taken = record {
  taken = taken;
  line = plain.line;
  escaped = plain.escaped;
  separator = plain.separator;
  value = value;
  no_private = is.no_private;
  spelling = never (is_re_lexed read.kind) is.read_once;
  quotes = never (is_quoted read.kind) is.no_quotes;
}

nothing_is_plain : (kind : Kind) (size : ℕ) → is_valued kind ≡ false → Nothing ≡ unescaped_value kind 0 size
nothing_is_plain kind size none = rw none refl

characters_are_taken : (text : List ℕ) (read : Reading) → IsPlain text read → TakesCharacters text read.rest
    → IsTaken text read
characters_are_taken text read plain taken =
    is_taken text read taken.characters plain.taken taken.here (λ _. taken.some)

bare_read : (text : List ℕ) (read : Reading) → IsBare read.kind → is_valued read.kind ≡ false → IsPlain text read
    → read.value ≡ Nothing → TakesCharacters text read.rest → IsRead text read
bare_read text read is none plain nothing taken =
    of_kind text read is plain (nothing ∙ nothing_is_plain read.kind (size_of read) none)
    (characters_are_taken text read plain taken)

end_read : (text : List ℕ) (read : Reading) → read.kind ≡ Eof → IsPlain text read → read.value ≡ Nothing
    → Leaves text read.rest → IsRead text read
end_read text read end plain nothing left =
    of_kind text read (subst IsBare (sym end) bare.end) plain
    (nothing ∙ nothing_is_plain read.kind (size_of read) (ap is_valued end ∙ valueless.end))
    (is_taken text read left.0 plain.taken left.1 (λ some. absurd (some end)))

as_read : (text : List ℕ) (read : Reading) → read.taken ≡ before_rest text read.rest → read.line_ended ≡ false
    → read.escaped ≡ false → read.has_separator ≡ false → IsPlain text read
as_read text read taken line escaped separator =
    record { taken = taken; line = line; escaped = escaped; separator = separator }

expression_is_read : (cs : List ℕ) → IsRead (slash ∷ cs) (regular_expression cs)
expression_is_read cs =
    let left = behind_body cs in
    let text = slash ∷ cs in
    elim (true_or_false (begins (λ d. d == slash) left)) [
      | inl e ↦ rw (expression_terminated text left e)
          (bare_read text (with_flags_behind text left) bare.expression valueless.expression
          (as_read text (with_flags_behind text left) refl refl refl refl) refl
          (takes_behind slash cs (from_first ends_flags (drop 1 left))
          (leaves_then cs left (from_first ends_flags (drop 1 left)) (body_leaves cs)
          (leaves_then left (drop 1 left) (from_first ends_flags (drop 1 left)) (leaves_dropped 1 left)
          (leaves_from_first ends_flags (drop 1 left))))))
      | inr e ↦ rw (expression_unterminated text left e)
          (bare_read text (unterminated_expression text) bare.expression valueless.expression
          (as_read text (unterminated_expression text) refl refl refl refl) refl
          (takes_behind slash cs [] (cs, sym (append-nil cs))))
    ]

pub expression_read : (text : List ℕ) → IfSome (regular_expression_reading text) (IsRead text)
expression_read [] = tt
expression_read (c ∷ cs) =
    by_choice (λ (found : Option Reading). IfSome found (IsRead (c ∷ cs))) (c == slash) _ None
    (λ e. subst (λ d. IsRead (d ∷ cs) (regular_expression cs)) (sym (eqb-true c slash e)) (expression_is_read cs))
    (λ _. tt)

abbrev is_empty : List ℕ → Bool
is_empty [] = true
is_empty (c ∷ cs) = false

-- kinds with a text of their own, of no names, strings and templates
abbrev pub is_angle : Kind → Bool
is_angle kind = not (is_empty (kind_text kind)) && not (is_valued kind)

not_true : (b : Bool) → not b ≡ true → b ≡ false
not_true true e = absurd (cc)
not_true false e = refl

punctuator_is_read : (kind : Kind) (text : List ℕ) → is_angle kind ≡ true → is_prefix (kind_text kind) text ≡ true
    → IsRead text (punctuator_reading kind text)
punctuator_is_read kind text angle begun =
    let both = and_true (not (is_empty (kind_text kind))) (not (is_valued kind)) angle in
    let valued = not_true (is_valued kind) both.1 in
    let none = none_of_them kind valued in
    let here : text ≡ kind_text kind ++ (punctuator_reading kind text).rest = prefix_is (kind_text kind) text begun in
    record {
      taken = is_taken text (punctuator_reading kind text) (kind_text kind) refl here
          (λ _ no_text. (let no : false ≡ true = sym (ap (λ xs. not (is_empty xs)) no_text) ∙ both.0 in cc));
      line = refl;
      escaped = refl;
      separator = refl;
      value = nothing_is_plain kind _ valued;
      no_private = none.no_private_name;
      spelling = λ _. taken_is text (kind_text kind) (punctuator_reading kind text).rest here;
      quotes = never (is_quoted kind) none.no_quoted;
    }

pub angle_is_read : (kinds : List Kind) (text : List ℕ) → list_all is_angle kinds ≡ true
    → IfSome (angle_reading kinds text) (IsRead text)
angle_is_read [] text angles = tt
angle_is_read (kind ∷ kinds) text angles =
    let both = and_true (is_angle kind) (list_all is_angle kinds) angles in
    by_choice (λ (found : Option Reading). IfSome found (IsRead text)) (is_prefix (kind_text kind) text) _ _
    (λ begun. punctuator_is_read kind text both.0 begun) (λ _. angle_is_read kinds text both.1)

pub record AreAngles : Type 0 where
  pub longest : list_all is_angle right_angles ≡ true
  pub left : list_all is_angle first_left_angle ≡ true
  pub right : list_all is_angle first_right_angle ≡ true

pub angles : AreAngles
unfolding is_identifier_name is_private_name is_string_kind is_template_kind
angles = record { longest = refl; left = refl; right = refl }

-- where the whole text is left, nothing was taken
text_is_read : (text left : List ℕ) → Leaves text left
    → (begins begins_child left ≡ true → TakesCharacters text left) → IsRead text (jsx_text_before text left)
text_is_read text [] l some = end_read text (read_up_to Eof text []) refl (as_read text _ refl refl refl refl) refl l
text_is_read text (c ∷ cs) l some =
    by_choice (IsRead text) (begins_child c) _ _
    (λ e. bare_read text (read_up_to JSXText text (c ∷ cs)) bare.text valueless.text
    (as_read text _ refl refl refl refl) refl
    (some e))
    (λ _. end_read text _ refl (as_read text _ refl refl refl refl) refl l)

pub child_is_read : (text : List ℕ) → IsRead text (jsx_child_reading text)
child_is_read [] = end_read [] (read_up_to Eof [] []) refl (as_read [] _ refl refl refl refl) refl (leaves_all [])
child_is_read (c ∷ cs) =
    by_choice (IsRead (c ∷ cs)) (c == less_than_sign) _ _
    (λ _. bare_read (c ∷ cs) (read_up_to LAngle (c ∷ cs) cs) bare.angle valueless.angle
    (as_read (c ∷ cs) _ refl refl refl refl) refl (takes_behind c cs cs (leaves_all cs)))
    (λ no_angle. by_choice (IsRead (c ∷ cs)) (c == left_curly_bracket) _ _
    (λ _. bare_read (c ∷ cs) (read_up_to LCurly (c ∷ cs) cs) bare.bracket valueless.bracket
    (as_read (c ∷ cs) _ refl refl refl refl) refl (takes_behind c cs cs (leaves_all cs)))
    (λ no_bracket. text_is_read (c ∷ cs) (from_first ends_jsx_text (c ∷ cs))
    (leaves_from_first ends_jsx_text (c ∷ cs)) (behind no_angle no_bracket)))
  where
    behind : (c == less_than_sign) ≡ false → (c == left_curly_bracket) ≡ false
        → begins begins_child (from_first ends_jsx_text (c ∷ cs)) ≡ true
        → TakesCharacters (c ∷ cs) (from_first ends_jsx_text (c ∷ cs))
    behind no_angle no_bracket e =
        elim (true_or_false (ends_jsx_text c)) [
          | inl ends ↦ never (begins_child c) (rw (no_angle, no_bracket) refl)
              (sym (ap (begins begins_child) (from_first-found ends_jsx_text c cs ends)) ∙ e)
          | inr goes_on ↦ subst (TakesCharacters (c ∷ cs)) (sym (from_first-cons ends_jsx_text c cs goes_on))
              (takes_behind c cs (from_first ends_jsx_text cs) (leaves_from_first ends_jsx_text cs))
        ]

string_facts : (is_private_name Str ≡ false) × (is_re_lexed Str ≡ false)
unfolding is_private_name is_re_lexed
string_facts = (refl, refl)

string_is_read : (quote : ℕ) (cs left : List ℕ) → is_quote quote ≡ true → Leaves cs left
    → (begins (λ d. d == quote) left ≡ true) ⊎ (left ≡ [])
    → IsRead (quote ∷ cs) (jsx_string_before (quote ∷ cs) left)
string_is_read quote cs [] is l next =
    end_read (quote ∷ cs) (jsx_string_before (quote ∷ cs) []) refl (as_read (quote ∷ cs) _ refl refl refl refl) refl
    (quote ∷ cs, sym (append-nil (quote ∷ cs)))
string_is_read quote cs (d ∷ ds) is l (inr none) = absurd (cc)
string_is_read quote cs (d ∷ ds) is l (inl closed) =
    let same : d ≡ quote = eqb-true d quote closed in
    let here : quote ∷ cs ≡ quote ∷ (l.0 ++ (quote ∷ ds)) =
    ap (λ t. quote ∷ t) (l.1 ∙ ap (λ q. l.0 ++ (q ∷ ds)) same) in
    record {
      taken =
          is_taken (quote ∷ cs) (jsx_string_before (quote ∷ cs) (d ∷ ds)) (quote ∷ (l.0 ++ quote ∷ [])) refl
          (here ∙ ap (λ t. quote ∷ t) (sym (append_assoc l.0 (quote ∷ []) ds))) (λ _ none. cc);
      line = refl;
      escaped = refl;
      separator = refl;
      value = refl;
      no_private = string_facts.0;
      spelling = never (is_re_lexed Str) string_facts.1;
      quotes = λ _. record { quote = quote; is_quote = is; inner = l.0; here = here; kind_is = refl };
    }

-- the first character that passes, or none
stops_there : (p : ℕ → Bool) (cs : List ℕ) → (begins p (from_first p cs) ≡ true) ⊎ (from_first p cs ≡ [])
stops_there p [] = inr refl
stops_there p (c ∷ cs) =
    elim (true_or_false (p c)) [ inl e ↦ rw e (inl e) | inr e ↦ rw e (stops_there p cs) ]

pub attribute_is_read : (text : List ℕ) → IfSome (jsx_string_reading text) (IsRead text)
attribute_is_read [] = tt
attribute_is_read (c ∷ cs) =
    by_choice (λ (found : Option Reading). IfSome found (IsRead (c ∷ cs))) (is_quote c) _ None
    (λ is. string_is_read c cs (from_first (λ d. d == c) cs) is (leaves_from_first (λ d. d == c) cs)
    (stops_there (λ d. d == c) cs)) (λ _. tt)

hyphen_goes_on : (c : ℕ) → (c == hyphen_minus) ≡ true → ends_jsx_name c ≡ false
hyphen_goes_on c e = rw e (or_true (is_identifier_part c))
  where
    or_true : (b : Bool) → not (b || true) ≡ false
    or_true true = refl
    or_true false = refl

none_behind : (xs ys : List ℕ) → xs ++ ys ≡ [] → ys ≡ []
none_behind [] ys e = e
none_behind (x ∷ xs) ys e = absurd (cc)

-- of a name of JSX that goes on, with its first part
pub jsx_name_is_read : (part text : List ℕ) → IfSome (jsx_name_reading part text) (IsRead (part ++ text))
jsx_name_is_read part [] = tt
jsx_name_is_read part (c ∷ cs) =
    by_choice (λ (found : Option Reading). IfSome found (IsRead (part ++ (c ∷ cs)))) (c == hyphen_minus) _ None
    (λ e. goes_on (from_first ends_jsx_name (c ∷ cs))
    (subst (TakesCharacters (c ∷ cs)) (sym (from_first-cons ends_jsx_name c cs (hyphen_goes_on c e)))
    (takes_behind c cs (from_first ends_jsx_name cs) (leaves_from_first ends_jsx_name cs)))) (λ _. tt)
  where
    goes_on : (rest : List ℕ) → TakesCharacters (c ∷ cs) rest
        → IsRead (part ++ (c ∷ cs)) (jsx_name_up_to part (c ∷ cs) rest)
    goes_on rest took =
        let text = part ++ (c ∷ cs) in
        of_kind text (jsx_name_up_to part (c ∷ cs) rest) bare.name
        (as_read text (jsx_name_up_to part (c ∷ cs) rest) refl refl refl refl) refl
        (is_taken text (jsx_name_up_to part (c ∷ cs) rest) (part ++ took.characters) refl
        (ap (λ t. part ++ t) took.here ∙ sym (append_assoc part took.characters rest))
        (λ _ none. took.some (none_behind part took.characters none)))
