-- Names and strings that are read without a fault.
use Rattle.std.proofs.Common.{◌≡◌, ℕ, Bool, true, false, List, [], ◌∷◌, ◌++◌, refl, sym, ◌∙◌, ap, subst}
use Rattle.std.specs.Prelude.{Option, unwrap_or}
use Rattle.std.specs.Str.{IsUtf8, encode_utf8_all}
use Rattle.js_text.specs.Characters.{from_place, begins}
use Rattle.js_text.specs.JsStr.{units_of}
use Rattle.js_text.specs.declared.diagnostic.Diagnostic.{Diagnostic}
use Rattle.js_text.specs.declared.source_type.SourceType.{SourceType}
use Rattle.js_text.specs.declared.value.RowValue.TheVariants.{Units}
use Rattle.js_kind.specs.Kinds.{is_identifier_name, is_template_kind, is_string_kind}
use Rattle.js_kind.specs.TokenParts.{TokenParts}
use Rattle.js_kind.specs.declared.kind.Kind.{Kind}
use Rattle.js_kind.specs.declared.kind.Kind.TheVariants.{PrivateIdentifier, NoSubstitutionTemplate, Str, TemplateHead}
use Rattle.js_kind.specs.declared.kind.Kind.TheVariants.{Eof, HashbangComment}
use Rattle.js_kind.proofs.NameKinds.{name_kind-is_identifier_name}
use Rattle.js_grammar.specs.Goals.{GoalReads, ReadsPlainly, ReadsHere}
use Rattle.js_grammar.specs.Goals.{line_has_ended_behind}
use Rattle.js_grammar.specs.Goals.ReadsHere.{spelled as spelled_here, recovers}
use Rattle.js_grammar.specs.Goals.ReadsPlainly.{hashbang as hashbang_read, behind_gap}
use Rattle.js_grammar.specs.Name.{has_escape, decoded}
use Rattle.js_grammar.specs.Outcome.{Outcome, gap_diagnostics}
use Rattle.js_grammar.specs.Quoted.{units_in}
use Rattle.js_grammar.specs.Reads.{PlainReads, is_plain}
use Rattle.js_grammar.specs.Reads.PlainReads.{hashbang, spelled}
use Rattle.js_grammar.specs.Reading.{Reading, reported_at}
use Rattle.js_grammar.specs.Spelling.{Spelling, is_escaped}
use Rattle.js_grammar.specs.TokenText.{is_private_name, is_valued, text_slice}
use Rattle.js_grammar.specs.Spelling.Spelling.{name, private_name, punctuator, number, string, template}
use Rattle.js_grammar.specs.Spelling.Spelling.{end_of_source}
use Rattle.js_grammar.specs.StringItems.{StringItem, StringItems, IsString, contains_escape, is_quote}
use Rattle.js_grammar.specs.StringItems.{string_text, string_units}
use Rattle.js_grammar.specs.Template.{IsTemplatePart}
use Rattle.js_grammar.specs.Template.IsTemplatePart.{no_substitution, head}
use Rattle.js_grammar.specs.Values.{IsValueOf, decoded_value, decoded_units}
use Rattle.js_grammar.specs.TokenText.{unescaped_value}
use Rattle.js_grammar.specs.declared.goal.Goal.{Goal}
use Rattle.js_grammar.specs.declared.goal.Goal.TheVariants.{First, Next, TemplateTail}
use Rattle.js_grammar.specs.declared.goal.Goal.TheVariants.{RegularExpression, RightAngle, TypeScriptLeftAngle}
use Rattle.js_grammar.specs.declared.goal.Goal.TheVariants.{TypeScriptRightAngle, JsxIdentifier, JsxChild}
use Rattle.js_grammar.specs.declared.goal.Goal.TheVariants.{JsxAttributeValue}
use Rattle.js_grammar.proofs.Clean.{none_moved, recovery_reports}
use Rattle.js_grammar.proofs.Flags.{none_of_them, punctuator_unflagged, end_unflagged}
use Rattle.js_grammar.proofs.NumberKinds.{number_kind, unmarked_parts}
use Rattle.js_grammar.proofs.QuotedValues.{string_read_at}
use Rattle.js_grammar.proofs.SpellingClasses.{SpelledName}
use Rattle.js_grammar.proofs.StringBegins.{string_is_escaped, string_has_own_units}
use Rattle.js_grammar.proofs.StringLaws.{string_begins}
use Rattle.js_grammar.proofs.Values.{goal_reads_value}
use Rattle.js_lexer.proofs.NoHashbang.{hashbang_is_no_name}
use Rattle.js_lexer.specs.Laws.{IsNameOfWord, IsStringOfItems, units_of_items}
use Rattle.js_lexer.specs.Lexer.{LexerState, ReadsToken}

no_name : {A : Type 0} (kind : Kind) → is_identifier_name kind ≡ false → is_identifier_name kind ≡ true → A
no_name kind none is = absurd (let no : true ≡ false = sym is ∙ none in cc)

private_is_no_name : is_identifier_name PrivateIdentifier ≡ false
unfolding is_identifier_name
private_is_no_name = refl

string_is_no_name : is_identifier_name Str ≡ false
unfolding is_identifier_name
string_is_no_name = refl

template_is_no_name : (xs ys : List ℕ) (kind : Kind) → IsTemplatePart xs ys kind → is_identifier_name kind ≡ false
unfolding is_identifier_name
template_is_no_name xs ys kind (no_substitution part e) = ap is_identifier_name e
template_is_no_name xs ys kind (head part e) = ap is_identifier_name e

-- What is spelled with the kind of a name is a name.
spelled_name : (t : SourceType) (line_has_ended : Bool) (xs ys : List ℕ) (kind : Kind)
    → Spelling t line_has_ended xs ys kind → is_identifier_name kind ≡ true → SpelledName xs ys kind
spelled_name t line_has_ended xs ys kind (name is follows kind_is) named =
    record { name = is; follows = follows; kind_is = kind_is }
spelled_name t line_has_ended xs ys kind (private_name inner is follows same kind_is) named =
    no_name kind (ap is_identifier_name kind_is ∙ private_is_no_name) named
spelled_name t line_has_ended xs ys kind (punctuator p i same allowed kind_is) named =
    no_name kind (none_of_them kind (punctuator_unflagged p kind i kind_is).no_value).no_name named
spelled_name t line_has_ended xs ys kind (number is follows) named =
    no_name kind (none_of_them kind (unmarked_parts kind (number_kind xs kind is).unmarked).0).no_name named
spelled_name t line_has_ended xs ys kind (string is kind_is) named =
    no_name kind (ap is_identifier_name kind_is ∙ string_is_no_name) named
spelled_name t line_has_ended xs ys kind (template is) named =
    no_name kind (template_is_no_name xs ys kind is) named
spelled_name t line_has_ended xs ys kind (end_of_source none at_end kind_is) named =
    no_name kind (ap is_identifier_name kind_is ∙ (none_of_them Eof end_unflagged.no_value).no_name) named

-- What the grammar reads with the kind of a name is a name.
name_of_word : (text : List ℕ) (t : SourceType) (goal : Goal) (line_has_ended : Bool) (place : ℕ) (token : TokenParts)
    → PlainReads text t goal line_has_ended place token → is_identifier_name token.kind ≡ true
    → IsNameOfWord text token
name_of_word text t goal line_has_ended place token (hashbang begun is newline) named =
    no_name token.kind (ap is_identifier_name is.kind ∙ hashbang_is_no_name) named
name_of_word text t goal line_has_ended place token (spelled begun is) named =
    let found =
    spelled_name t token.is_on_new_line is.spelled (from_place text token.end) token.kind is.spelling.spelling named in
    record { characters = is.spelled; here = is.spelling.here; name = found.name; kind = found.kind_is }

pub read_name_of_word : (goal : Goal) (old new : LexerState) (token : TokenParts) → is_plain goal ≡ true
    → (read : ReadsToken goal old token new) → read.outcome.findings.diagnostics ≡ []
    → is_identifier_name token.kind ≡ true → IsNameOfWord old.text token
read_name_of_word goal old new token plain read clean named =
    subst (IsNameOfWord old.text) (sym read.token_is)
    (name_of_word old.text old.source_type goal (line_has_ended_behind old.last) old.place read.outcome.token
    ((read.agrees plain).plain clean) (ap (λ (x : TokenParts). is_identifier_name x.kind) (sym read.token_is) ∙ named))

-- strings have a value, and are no templates
string_kinds : (is_valued Str ≡ true) × (is_template_kind Str ≡ false)
unfolding is_identifier_name is_private_name is_string_kind is_template_kind
string_kinds = (refl, refl)

string_escape : (xs : List ℕ) → is_escaped Str xs ≡ has_escape xs
unfolding is_identifier_name is_private_name is_string_kind is_template_kind
string_escape xs = refl

no_string : {A : Type 0} (kind : Kind) → is_valued kind ≡ false → kind ≡ Str → A
no_string kind none is = absurd (let no : true ≡ false = sym string_kinds.0 ∙ ap is_valued (sym is) ∙ none in cc)

no_string_name : {A : Type 0} (kind : Kind) → is_identifier_name kind ≡ true → kind ≡ Str → A
no_string_name kind named is =
    absurd (let no : true ≡ false = sym named ∙ ap is_identifier_name is ∙ string_is_no_name in cc)

no_string_template : (xs ys : List ℕ) (kind : Kind) → IsTemplatePart xs ys kind → kind ≡ Str → IsString xs ys
no_string_template xs ys kind (no_substitution part e) is =
    absurd (let no : NoSubstitutionTemplate ≡ Str = sym e ∙ is in cc)
no_string_template xs ys kind (head part e) is = absurd (let no : TemplateHead ≡ Str = sym e ∙ is in cc)

-- What is spelled with the kind of strings is a string.
spelled_string : (t : SourceType) (line_has_ended : Bool) (xs ys : List ℕ) (kind : Kind)
    → Spelling t line_has_ended xs ys kind → kind ≡ Str → IsString xs ys
spelled_string t line_has_ended xs ys kind (name is follows kind_is) e =
    no_string_name kind (ap is_identifier_name kind_is ∙ name_kind-is_identifier_name (encode_utf8_all (decoded xs))) e
spelled_string t line_has_ended xs ys kind (private_name inner is follows same kind_is) e =
    absurd (let no : PrivateIdentifier ≡ Str = sym kind_is ∙ e in cc)
spelled_string t line_has_ended xs ys kind (punctuator p i same allowed kind_is) e =
    no_string kind (punctuator_unflagged p kind i kind_is).no_value e
spelled_string t line_has_ended xs ys kind (number is follows) e =
    no_string kind (unmarked_parts kind (number_kind xs kind is).unmarked).0 e
spelled_string t line_has_ended xs ys kind (string is kind_is) e = is
spelled_string t line_has_ended xs ys kind (template is) e = no_string_template xs ys kind is e
spelled_string t line_has_ended xs ys kind (end_of_source none at_end kind_is) e =
    absurd (let no : Eof ≡ Str = sym kind_is ∙ e in cc)

-- a string that was read where the text begins
record StringHere (here : List ℕ) (r : Reading) : Type 0 where
  pub characters : List ℕ
  pub here_is : here ≡ characters ++ r.rest
  pub is_string : IsString characters r.rest
  pub escape : r.escaped ≡ contains_escape is_string.items

string_here_read : (t : SourceType) (line_has_ended : Bool) (here : List ℕ) (r : Reading)
    → ReadsHere t line_has_ended here r → r.diagnostics ≡ [] → r.kind ≡ Str → StringHere here r
string_here_read t line_has_ended here r (spelled_here xs spelling is) clean kind =
    let found = spelled_string t line_has_ended xs r.rest r.kind spelling.spelling kind in
    record {
      characters = xs;
      here_is = spelling.here;
      is_string = found;
      escape =
          ap (λ (x : Reading). x.escaped) is ∙ ap (λ k. is_escaped k xs) kind ∙ string_escape xs
          ∙ sym (string_is_escaped xs r.rest found);
    }
string_here_read t line_has_ended here r (recovers nothing e) clean kind =
    absurd (recovery_reports t line_has_ended here r nothing e clean)

behind_is_nil : (xs ys : List Diagnostic) → xs ++ ys ≡ [] → ys ≡ []
behind_is_nil [] ys e = e
behind_is_nil (x ∷ xs) ys e = absurd (cc)

-- units, one item after the other
units_are : (items : List StringItem) → string_units items ≡ units_of_items items
units_are [] = refl
units_are (x ∷ xs) = ap (λ us. x.units ++ us) (units_are xs)

-- what a string with an escape stands for
string_stands_for : (xs ys : List ℕ) (is : IsString xs ys) → contains_escape is.items ≡ true
    → decoded_units (xs ++ ys) ≡ units_of_items is.items
string_stands_for xs ys is escaped =
    rw (quote_first xs ys (string_begins xs ys is))
    (ap (λ (r : Reading). unwrap_or (units_in r.value) []) (string_read_at xs ys is)
    ∙ rw escaped (units_are is.items))
  where
    quote_first : (xs ys : List ℕ) → begins is_quote xs ≡ true → begins is_quote (xs ++ ys) ≡ true
    quote_first [] ys e = absurd (cc)
    quote_first (x ∷ xs) ys e = e

-- and where it has no escape, it has the units of its characters
string_stands_for_itself : (xs ys : List ℕ) (is : IsString xs ys) → contains_escape is.items ≡ false
    → units_of (string_text is.items) ≡ units_of_items is.items
string_stands_for_itself xs ys is none =
    let behind = string_text is.items ++ (is.quote ∷ ys) in
    let own =
    string_has_own_units is.quote behind (ap (λ (f : StringItems). contains_escape f.items) is.found ∙ none) in
    sym
    (sym (units_are is.items)
    ∙ ap (λ (f : StringItems). string_units f.items) (sym is.found) ∙ own
    ∙ ap (λ (f : StringItems). units_of (string_text f.items)) is.found)

string_value : (text : List ℕ) (o : Outcome) (ys : List ℕ) (r : Reading) → IsValueOf text o.token o.value
    → o.token.kind ≡ Str → o.token.escaped ≡ r.escaped → r.rest ≡ from_place text o.token.end
    → StringHere (from_place text o.token.start) r → IsStringOfItems text o
string_value text o ys r value kind escaped rest found =
    let moved : IsString found.characters (from_place text o.token.end) =
    subst (IsString found.characters) rest found.is_string in
    let here : from_place text o.token.start ≡ found.characters ++ from_place text o.token.end =
    found.here_is ∙ ap (λ zs. found.characters ++ zs) rest in
    let items_escaped =
    string_is_escaped found.characters (from_place text o.token.end) moved
    ∙ sym (string_is_escaped found.characters r.rest found.is_string) ∙ sym found.escape ∙ sym escaped in
    record {
      characters = found.characters;
      here = here;
      string = moved;
      decoded_value = λ is.
          value.decoded is ∙ ap (λ k. decoded_value k (from_place text o.token.start)) kind
          ∙ decoded_string (from_place text o.token.start)
          ∙ ap (λ zs. Units (decoded_units zs)) here
          ∙ ap Units
          (string_stands_for found.characters (from_place text o.token.end) moved (items_escaped ∙ is));
      unescaped_value = λ none. (
        value.unescaped none ∙ ap (λ k. unescaped_value k o.token.start o.token.end) kind
            ∙ unescaped_string o.token.start o.token.end,
        string_stands_for_itself found.characters (from_place text o.token.end) moved (items_escaped ∙ none),
      );
    }
  where
    decoded_string : (here : List ℕ) → decoded_value Str here ≡ Units (decoded_units here)
    decoded_string here = rw string_kinds.1 refl

    unescaped_string : (start end : ℕ) → unescaped_value Str start end ≡ text_slice Str start end
    unescaped_string start end = rw string_kinds.0 refl

plainly_string : (text : List ℕ) (t : SourceType) (goal : Goal) (before : Option TokenParts) (place : ℕ) (o : Outcome)
    → IsValueOf text o.token o.value → ReadsPlainly text t goal before place o → o.findings.diagnostics ≡ []
    → o.token.kind ≡ Str → IsStringOfItems text o
plainly_string text t goal before place o value (hashbang_read begun read) clean kind =
    absurd (let no : HashbangComment ≡ Str = sym read.is_hashbang.kind ∙ kind in cc)
plainly_string text t goal before place o value (behind_gap begun read) clean kind =
    let quiet : read.reading.diagnostics ≡ [] =
    none_moved o.token.start read.reading.diagnostics
    (behind_is_nil (gap_diagnostics place read.pieces) (reported_at o.token.start read.reading)
    (sym (ap (λ (x : Outcome). x.findings.diagnostics) read.outcome_is) ∙ clean)) in
    let found =
    string_here_read t read.line_has_ended (from_place text o.token.start) read.reading read.here quiet
    (ap (λ (x : Outcome). x.token.kind) (sym read.outcome_is) ∙ kind) in
    string_value text o [] read.reading value kind (ap (λ (x : Outcome). x.token.escaped) read.outcome_is) read.rest
    found

goal_string : (text : List ℕ) (t : SourceType) (goal : Goal) (before : Option TokenParts) (place : ℕ) (o : Outcome)
    → is_plain goal ≡ true → IsValueOf text o.token o.value → GoalReads text t goal before place o
    → o.findings.diagnostics ≡ [] → o.token.kind ≡ Str → IsStringOfItems text o
goal_string text t First before place o plain value reads clean kind =
    plainly_string text t First before place o value reads clean kind
goal_string text t Next before place o plain value reads clean kind =
    plainly_string text t Next before place o value reads clean kind
goal_string text t TemplateTail before place o plain value reads clean kind = absurd (cc)
goal_string text t RegularExpression before place o plain value reads clean kind = absurd (cc)
goal_string text t RightAngle before place o plain value reads clean kind = absurd (cc)
goal_string text t TypeScriptLeftAngle before place o plain value reads clean kind = absurd (cc)
goal_string text t TypeScriptRightAngle before place o plain value reads clean kind = absurd (cc)
goal_string text t JsxIdentifier before place o plain value reads clean kind = absurd (cc)
goal_string text t JsxChild before place o plain value reads clean kind = absurd (cc)
goal_string text t JsxAttributeValue before place o plain value reads clean kind = absurd (cc)

pub read_string_of_items : (goal : Goal) (old new : LexerState) (token : TokenParts) → IsUtf8 old.text
    → is_plain goal ≡ true → (read : ReadsToken goal old token new) → read.outcome.findings.diagnostics ≡ []
    → token.kind ≡ Str → IsStringOfItems old.text read.outcome
read_string_of_items goal old new token u plain read clean kind =
    let o = read.outcome in
    goal_string old.text old.source_type goal old.last old.place o plain
    (goal_reads_value old.text old.source_type goal old.last old.place o u read.reads.reads) read.reads.reads clean
    (ap (λ (x : TokenParts). x.kind) (sym read.token_is) ∙ kind)
