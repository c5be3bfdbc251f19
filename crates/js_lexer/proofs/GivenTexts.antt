-- What is looked up for a token is the value of its reading.
use Rattle.std.proofs.Common.{◌≡◌, ℕ, Bool, true, false, List, refl, sym, ◌∙◌, ap, subst}
use Rattle.std.specs.Prelude.{◌||◌, Option, Some, None, if◌then◌else◌}
use Rattle.std.specs.Str.{IsUtf8}
use Rattle.js_text.specs.Characters.{from_place}
use Rattle.js_text.specs.JsText.{js_text_units}
use Rattle.js_text.specs.declared.js_text.JsText.{JsText}
use Rattle.js_text.specs.declared.js_text.TemplateValue.{TemplateValue}
use Rattle.js_text.specs.declared.js_text.TemplateValue.TheVariants.{Text, Bad as BadPart}
use Rattle.js_text.specs.declared.value.RowValue.{RowValue}
use Rattle.js_text.specs.declared.value.RowValue.TheVariants.{Nothing, Slice, Units}
use Rattle.js_grammar.specs.Outcome.{Outcome}
use Rattle.js_grammar.specs.TokenText.{is_named, is_valued, text_slice, text_start, text_end}
use Rattle.js_grammar.specs.Values.{HasText, IsValueOf, decoded_units, template_row_value, template_units}
use Rattle.js_grammar.specs.declared.goal.Goal.{Goal}
use Rattle.js_grammar.specs.declared.goal.Goal.TheVariants.{Next}
use Rattle.js_grammar.proofs.Values.{goal_reads_value}
use Rattle.js_kind.specs.Kinds.{is_string_kind, is_template_kind}
use Rattle.js_kind.specs.TokenParts.{TokenParts}
use Rattle.js_kind.specs.declared.kind.Kind.{Kind}
use Rattle.js_reader.specs.Decoded.{Values, GivesDecoded, GivesPart, GivesStretch, GivesText, GivesTemplate, HasValue}
use Rattle.js_reader.specs.Decoded.{IsKeptAs, IsStretch, Keeps, template_text, value_of}
use Rattle.js_lexer.specs.Laws.{GivesValue, IsPartOf, IsTextOf, KeepsTexts}
use Rattle.js_lexer.specs.Lexer.{LexerState, LexesAgain, Peeks, ReadsOutcome, ReadsToken}

some_same : {A : Type 0} (a b : A) → Some a ≡ Some b → a ≡ b
some_same a b e = cc

not_none : {A : Type 0} (a : A) → Some a ≡ None → ⊥
not_none a e = cc

-- units that were decoded
decoded_text : (text units : List ℕ) (value : RowValue) (found : Option (List ℕ)) (answer : Option JsText)
    → value ≡ Units units → found ≡ Some units → GivesDecoded found answer → IsTextOf text value answer
decoded_text text units value found None is kept gives = absurd (not_none units (sym kept ∙ gives))
decoded_text text units value found (Some given) is kept gives =
    let same : js_text_units given ≡ units = some_same (js_text_units given) units (sym gives.0 ∙ kept) in
    subst (λ v. IsTextOf text v (Some given)) (sym is) (same, gives.1)

-- a stretch of the text
stretch_text : (text : List ℕ) (start end : ℕ) (value : RowValue) (answer : Option JsText)
    → IsStretch text start end → value ≡ Slice (record { start = start; end = end })
    → GivesStretch text start end answer → IsTextOf text value answer
stretch_text text start end value None lies is gives = absurd (gives lies)
stretch_text text start end value (Some given) lies is gives =
    subst (λ v. IsTextOf text v (Some given)) (sym is) (gives.1, gives.2)

-- a part of a template that was decoded
decoded_part : (text : List ℕ) (units : Option (List ℕ)) (value : RowValue) (found : Option (Option (List ℕ)))
    (answer : Option TemplateValue) → value ≡ template_row_value units → found ≡ Some units → GivesPart found answer
    → IsPartOf text value answer
decoded_part text units value found None is kept gives = absurd (not_none units (sym kept ∙ gives))
decoded_part text units value found (Some (Text given)) is kept gives =
    let same : units ≡ Some (js_text_units given) =
    some_same units (Some (js_text_units given)) (sym kept ∙ gives.0) in
    subst (λ v. IsTextOf text v (Some given)) (sym (is ∙ ap template_row_value same)) (refl, gives.1)
decoded_part text units value found (Some BadPart) is kept gives =
    is ∙ ap template_row_value (some_same units None (sym kept ∙ gives))

-- one that is a stretch of the text
stretch_part : (text : List ℕ) (start end : ℕ) (value : RowValue) (answer : Option TemplateValue)
    → IsStretch text start end → value ≡ Slice (record { start = start; end = end })
    → GivesStretch text start end (template_text answer) → (answer ≡ Some BadPart → ⊥) → IsPartOf text value answer
stretch_part text start end value None lies is gives good = absurd (gives lies)
stretch_part text start end value (Some (Text given)) lies is gives good =
    stretch_text text start end value (Some given) lies is gives
stretch_part text start end value (Some BadPart) lies is gives good = absurd (good refl)

last_of_three : (a b c : Bool) → c ≡ true → a || (b || c) ≡ true
last_of_three true b c e = refl
last_of_three false true c e = refl
last_of_three false false c e = e

parts_are_valued : (kind : Kind) → is_template_kind kind ≡ true → is_valued kind ≡ true
parts_are_valued kind is = last_of_three (is_named kind) (is_string_kind kind) (is_template_kind kind) is

-- the value of a token that has one and no escape
plain_value : (text : List ℕ) (token : TokenParts) (value : RowValue) → IsValueOf text token value
    → is_valued token.kind ≡ true → token.escaped ≡ false → value ≡ text_slice token.kind token.start token.end
plain_value text token value is valued none =
    is.unescaped none
    ∙ ap (λ (b : Bool). if b then text_slice token.kind token.start token.end else Nothing) valued

text_stretch : (text : List ℕ) (token : TokenParts) → HasText text token
    → IsStretch text (text_start token.kind token.start) (text_end token.kind token.end)
text_stretch text token lies = record { start_place = lies.start; end_place = lies.end; ordered = lies.ordered }

-- the text of a name or a string
gives_text : (text : List ℕ) (values : Values) (token : TokenParts) (value : RowValue) (answer : Option JsText)
    → IsValueOf text token value → HasText text token → HasValue text values token → is_valued token.kind ≡ true
    → is_template_kind token.kind ≡ false → GivesText text values token answer → IsTextOf text value answer
gives_text text values token value answer is lies has valued other gives = by_flag token.escaped refl
  where
    by_flag : (escaped : Bool) → token.escaped ≡ escaped → IsTextOf text value answer
    by_flag true e =
        decoded_text text (decoded_units (from_place text token.start)) value (value_of values.strings token.start)
        answer
        (is.decoded e
        ∙ ap (λ (b : Bool). if b then template_row_value (template_units (from_place text token.start))
        else Units (decoded_units (from_place text token.start))) other)
        (subst (λ (b : Bool). IsKeptAs b values token.start (from_place text token.start)) other (has e))
        (gives.escaped e)
    by_flag false e =
        stretch_text text (text_start token.kind token.start) (text_end token.kind token.end) value answer
        (text_stretch text token lies) (plain_value text token value is valued e)
        (subst (λ (b : Bool). GivesStretch text (if b then token.start else text_start token.kind token.start)
        (if b then token.end else text_end token.kind token.end) answer) other (gives.unescaped e))

-- the value of a part of a template
gives_part : (text : List ℕ) (values : Values) (token : TokenParts) (value : RowValue) (answer : Option TemplateValue)
    → IsValueOf text token value → HasText text token → HasValue text values token
    → is_template_kind token.kind ≡ true → GivesTemplate text values token answer → IsPartOf text value answer
gives_part text values token value answer is lies has template gives = by_flag token.escaped refl
  where
    by_flag : (escaped : Bool) → token.escaped ≡ escaped → IsPartOf text value answer
    by_flag true e =
        decoded_part text (template_units (from_place text token.start)) value (value_of values.templates token.start)
        answer
        (is.decoded e
        ∙ ap (λ (b : Bool). if b then template_row_value (template_units (from_place text token.start))
        else Units (decoded_units (from_place text token.start))) template)
        (subst (λ (b : Bool). IsKeptAs b values token.start (from_place text token.start)) template (has e))
        (gives.escaped template e)
    by_flag false e =
        stretch_part text (text_start token.kind token.start) (text_end token.kind token.end) value answer
        (text_stretch text token lies) (plain_value text token value is (parts_are_valued token.kind template) e)
        (gives.unescaped template e).0 (gives.unescaped template e).1

-- a value that was decoded is there later too
still_has : (text : List ℕ) (old new : Values) (token : TokenParts) → Keeps old new → HasValue text old token
    → HasValue text new token
still_has text old new token kept has escaped = by_kind (is_template_kind token.kind) (has escaped)
  where
    by_kind : (template : Bool) → IsKeptAs template old token.start (from_place text token.start)
        → IsKeptAs template new token.start (from_place text token.start)
    by_kind true is = kept.templates token.start _ is
    by_kind false is = kept.strings token.start _ is

-- the values of a token of the same text
gives_value : (l : LexerState) (text : List ℕ) (token : TokenParts) (value : RowValue) → l.text ≡ text
    → IsValueOf text token value → HasText text token → HasValue text l.decoded token → GivesValue l token value
gives_value l text token value same is lies has = record {
  text = λ answer valued other gives.
      subst (λ xs. IsTextOf xs value answer) (sym same)
      (gives_text text l.decoded token value answer is lies has valued other
      (subst (λ xs. GivesText xs l.decoded token answer) same gives));
  part = λ answer template gives.
      subst (λ xs. IsPartOf xs value answer) (sym same)
      (gives_part text l.decoded token value answer is lies has template
      (subst (λ xs. GivesTemplate xs l.decoded token answer) same gives));
}

outcome_given : (goal : Goal) (old new later : LexerState) (token : TokenParts) (o : Outcome) → IsUtf8 old.text
    → token ≡ o.token → ReadsOutcome goal old o → new.text ≡ old.text → HasValue old.text new.decoded token
    → KeepsTexts new later → GivesValue later token o.value
outcome_given goal old new later token o u token_is reads same has kept =
    gives_value later old.text token o.value (kept.text ∙ same)
    (subst (λ t. IsValueOf old.text t o.value) (sym token_is)
    (goal_reads_value old.text old.source_type goal old.last old.place o u reads.reads))
    (subst (HasText old.text) (sym token_is) reads.text_lies)
    (still_has old.text new.decoded later.decoded token kept.kept has)

pub read_given : (goal : Goal) (old new later : LexerState) (token : TokenParts) → IsUtf8 old.text
    → (read : ReadsToken goal old token new) → KeepsTexts new later → GivesValue later token read.outcome.value
read_given goal old new later token u read kept =
    outcome_given goal old new later token read.outcome u read.token_is read.reads read.after.text read.has_value kept

pub again_given : (goal : Goal) (old new later : LexerState) (token : TokenParts) → IsUtf8 old.text
    → (read : LexesAgain goal old token new) → KeepsTexts new later → GivesValue later token read.outcome.value
again_given goal old new later token u read kept =
    outcome_given goal old new later token read.outcome u read.token_is read.reads read.after.text read.has_value kept

pub peek_given : (old new later : LexerState) (token : TokenParts) → IsUtf8 old.text
    → (peek : Peeks old token new) → KeepsTexts new later → GivesValue later token peek.outcome.value
peek_given old new later token u peek kept =
    outcome_given Next old new later token peek.outcome u peek.token_is peek.reads peek.restored.text peek.has_value
    kept
