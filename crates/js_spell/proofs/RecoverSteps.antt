-- The steps of reading on where nothing is spelled.
use Rattle.std.proofs.Common.{◌≡◌, ◌≢◌, ℕ, ◌+◌, ◌≤◌, Bool, true, false, not, ◌||◌, ◌==◌, List, [], ◌∷◌, ◌++◌, length}
use Rattle.std.proofs.Common.{refl, sym, ◌∙◌, ap, subst, Option, Some, None, append-nil, arith}
use Rattle.std.specs.Prelude.{codes, IsTrue, IsSome, is_some, ◌↔◌, if◌then◌else◌}
use Rattle.std.specs.List.{list_any}
use Rattle.std.specs.Str.{IsCharBoundary}
use Rattle.std.proofs.lemmas.Bool.{ne_eqb}
use Rattle.js_text.specs.Ascii.{number_sign}
use Rattle.js_text.specs.Characters.{is_line_terminator, begins, from_first, from_place}
use Rattle.js_text.specs.declared.diagnostic.Diagnostic.TheVariants.{InvalidCharacter, FileAppearsToBeBinary}
use Rattle.js_text.specs.declared.diagnostic.Diagnostic.TheVariants.{UnterminatedMultiLineComment}
use Rattle.js_text.proofs.TextLemmas.{place_past}
use Rattle.js_kind.specs.declared.kind.Kind.TheVariants.{Eof, Undetermined}
use Rattle.js_source.specs.Source.{At, rest, Reads, GoesTo}
use Rattle.js_grammar.specs.Gap.{is_prefix}
use Rattle.js_grammar.specs.Reading.{moved_span, place_behind}
use Rattle.js_grammar.specs.Name.{begins_name}
use Rattle.js_grammar.specs.Number.{begins_number}
use Rattle.js_grammar.specs.Quoted.{begins_quoted}
use Rattle.js_grammar.specs.Spelling.{begins_named}
use Rattle.js_grammar.proofs.Starts.{named_false}
use Rattle.js_grammar.specs.Recovery.{recovered, recovered_character, is_control_or_wide}
use Rattle.js_grammar.specs.Reading.{Reading}
use Rattle.js_grammar.specs.Recovery.{binary_file, invalid_character}
use Rattle.js_grammar.proofs.Tests.{prefix_of}
use Rattle.js_spell.specs.Sequences.{TakesSequence}
use Rattle.js_spell.specs.Recovery.{Recovers}

-- a character that passes stands in the text where something is left from the first one on
any_from : (p : ℕ → Bool) (cs : List ℕ)
    → (from_first p cs ≡ [] → list_any p cs ≡ false) × (from_first p cs ≢ [] → list_any p cs ≡ true)
any_from p [] = (λ e. refl, λ some. absurd (some refl))
any_from p (c ∷ cs) = by_test (p c) refl (any_from p cs)
  where
    by_test : (b : Bool) → p c ≡ b
        → (from_first p cs ≡ [] → list_any p cs ≡ false) × (from_first p cs ≢ [] → list_any p cs ≡ true)
        → ((if b then c ∷ cs else from_first p cs) ≡ [] → (b || list_any p cs) ≡ false)
        × ((if b then c ∷ cs else from_first p cs) ≢ [] → (b || list_any p cs) ≡ true)
    by_test true e h = (λ none. cc, λ some. refl)
    by_test false e h = h

pub line_end_found : (p : ℕ → Bool) (b : Bool) (xs cs : List ℕ) → (IsTrue b ↔ (xs ≡ [])) → xs ≡ from_first p cs
    → not b ≡ list_any p cs
line_end_found p true xs cs h e = sym ((any_from p cs).0 (sym e ∙ h.0 refl))
line_end_found p false xs cs h e = sym ((any_from p cs).1 (λ none. let no : false ≡ true = h.1 (e ∙ none) in cc))

mark_has_no_line_end : (cs : List ℕ) → list_any is_line_terminator (codes "/*" ++ cs) ≡ list_any is_line_terminator cs
unfolding is_line_terminator
mark_has_no_line_end cs = refl

-- a place behind characters that were passed
pub leads_to : (old new : At) (xs : List ℕ) → new.text ≡ old.text
    → rest old ≡ xs ++ rest new
    → new.place ≡ place_behind old.place xs
leads_to old new xs text e =
    let there : IsCharBoundary old.text new.place =
    subst (λ (u : List ℕ). IsCharBoundary u new.place) text new.placed.boundary in
    place_past old.text old.place new.place xs old.placed.utf8 old.placed.boundary there (e ∙ ap (λ u. xs ++
    from_place u new.place) text)

if_true : (b : Bool) (x y : Option Reading) → b ≡ true → (if b then x else y) ≡ x
if_true b x y e = rw e refl

if_not : (b : Bool) (x y : Option Reading) → b ≡ false → (if b then x else y) ≡ y
if_not b x y e = rw e refl

-- a span that is moved from the start of a text
span_moved : (place n : ℕ)
    → record { start = place; end = place + n } ≡ moved_span place (record { start = 0; end = 0 + n })
span_moved place n =
    let start : place ≡ place + 0 = omega arith in
    let end : place + n ≡ place + (0 + n) = omega arith in
    ap (λ (m : ℕ). record { start = m; end = place + n }) start
    ∙ ap (λ (m : ℕ). record { start = place + 0; end = m }) end

pub unterminated : (line_has_ended : Bool) (old mid new : At) (b : Bool) (start end : ℕ)
    → TakesSequence (codes "/*") old true mid → GoesTo (length mid.text) mid new
    → rest new ≡ [] → b ≡ (list_any is_line_terminator (rest mid) || line_has_ended) → start ≡ old.place
    → end ≡ new.place
    → Recovers line_has_ended old
    (record {
      kind = Eof;
      is_on_new_line = b;
      diagnostic = UnterminatedMultiLineComment (record { start = start; end = end });
    }) new
unterminated line_has_ended old mid new b start end takes e none line s f =
    let text : new.text ≡ old.text = e.text ∙ takes.0 in
    let begun : is_prefix (codes "/*") (rest old) ≡ true =
    ap (is_prefix (codes "/*")) takes.1 ∙ prefix_of (codes "/*") (rest mid) in
    let line_is : list_any is_line_terminator (rest old) ≡ list_any is_line_terminator (rest mid) =
    ap (list_any is_line_terminator) takes.1 ∙ mark_has_no_line_end (rest mid) in
    let whole : rest old ≡ rest old ++ rest new = sym (append-nil (rest old)) ∙ ap (λ xs. rest old ++ xs) (sym none) in
    record {
      text = text;
      line_ended = list_any is_line_terminator (rest old);
      fault = UnterminatedMultiLineComment (record { start = 0; end = place_behind 0 (rest old) });
      recovery = if_true (is_prefix (codes "/*") (rest old)) _ _ begun ∙ rw none refl;
      line = line ∙ ap (λ x. x || line_has_ended) (sym line_is);
      reported =
          rw (s, f, leads_to old new (rest old) text whole) (ap UnterminatedMultiLineComment (span_moved old.place _));
      onward = subst (λ (n : ℕ). old.place ≤ n) (sym (e.there ∙ ap length takes.0)) (old.placed.boundary.0);
    }

-- where no comment, no name and no number begins
no_mark : (old : At) → is_prefix (codes "/*") (rest old) ≡ false
    → begins begins_named (rest old) ≡ false → begins_number (rest old) ≡ false
    → begins begins_quoted (rest old) ≡ false
    → recovered (rest old)
    ≡ (if begins (λ c. c == 0xFFFD) (rest old) then Some (binary_file (rest old)) else recovered_character (rest old))
no_mark old e f n q =
    let none = named_false (rest old) f in
    if_not (is_prefix (codes "/*") (rest old)) _ _ e ∙ if_not (begins_name (rest old)) _ _ none.0
    ∙ if_not (begins (λ c. c == number_sign) (rest old)) _ _ none.1 ∙ if_not (begins_number (rest old)) _ _ n
    ∙ if_not (begins begins_quoted (rest old)) _ _ q

pub binary : (line_has_ended : Bool) (old mid new : At) (c : ℕ) → is_prefix (codes "/*") (rest old) ≡ false
    → begins begins_named (rest old) ≡ false → begins_number (rest old) ≡ false
    → begins begins_quoted (rest old) ≡ false → Reads old mid c → c ≡ 0xFFFD
    → GoesTo (length mid.text) mid new → rest new ≡ []
    → Recovers line_has_ended old
    (record { kind = Eof; is_on_new_line = line_has_ended; diagnostic = FileAppearsToBeBinary }) new
binary line_has_ended old mid new c e f n q reads same to none =
    let begun : begins (λ d. d == 0xFFFD) (rest old) ≡ true =
    ap (begins (λ d. d == 0xFFFD)) (reads.here ∙ ap (λ d. d ∷ rest mid) same) in
    record {
      text = to.text ∙ reads.text;
      line_ended = false;
      fault = FileAppearsToBeBinary;
      recovery = no_mark old e f n q ∙ if_true (begins (λ d. d == 0xFFFD) (rest old)) _ _ begun ∙ rw none refl;
      line = refl;
      reported = refl;
      onward = subst (λ (n : ℕ). old.place ≤ n) (sym (to.there ∙ ap length reads.text)) (old.placed.boundary.0);
    }

-- what some reading of a character tells of it
some_if : (b : Bool) (x : Reading) → is_some (if b then Some x else None) ≡ true → b ≡ true
some_if true x e = refl
some_if false x e = absurd (cc)

character_at : (c : ℕ) (cs : List ℕ) → is_some (recovered_character (c ∷ cs)) ≡ true
    → recovered_character (c ∷ cs) ≡ Some (invalid_character c cs)
character_at c cs some =
    if_true (is_control_or_wide c) _ None (some_if (is_control_or_wide c) (invalid_character c cs) some)

-- a reading that recovers needs a text
pub some_text : (old : At) → IsSome (recovered (rest old)) → rest old ≢ []
some_text old some none =
    let no : is_some (recovered []) ≡ true = subst (λ xs. is_some (recovered xs) ≡ true) none some in absurd (cc)

pub invalid : (line_has_ended : Bool) (old new : At) (c start end : ℕ) → is_prefix (codes "/*") (rest old) ≡ false
    → begins begins_named (rest old) ≡ false
    → begins_number (rest old) ≡ false → begins begins_quoted (rest old) ≡ false
    → IsSome (recovered (rest old)) → Reads old new c → (c ≡ 0xFFFD → ⊥)
    → old.place ≤ new.place
    → start ≡ old.place → end ≡ new.place
    → Recovers line_has_ended old
    (record {
      kind = Undetermined;
      is_on_new_line = line_has_ended;
      diagnostic = InvalidCharacter c (record { start = start; end = end });
    }) new
invalid line_has_ended old new c start end e f n q some reads other onward s t =
    let begun : begins (λ d. d == 0xFFFD) (rest old) ≡ false =
    ap (begins (λ d. d == 0xFFFD)) reads.here ∙ ne_eqb c 0xFFFD other in
    let same =
    no_mark old e f n q ∙ if_not (begins (λ d. d == 0xFFFD) (rest old)) _ _ begun
    ∙ ap recovered_character reads.here in
    let there : is_some (recovered_character (c ∷ rest new)) ≡ true = sym (ap is_some same) ∙ some in
    record {
      text = reads.text;
      line_ended = false;
      fault = InvalidCharacter c (record { start = 0; end = place_behind 0 (c ∷ []) });
      recovery = same ∙ character_at c (rest new) there ∙ rw reads.here refl;
      line = refl;
      reported =
          rw (s, t, leads_to old new (c ∷ []) reads.text reads.here)
          (ap (InvalidCharacter c) (span_moved old.place _));
      onward = onward;
    }
