-- The text of a child, as it is passed.
use Rattle.std.proofs.Common.{◌≡◌, ℕ, ◌+◌, Bool, true, false, ◌||◌, ◌==◌, List, [], ◌∷◌, ◌++◌, refl, sym, ◌∙◌, ap}
use Rattle.std.proofs.Common.{Option, Some, None, inl, inr, append-nil, append_assoc, add-zero}
use Rattle.std.specs.Prelude.{IfNone, IfSome}
use Rattle.std.specs.Char.{encode_utf8}
use Rattle.js_text.specs.Ascii.{greater_than_sign}
use Rattle.js_text.specs.Characters.{begins, from_first}
use Rattle.js_text.specs.declared.span.Span.{Span}
use Rattle.js_text.proofs.TextLemmas.{from_first-cons, from_first-found}
use Rattle.js_grammar.specs.Jsx.{angle_at, angles_among, begins_child, ends_jsx_text, jsx_text_before, jsx_text_reading}
use Rattle.js_grammar.specs.Reading.{Reading, before_rest, place_behind}
use Rattle.js_grammar.specs.StringItems.{stretch}
use Rattle.js_grammar.proofs.GoalReadings.{leaves_from_first}
use Rattle.js_grammar.proofs.NumberItems.{true_or_false}
use Rattle.js_grammar.proofs.ReadingLemmas.{by_choice, taken_is}
use Rattle.js_grammar.proofs.Reported.{place_behind-append}
use Rattle.js_source.specs.Source.{At, rest, Reads}
use Rattle.js_source.proofs.Places.{begins_with}
use Rattle.js_spell.specs.Goals.{IsAtChildEnd, PassesChild, StopsAt, WarnsInPart, ends_of, text_warnings}
use Rattle.js_spell.specs.declared.jsx.Text.TheVariants.{Child}
use Rattle.js_spell.proofs.NumericSteps.{leads_to}

-- the `>` of a text up to what ends it
abbrev pub angles_to_end : ℕ → List ℕ → List Span
angles_to_end place text = angles_among place (before_rest text (from_first ends_jsx_text text))

text_taken : (text : List ℕ) → (jsx_text_reading text).taken ≡ before_rest text (from_first ends_jsx_text text)
text_taken text = of (from_first ends_jsx_text text)
  where
    of : (left : List ℕ) → (jsx_text_before text left).taken ≡ before_rest text left
    of [] = refl
    of (c ∷ cs) =
        by_choice (λ (r : Reading). r.taken ≡ before_rest text (c ∷ cs)) (begins_child c) _ _ (λ _. refl) (λ _. refl)

pub warnings_to_end : (place : ℕ) (text : List ℕ) → text_warnings place text ≡ angles_to_end place text
warnings_to_end place text = ap (angles_among place) (text_taken text)

no_angles_at_end : (place c : ℕ) (cs : List ℕ) → ends_jsx_text c ≡ true → angles_to_end place (c ∷ cs) ≡ []
no_angles_at_end place c cs e =
    ap (λ t. angles_among place (before_rest (c ∷ cs) t)) (from_first-found ends_jsx_text c cs e)
    ∙ ap (angles_among place) (taken_is (c ∷ cs) [] (c ∷ cs) refl)

angles_past : (place c : ℕ) (cs : List ℕ) → ends_jsx_text c ≡ false
    → angles_to_end place (c ∷ cs) ≡ angle_at place c ++ angles_to_end (place_behind place (c ∷ [])) cs
angles_past place c cs e =
    let left = from_first ends_jsx_text cs in
    let front = leaves_from_first ends_jsx_text cs in
    ap (λ t. angles_among place (before_rest (c ∷ cs) t)) (from_first-cons ends_jsx_text c cs e)
    ∙ ap (angles_among place) (taken_is (c ∷ cs) (c ∷ front.0) left (ap (λ t. c ∷ t) front.1))
    ∙ ap (λ t. angle_at place c ++ angles_among (place_behind place (c ∷ [])) t)
    (sym (taken_is cs front.0 left front.1))

-- what stands before a `>` or the end of the text has no `>`
record Skips (place : ℕ) (text : List ℕ) : Type 0 where
  run : List ℕ
  here : text ≡ run ++ from_first (ends_of Child) text
  left : from_first ends_jsx_text text ≡ from_first ends_jsx_text (from_first (ends_of Child) text)
  angles : angles_to_end place text ≡ angles_to_end (place_behind place run) (from_first (ends_of Child) text)

first_of_two : (a b : Bool) → (a || b) ≡ false → a ≡ false
first_of_two false b e = refl
first_of_two true b e = absurd (cc)

second_of_two : (a b : Bool) → (a || b) ≡ false → b ≡ false
second_of_two false b e = e
second_of_two true b e = absurd (cc)

skips : (place : ℕ) (text : List ℕ) → Skips place text
skips place [] = record {
  run = [];
  here = refl;
  left = refl;
  angles = ap (λ p. angles_to_end p []) (sym (add-zero place));
}
skips place (c ∷ cs) =
    elim (true_or_false (ends_of Child c)) [
      | inl stops ↦ (
          let found = from_first-found (ends_of Child) c cs stops in
          record {
            run = [];
            here = sym found;
            left = ap (from_first ends_jsx_text) (sym found);
            angles = ap (λ p. angles_to_end p (c ∷ cs)) (sym (add-zero place))
                ∙ ap (angles_to_end (place + 0)) (sym found);
          })
      | inr goes_on ↦ (
          let next = place_behind place (c ∷ []) in
          let more = skips next cs in
          let inside = first_of_two (ends_jsx_text c) (c == greater_than_sign) goes_on in
          let no_angle = second_of_two (ends_jsx_text c) (c == greater_than_sign) goes_on in
          let none : angle_at place c ≡ [] = rw no_angle refl in
          let past = sym (from_first-cons (ends_of Child) c cs goes_on) in
          record {
            run = c ∷ more.run;
            here = ap (λ t. c ∷ t) more.here ∙ ap (λ t. c ∷ (more.run ++ t)) past;
            left = from_first-cons ends_jsx_text c cs inside ∙ more.left ∙ ap (from_first ends_jsx_text) past;
            angles = angles_past place c cs inside ∙ ap (λ ss. ss ++ angles_to_end next cs) none ∙ more.angles
                ∙ ap (λ p. angles_to_end p (from_first (ends_of Child) cs))
                (place_behind-append place (c ∷ []) more.run)
                ∙ ap (angles_to_end (place_behind place (c ∷ more.run))) past;
          })
    ]

-- the run before a `>` or the end was passed
pub record PassesRun (old new : At) : Type 0 where
  pub left : from_first ends_jsx_text (rest old) ≡ from_first ends_jsx_text (rest new)
  pub angles : angles_to_end old.place (rest old) ≡ angles_to_end new.place (rest new)

pub run_passed : (old new : At) → new.text ≡ old.text
    → rest new ≡ from_first (ends_of Child) (rest old) → PassesRun old new
run_passed old new text left =
    let run = skips old.place (rest old) in
    let place = leads_to old new run.run text (run.here ∙ ap (λ t. run.run ++ t) (sym left)) in
    record {
      left = run.left ∙ ap (from_first ends_jsx_text) (sym left);
      angles = run.angles ∙ ap (λ p. angles_to_end p (from_first (ends_of Child) (rest old))) (sym place)
          ∙ ap (angles_to_end new.place) (sym left);
    }

one_byte : (place : ℕ) → place_behind place (greater_than_sign ∷ []) ≡ place + 1
unfolding encode_utf8
one_byte place = refl

-- a `>` was passed
pub angle_left : (old new : At) → Reads old new greater_than_sign
    → from_first ends_jsx_text (rest old) ≡ from_first ends_jsx_text (rest new)
angle_left old new read =
    ap (from_first ends_jsx_text) read.here ∙ from_first-cons ends_jsx_text greater_than_sign (rest new) refl

pub angle_place : (old new : At) → Reads old new greater_than_sign
    → new.place ≡ old.place + 1
angle_place old new read =
    leads_to old new (greater_than_sign ∷ []) read.text read.here ∙ one_byte old.place

pub angles_left : (old new : At) → Reads old new greater_than_sign
    → angles_to_end old.place (rest old)
    ≡ stretch old.place new.place ∷ angles_to_end new.place (rest new)
angles_left old new read =
    let place = angle_place old new read in
    ap (angles_to_end old.place) read.here ∙ angles_past old.place greater_than_sign (rest new) refl
    ∙ ap (λ p. stretch old.place (old.place + 1) ∷ angles_to_end p (rest new)) (one_byte old.place)
    ∙ ap (λ p. stretch old.place p ∷ angles_to_end p (rest new)) (sym place)

-- Some of what is warned of was, and the rest of it is that from here on.
pub record WarnsUpTo (at now : At) (before after : List Span) : Type 0 where
  pub more : List Span
  pub warnings : after ≡ before ++ more
  pub all : angles_to_end at.place (rest at) ≡ more ++ angles_to_end now.place (rest now)

pub warns_nothing : (at : At) (before : List Span) → WarnsUpTo at at before before
warns_nothing at before = record { more = []; warnings = sym (append-nil before); all = refl }

pub warns_of_angle : (at now mid new : At) (before between after : List Span) (start end : ℕ)
    → WarnsUpTo at now before between → PassesRun now mid → Reads mid new greater_than_sign
    → start ≡ mid.place → end ≡ new.place
    → after ≡ between ++ stretch start end ∷ [] → WarnsUpTo at new before after
warns_of_angle at now mid new before between after start end warned run read from to e =
    let span : stretch start end ≡ stretch mid.place new.place =
    ap (λ n. stretch n end) from ∙ ap (stretch mid.place) to in
    let added = stretch mid.place new.place ∷ [] in
    record {
      more = warned.more ++ added;
      warnings = e ∙ ap (λ s. between ++ s ∷ []) span ∙ ap (λ ss. ss ++ added) warned.warnings
          ∙ append_assoc before warned.more added;
      all = warned.all ∙ ap (λ ss. warned.more ++ ss) (run.angles ∙ angles_left mid new read)
          ∙ sym (append_assoc warned.more added (angles_to_end new.place (rest new)));
    }

pub warns_in_part : (at now : At) (before after : List Span) → WarnsUpTo at now before after
    → WarnsInPart (text_warnings at.place (rest at)) before after
warns_in_part at now before after warned = record {
  more = warned.more;
  warnings = warned.warnings;
  rest_of = angles_to_end now.place (rest now);
  beginning = sym warned.all ∙ sym (warnings_to_end at.place (rest at));
}

-- where no `>` follows the run, the text ends
pub ends_here : (end : Option ℕ) (text : List ℕ) → begins (λ c. c == greater_than_sign) text ≡ false
    → IfNone end (text ≡ []) → IfSome end (λ b. StopsAt Child b text) → IsAtChildEnd end text
ends_here None text no_angle none some = none
ends_here (Some b) text no_angle none some =
    let found = begins_with b text some.next in (
      some.next,
      second_fails (ends_jsx_text b) (b == greater_than_sign)
          (sym (ap (begins (λ c. c == greater_than_sign)) found.1) ∙ no_angle) some.ends,
    )
  where
    second_fails : (a b : Bool) → b ≡ false → (a || b) ≡ true → a ≡ true
    second_fails true b e f = refl
    second_fails false b e f = sym (sym f ∙ e) ∙ absurd (cc)

end_left : (end : Option ℕ) (text : List ℕ) → IsAtChildEnd end text → from_first ends_jsx_text text ≡ text
end_left None text end = ap (from_first ends_jsx_text) end ∙ sym end
end_left (Some b) text end =
    let found = begins_with b text end.0 in
    ap (from_first ends_jsx_text) found.1 ∙ from_first-found ends_jsx_text b found.0 end.1 ∙ sym found.1

end_angles : (place : ℕ) (end : Option ℕ) (text : List ℕ) → IsAtChildEnd end text → angles_to_end place text ≡ []
end_angles place None text end = ap (angles_to_end place) end
end_angles place (Some b) text end =
    let found = begins_with b text end.0 in
    ap (angles_to_end place) found.1 ∙ no_angles_at_end place b found.0 end.1

pub child_passed : (at now new : At) (before after : List Span) (end : Option ℕ) → now.text ≡ at.text
    → from_first ends_jsx_text (rest at) ≡ from_first ends_jsx_text (rest now) → WarnsUpTo at now before after
    → new.text ≡ now.text → PassesRun now new → IsAtChildEnd end (rest new) → PassesChild at new before after end
child_passed at now new before after end text left warned same run end_is =
    let none = end_angles new.place end (rest new) end_is in
    record {
      text = same ∙ text;
      left = sym (left ∙ run.left ∙ end_left end (rest new) end_is);
      end_is = end_is;
      warnings = warned.warnings
          ∙ ap (λ ss. before ++ ss)
          (sym (append-nil warned.more) ∙ ap (λ ss. warned.more ++ ss) (sym none ∙ sym run.angles) ∙ sym warned.all
          ∙ sym (warnings_to_end at.place (rest at)));
    }
