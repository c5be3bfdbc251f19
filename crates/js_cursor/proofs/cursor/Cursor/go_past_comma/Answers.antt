use Rattle.std.proofs.Common.{sym, ◌∙◌, ap, subst}
use Rattle.std.specs.Prelude.{Result, Ok, Err, OnErr}
use Rattle.js_cursor.specs.Rests.{noting_trailing_comma}
use Rattle.js_cursor.specs.Rests.EndsBehindItem.{trails}
use Rattle.js_cursor.specs.Failing.{LacksComma}
use Rattle.js_cursor.specs.Failing.LacksComma.{comma, error}
use Rattle.js_cursor.proofs.TokenSteps.{then_stays}
use Rattle.js_cursor.proofs.cursor.Cursor.go_past_comma.Goals as goal

on_err : {A E : Type 0} (r : Result A E) (P : Type 0) → P → OnErr r P
on_err (Ok x) P p = tt
on_err (Err e) P p = p

pub returns-then-at-clause-behind : goal.returns-then-at-clause-behind
returns-then-at-clause-behind g c =
    λ opening.
    trails c.requires.open c.requires.at c.go_past.new.self c.in_ok-go_past.ensures.ok
    (sym c.at.ensures.answer ∙ c.if-at.true)
    (c.in_ok-note_trailing_comma.ensures.noted
    ∙ ap (λ s. noting_trailing_comma c.args.has_rest s c.go_past.new.self) c.cur_span-span.ensures)

pub returns-in_err-note_trailing_comma-clause-onward : goal.returns-in_err-note_trailing_comma-clause-onward
returns-in_err-note_trailing_comma-clause-onward g c =
    then_stays c.args.self.now c.go_past.new.self c.note_trailing_comma.new.self c.in_ok-go_past.ensures.onward
    c.in_err-note_trailing_comma.ensures.stays

pub returns-then-at-clause-onward : goal.returns-then-at-clause-onward
returns-then-at-clause-onward g c =
    then_stays c.args.self.now c.go_past.new.self c.note_trailing_comma.new.self c.in_ok-go_past.ensures.onward
    c.in_ok-note_trailing_comma.ensures.stays

pub returns-in_err-go_past-clause-err : goal.returns-in_err-go_past-clause-err
returns-in_err-go_past-clause-err g c =
    on_err _ (LacksComma c.args.close c.args.self.now c.go_past.new.self)
    (comma (record { is_open = c.requires.open; separator_is = c.requires.at; before = c.in_err-go_past.ensures.err }))

pub returns-in_err-note_trailing_comma-clause-err : goal.returns-in_err-note_trailing_comma-clause-err
returns-in_err-note_trailing_comma-clause-err g c =
    on_err _ (LacksComma c.args.close c.args.self.now c.note_trailing_comma.new.self)
    (subst (LacksComma c.args.close c.args.self.now) (sym c.in_err-note_trailing_comma.ensures.err)
    (error c.requires.open c.requires.at c.in_ok-go_past.ensures.ok (sym c.at.ensures.answer ∙ c.if-at.true)))
