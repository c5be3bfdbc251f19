use Rattle.std.proofs.Common.{◌∙◌, ap, length, subst, sym, take}
use Rattle.std.specs.Prelude.{Ok}
use Rattle.js_lexer.specs.Places.{ReadsInPlaces}
use Rattle.js_cursor.specs.Cursor.{CursorState}
use Rattle.js_cursor.proofs.CursorSteps.{back_from}
use Rattle.js_cursor.proofs.TokenSteps.{before_onward, onward_behind, passed_behind, stays_noting, unchanged}
use Rattle.js_cursor.proofs.cursor.Cursor.advance.Goals as goal

pub returns-in-Err-clause-err : goal.returns-in-Err-clause-err
returns-in-Err-clause-err g c =
    back_from c.args.kind c.args.self.now c.note_escape.new.self c.read_next.new.self _ c.truncate.new.self
    c.in_ok-note_escape.ensures.ok c.in-Err.ensures.err
    (c.truncate.ensures
    ∙ ap (λ n. take n c.self-2.inside.errors)
    (c.len-reported.ensures ∙ ap (λ (s : CursorState). length s.errors) c.self.view_is)
    ∙ ap (λ (s : CursorState). take (length c.args.self.now.errors) s.errors) c.self-2.view_is)
    (ap (λ (s : CursorState). record s { errors = c.truncate.new.self }) c.self-2.view_is)

pub returns-in-Err-clause-onward : goal.returns-in-Err-clause-onward
returns-in-Err-clause-onward g c =
    before_onward c.args.self.now _ (returns-in-Err-clause-err g c)
    (subst (λ (s : CursorState). ReadsInPlaces c.args.self.now.lexer s.lexer) (sym c.self-2.view_is)
    (onward_behind c.args.self.now _ c.note_escape.new.self c.read_next.new.self c.in_ok-note_escape.ensures.ok
    (stays_noting c.args.kind c.args.self.now) c.in-Err.ensures.onward).places)

pub returns-in-Ok-clause-passed : goal.returns-in-Ok-clause-passed
returns-in-Ok-clause-passed g c =
    passed_behind c.args.self.now _ c.note_escape.new.self c.read_next.new.self c.in_ok-note_escape.ensures.ok
    (stays_noting c.args.kind c.args.self.now) (Ok tt) c.in-Ok.ensures.passed

pub returns-in-Ok-clause-onward : goal.returns-in-Ok-clause-onward
returns-in-Ok-clause-onward g c =
    onward_behind c.args.self.now _ c.note_escape.new.self c.read_next.new.self c.in_ok-note_escape.ensures.ok
    (stays_noting c.args.kind c.args.self.now) c.in-Ok.ensures.onward

pub returns-in_err-note_escape-clause-onward : goal.returns-in_err-note_escape-clause-onward
returns-in_err-note_escape-clause-onward g c =
    unchanged c.args.self.now c.note_escape.new.self c.in_err-note_escape.ensures.err
