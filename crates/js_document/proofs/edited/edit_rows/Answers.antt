use Rattle.std.proofs.Common.{length, subst, sym}
use Rattle.std.proofs.lemmas.Result.{IfOk-weaker, on_err_weaker}
use Rattle.js_document.specs.Documents.{IsKept}
use Rattle.js_document.specs.Gap.{entries_of, rows_of}
use Rattle.js_document.proofs.EditSteps.{may_put, moved, put_edits, put_held, put_may_pad}
use Rattle.js_document.proofs.HeldEdited.{moved_twice}
use Rattle.js_document.proofs.HeldLemmas.{held_rows}
use Rattle.js_document.proofs.OrderLemmas.{rows_ordered}
use Rattle.js_document.proofs.edited.edit_rows.Goals as goal

pub seek-requires : goal.seek-requires
seek-requires g c =
    let held = c.requires.held.1.held in
    (rows_ordered g.K.KeepGoals.choice g.met.K.KeepGoals.is_rule c.requires.held.0 c.args.source_type
    (rows_of (entries_of c.args.entries.now)) held.report_is.report_is.utf8
    (held_rows g.K.KeepGoals.choice g.met.K.KeepGoals.is_rule c.requires.held.0 c.args.source_type
    (rows_of (entries_of c.args.entries.now)) held.report_is)).order

pub read_edited-requires-clause-held : goal.read_edited-requires-clause-held
read_edited-requires-clause-held g c = (
  c.requires.held.0,
  moved g.K.KeepGoals.choice g.met.K.KeepGoals.is_rule g.K.KeepGoals.alike g.met.K.KeepGoals.chooses_alike
      g.met.K.KeepGoals.alike_itself g.met.K.KeepGoals.alike_behind g.met.K.KeepGoals.alike_again g.K.KeepGoals.knows
      g.met.K.KeepGoals.knows_alike g.met.K.KeepGoals.stays c.requires.held.0 c.args.edit.now.text.now c.args.edit.now.start
      c.args.edit.now.end c.args.text.now c.args.source_type c.args.open.now c.args.entries.now c.seek.new.self
      c.seek.ensures.moves c.requires.held.1,
)

pub read_edited-requires-clause-kept : goal.read_edited-requires-clause-kept
read_edited-requires-clause-kept g c =
    subst (λ es. IsKept c.args.edit.now.start (rows_of es) (length c.seek.new.self.front))
    (sym c.seek.ensures.moves.entries) c.seek.ensures.kept

pub put_read-requires-clause-change : goal.put_read-requires-clause-change
put_read-requires-clause-change g c =
    may_put g.K.KeepGoals.choice g.met.K.KeepGoals.is_rule g.K.KeepGoals.alike g.met.K.KeepGoals.chooses_alike
    g.met.K.KeepGoals.alike_itself g.met.K.KeepGoals.alike_behind g.met.K.KeepGoals.alike_again g.K.KeepGoals.knows
    g.met.K.KeepGoals.knows_alike g.met.K.KeepGoals.stays c.requires.held.0 c.args.edit.now.text.now c.args.edit.now.start
    c.args.edit.now.end c.args.text.now c.args.source_type c.args.open.now c.args.entries.now c.seek.new.self
    c.seek.ensures.moves c.requires.held.1 c.utf8.text c.read_edited.ensures.padded c.seek.ensures.kept
    c.read_edited.new.open c.read_edited.ensures.more c.in_ok-read.read.rows.items c.in_ok-read.read.left
    c.in_ok-read.ensures.rows c.pad_of.result
    c.pad_of.ensures

pub put_read-requires-clause-may_pad : goal.put_read-requires-clause-may_pad
put_read-requires-clause-may_pad g c =
    put_may_pad g.K.KeepGoals.choice g.met.K.KeepGoals.is_rule g.K.KeepGoals.alike g.met.K.KeepGoals.chooses_alike
    g.met.K.KeepGoals.alike_itself g.met.K.KeepGoals.alike_behind g.met.K.KeepGoals.alike_again g.K.KeepGoals.knows
    g.met.K.KeepGoals.knows_alike g.met.K.KeepGoals.stays c.requires.held.0 c.args.edit.now.text.now c.args.edit.now.start
    c.args.edit.now.end c.args.text.now c.args.source_type c.args.open.now c.args.entries.now c.seek.new.self
    c.seek.ensures.moves c.requires.held.1 c.utf8.text c.read_edited.ensures.padded c.seek.ensures.kept
    c.read_edited.new.open c.read_edited.ensures.more c.in_ok-read.read.rows.items c.in_ok-read.read.left
    c.in_ok-read.ensures.rows c.pad_of.result
    c.pad_of.ensures

pub returns-clause-edits : goal.returns-clause-edits
returns-clause-edits g c = λ old was e.
    IfOk-weaker c.put_read.result _ _
    (λ change r.
    put_edits g.K.KeepGoals.choice g.met.K.KeepGoals.is_rule g.K.KeepGoals.alike g.met.K.KeepGoals.chooses_alike
    g.met.K.KeepGoals.alike_itself g.met.K.KeepGoals.alike_behind g.met.K.KeepGoals.alike_again g.K.KeepGoals.knows
    g.met.K.KeepGoals.knows_alike g.met.K.KeepGoals.stays old c.args.edit.now.text.now c.args.edit.now.start
    c.args.edit.now.end c.args.text.now c.args.source_type c.args.open.now c.args.entries.now c.seek.new.self
    c.seek.ensures.moves e c.utf8.text c.read_edited.ensures.padded c.seek.ensures.kept
    c.read_edited.new.open c.read_edited.ensures.more c.in_ok-read.read.rows.items c.in_ok-read.read.left
    c.in_ok-read.ensures.rows c.pad_of.result
    c.pad_of.ensures
    c.put_read.new.entries change r was c.args.steps.now c.read_edited.new.steps c.in_ok-read.ensures.ticks)
    c.put_read.ensures.ok

pub returns-clause-held : goal.returns-clause-held
returns-clause-held g c =
    IfOk-weaker c.put_read.result _ _
    (λ change r.
    put_held g.K.KeepGoals.choice g.met.K.KeepGoals.is_rule g.K.KeepGoals.alike g.met.K.KeepGoals.chooses_alike
    g.met.K.KeepGoals.alike_itself g.met.K.KeepGoals.alike_behind g.met.K.KeepGoals.alike_again g.K.KeepGoals.knows
    g.met.K.KeepGoals.knows_alike g.met.K.KeepGoals.stays c.requires.held.0 c.args.edit.now.text.now c.args.edit.now.start
    c.args.edit.now.end c.args.text.now c.args.source_type c.args.open.now c.args.entries.now c.seek.new.self
    c.seek.ensures.moves c.requires.held.1 c.utf8.text c.read_edited.ensures.padded c.seek.ensures.kept
    c.read_edited.new.open c.read_edited.ensures.more c.in_ok-read.read.rows.items c.in_ok-read.read.left
    c.in_ok-read.ensures.rows c.pad_of.result
    c.pad_of.ensures
    c.put_read.new.entries change r)
    c.put_read.ensures.ok

pub returns-clause-err : goal.returns-clause-err
returns-clause-err g c =
    on_err_weaker c.put_read.result
    (moved_twice c.args.entries.now c.seek.new.self c.put_read.new.entries c.seek.ensures.moves) c.put_read.ensures.err
